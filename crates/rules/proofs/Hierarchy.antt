-- What B8 means (document 02, L1), for any entries: where no host is reported, following supervisors ends from every host; where one is, it lies on a
-- loop and is the first in entry order; and where a host lies on a loop, one is reported. A way with more steps than entries comes to a host
-- twice.
use Prim.Native.Nat.{ℕ, suc, ◌+◌, ◌*◌, ◌-◌, ◌<◌, ◌≤◌}
use mathlib.Core.Path.{◌≡◌, refl, sym, subst, subst⁻¹, ◌∙◌, ap}
use mathlib.Core.Bool.{Bool, true, false, not}
use mathlib.Core.List.{List, [], ◌∷◌}
use mathlib.Core.Logic.{⊎_elim}
use native.Mathlib.Nat.{add_comm, mul-suc}
use native.Mathlib.Omega.{arith}
use lib.ListN.{length}
use lib.Dec.{eqb}
use borrow.Author.Tests.{eqb-true, eqb-false, eq-eqb, ne_eqb, not-true, not-false}
use Rattle.rules.specs.Table.{any_of, place_of}
use Rattle.rules.specs.Substructure.{used, names, named_in}
use Rattle.rules.specs.Hierarchy.{host_in, supervisor_in, supervisor_of, on_loop, first_host, loop_host, climb, at_end, Ends, OnLoop, FirstOnLoop}
use Rattle.rules.proofs.Tests.{decide, clash, and_left, and_right, and_both, or_cases, or_left, or_right, or_false_left, or_false_right, cond-true, cond-false}
use Rattle.rules.proofs.Rows.{place_head, place_past, place_one, place_there}
use Rattle.rules.proofs.Climbs.{climb-add, climb-last, climb-rounds, climb-zero, meets-comes, meets-some, meets-there, up_to, Twice, pigeonhole}

-- ---- entries

-- an entry names one host, which is not 0
names-is : (h : ℕ) (pair : List ℕ) → names h pair ≡ true → host_in pair ≡ h
names-is h pair t = eqb-true (host_in pair) h (and_right (used pair) (eqb (host_in pair) h) t)

names-one : (x h : ℕ) (pair : List ℕ) → names x pair ≡ true → names h pair ≡ true → x ≡ h
names-one x h pair tx th = sym (names-is x pair tx) ∙ names-is h pair th

names-some : (h : ℕ) (pair : List ℕ) → names h pair ≡ true → h ≡ 0 → ⊥
names-some h pair t none =
    eqb-false (host_in pair) 0 (not-true (eqb (host_in pair) 0) (and_left (used pair) (eqb (host_in pair) h) t)) (names-is h pair t ∙ none)

-- an entry whose host is not 0 names it
names-own : (pair : List ℕ) → (host_in pair ≡ 0 → ⊥) → names (host_in pair) pair ≡ true
names-own pair some = and_both (ap not (ne_eqb (host_in pair) 0 some)) (eq-eqb (host_in pair) (host_in pair) refl)

named_some : (entries : List (List ℕ)) (h : ℕ) → named_in entries h ≡ true → h ≡ 0 → ⊥
unfolding named_in any_of
named_some [] h named = clash {x = false} named refl
named_some (pair ∷ rest) h named =
    ⊎_elim (names-some h pair) (named_some rest h) (or_cases (names h pair) (named_in rest h) named)

-- a host without an entry has no supervisor
unnamed_none : (entries : List (List ℕ)) (h : ℕ) → named_in entries h ≡ false → supervisor_of entries h ≡ 0
unfolding named_in any_of supervisor_of
unnamed_none [] h without = refl
unnamed_none (pair ∷ rest) h without =
    cond-false (supervisor_in pair) (supervisor_of rest h) (or_false_left (names h pair) (named_in rest h) without)
    ∙ unnamed_none rest h (or_false_right (names h pair) (named_in rest h) without)

-- ---- the first host that passes a test, which 0 does not

module _ (test : ℕ → Bool) (off : test 0 ≡ false) where
  passes_some : (h : ℕ) → test h ≡ true → h ≡ 0 → ⊥
  passes_some h t none = clash t (ap test none ∙ off)

  -- where none is given, no host with an entry passes
  first_none : (entries : List (List ℕ)) → first_host test entries ≡ 0 → (h : ℕ) → named_in entries h ≡ true → test h ≡ false
  unfolding named_in any_of first_host
  first_none [] none h named = clash {x = false} named refl
  first_none (pair ∷ rest) none h named =
      ⊎_elim
      (λ t. absurd (passes_some (host_in pair) t (sym (cond-true (host_in pair) (first_host test rest) t) ∙ none)))
      (λ f.
      ⊎_elim (λ here. subst (λ (x : ℕ). test x ≡ false) (names-is h pair here) f)
      (λ later. first_none rest (sym (cond-false (host_in pair) (first_host test rest) f) ∙ none) h later)
      (or_cases (names h pair) (named_in rest h) named))
      (decide (test (host_in pair)))

  -- where one is given, it has an entry and passes, and no host that passes has an earlier entry
  record Given (entries : List (List ℕ)) (h : ℕ) : Type 0 where
    named : named_in entries h ≡ true
    passes : test h ≡ true
    first : (x : ℕ) → test x ≡ true → place_of (names h) entries ≤ place_of (names x) entries

  given-head : (pair : List ℕ) (rest : List (List ℕ)) → test (host_in pair) ≡ true → Given (pair ∷ rest) (host_in pair)
  unfolding named_in any_of
  given-head pair rest t =
      let own = names-own pair (passes_some (host_in pair) t) in
      record {
        named = or_left (named_in rest (host_in pair)) own;
        passes = t;
        first =
            λ x tx.
            subst⁻¹ (λ (n : ℕ). n ≤ place_of (names x) (pair ∷ rest)) (place_head (names (host_in pair)) pair rest own)
            (omega arith);
      }

  -- an entry whose host does not pass comes before those that do
  place_later : (pair : List ℕ) (rest : List (List ℕ)) → test (host_in pair) ≡ false → (x : ℕ) → test x ≡ true
      → place_of (names x) (pair ∷ rest) ≡ suc (place_of (names x) rest)
  place_later pair rest f x t =
      ⊎_elim (λ here. clash t (ap test (sym (names-is x pair here)) ∙ f)) (λ past. place_past (names x) pair rest past) (decide (names x pair))

  given-later : (pair : List ℕ) (rest : List (List ℕ)) (h : ℕ) → test (host_in pair) ≡ false → Given rest h → Given (pair ∷ rest) h
  unfolding named_in any_of
  given-later pair rest h f g =
      record {
        named = or_right (names h pair) g.named;
        passes = g.passes;
        first =
            λ x tx.
            let less = g.first x tx in
            let at-h = place_later pair rest f h g.passes in
            let at_x = place_later pair rest f x tx in
            omega arith;
      }

  first_some : (entries : List (List ℕ)) → (first_host test entries ≡ 0 → ⊥) → Given entries (first_host test entries)
  unfolding first_host
  first_some [] some = absurd (some refl)
  first_some (pair ∷ rest) some =
      ⊎_elim
      (λ (t : test (host_in pair) ≡ true). rw t (given-head pair rest t))
      (λ (f : test (host_in pair) ≡ false).
      rw f (given-later pair rest (first_host test rest) f (first_some rest (λ none. some (cond-false (host_in pair) (first_host test rest) f ∙ none)))))
      (decide (test (host_in pair)))

-- ---- loops

module _ (entries : List (List ℕ)) where
  abbrev up : ℕ → ℕ
  up = supervisor_of entries

  -- behind a host without an entry, and behind 0, comes 0
  zero_stays : up 0 ≡ 0
  zero_stays =
      unnamed_none entries 0
      (⊎_elim (λ t. absurd (named_some entries 0 t refl)) (λ f. f) (decide (named_in entries 0)))

  -- host 0 lies on no loop
  zero_off : on_loop entries 0 ≡ false
  unfolding on_loop
  zero_off = meets-some up (length entries) (up 0)

  -- a way of hosts with entries, longer than there are entries, comes to one of them twice
  chain_twice : (h : ℕ) → ((k : ℕ) → k ≤ length entries → named_in entries (climb up k h) ≡ true) → Twice (λ (k : ℕ). climb up k h) (length entries)
  unfolding named_in
  chain_twice h each =
      let there : (k : ℕ) → k ≤ length entries → place_of (names (climb up k h)) entries < length entries =
      λ k within. place_there (names (climb up k h)) entries (each k within)
      in
      let found = pigeonhole (length entries) (λ (k : ℕ). place_of (names (climb up k h)) entries) there in
      record {
        low = found.low;
        high = found.high;
        apart = found.apart;
        within = found.within;
        same = place_one names names-one entries (climb up found.low h) (climb up found.high h) found.same (there found.high found.within);
      }

  module _ (h : ℕ) (t : Twice (λ (k : ℕ). climb up k h) (length entries)) where
    -- the steps between the two
    between : ℕ
    between = t.high - t.low

    between_some : between ≡ suc (between - 1)
    unfolding between
    between_some = let less = t.apart in omega arith

    between_few : between - 1 < length entries
    unfolding between
    between_few = let less = t.apart in let most = t.within in omega arith

    -- they lead from the host back to it
    between_back : climb up between (climb up t.low h) ≡ climb up t.low h
    unfolding between
    between_back =
        let less = t.apart in
        let whole : t.low + (t.high - t.low) ≡ t.high = omega arith in
        sym (climb-add up t.low (t.high - t.low) h) ∙ ap (λ (k : ℕ). climb up k h) whole ∙ sym t.same

  -- who comes back within as many steps as there are entries is found
  back_found : (h d : ℕ) → named_in entries h ≡ true → d < length entries → climb up (suc d) h ≡ h → on_loop entries h ≡ true
  unfolding on_loop climb
  back_found h d named few back = meets-there up zero_stays h (named_some entries h named) (length entries) d (up h) few back

  -- what the test finds lies on a loop
  found-lies : (h : ℕ) → named_in entries h ≡ true → on_loop entries h ≡ true → OnLoop entries h
  unfolding on_loop climb
  found-lies h named found =
      let met = meets-comes up h (length entries) (up h) found in
      record { entry = named; steps = met.0; back = met.2 }

  module _ (h : ℕ) (lies : OnLoop entries h) where
    abbrev round : ℕ
    round = suc lies.steps

    -- every host on the way has an entry
    all_named : (k : ℕ) → named_in entries (climb up k h) ≡ true
    all_named k =
        ⊎_elim (λ t. t)
        (λ without.
        let gone : climb up (suc k) h ≡ 0 = climb-last up k h ∙ unnamed_none entries (climb up k h) without in
        let rest = suc k * lies.steps in
        let whole : suc k + rest ≡ suc k * round = add_comm (suc k) rest ∙ sym (mul-suc (suc k) lies.steps) in
        absurd
        (named_some entries h lies.entry
        (sym (climb-rounds up round h lies.back (suc k))
        ∙ ap (λ (n : ℕ). climb up n h) (sym whole)
        ∙ climb-add up (suc k) rest h
        ∙ ap (climb up rest) gone
        ∙ climb-zero up zero_stays rest)))
        (decide (named_in entries (climb up k h)))

    -- so it is found
    pub lies_found : on_loop entries h ≡ true
    lies_found =
        let t = chain_twice h (λ k within. all_named k) in
        let i = t.low in
        let d = between h t in
        let m = i * lies.steps in
        let whole : i + m ≡ i * round = add_comm i m ∙ sym (mul-suc i lies.steps) in
        let home : climb up m (climb up i h) ≡ h =
        sym (climb-add up i m h) ∙ ap (λ (n : ℕ). climb up n h) whole ∙ climb-rounds up round h lies.back i
        in
        back_found h (d - 1) lies.entry (between_few h t)
        (ap (λ (n : ℕ). climb up n h) (sym (between_some h t))
        ∙ ap (climb up d) (sym home)
        ∙ sym (climb-add up m d (climb up i h))
        ∙ ap (λ (n : ℕ). climb up n (climb up i h)) (add_comm m d)
        ∙ climb-add up d m (climb up i h)
        ∙ ap (climb up m) (between_back h t)
        ∙ home)

  -- ---- what is reported

  -- with no host reported, following supervisors ends from every host
  pub none_ends : loop_host entries ≡ 0 → (h : ℕ) → Ends entries h
  unfolding loop_host
  none_ends none h =
      ⊎_elim (λ found. found)
      (λ never.
      let named : (k : ℕ) → k ≤ length entries → named_in entries (climb up k h) ≡ true =
      λ k within. not-false (named_in entries (climb up k h)) (or_false_right (eqb (climb up k h) 0) (not (named_in entries (climb up k h))) (never k within))
      in
      let t = chain_twice h named in
      let less = t.apart in
      let most = t.within in
      let x = climb up t.low h in
      let has = named t.low (omega arith) in
      clash (back_found x (between h t - 1) has (between_few h t) (ap (λ (n : ℕ). climb up n x) (sym (between_some h t)) ∙ between_back h t))
      (first_none (on_loop entries) zero_off entries none x has))
      (up_to (λ (k : ℕ). at_end entries (climb up k h)) (length entries))

  -- a host that is reported lies on a loop, and is the first in entry order that does
  pub reported_first : (loop_host entries ≡ 0 → ⊥) → FirstOnLoop entries (loop_host entries)
  unfolding loop_host
  reported_first some =
      let g = first_some (on_loop entries) zero_off entries some in
      record { lies = found-lies (loop_host entries) g.named g.passes; first = λ x lies. g.first x (lies_found x lies) }

  -- where a host lies on a loop, one is reported
  pub loop-reported : (h : ℕ) → OnLoop entries h → loop_host entries ≡ 0 → ⊥
  unfolding loop_host
  loop-reported h lies none = clash (lies_found h lies) (first_none (on_loop entries) zero_off entries none h lies.entry)
