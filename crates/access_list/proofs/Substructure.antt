-- Laws of a substructure: its magic and size, the numbers that the entries before one have, of any width, and what is left to decide after one.
use Prim.Native.Nat.{ℕ, zero, suc, ◌+◌, ◌*◌, ◌-◌, ◌<◌, ◌≤◌}
use native.Mathlib.Numerals.{add-one}
use native.Mathlib.Omega.{arith}
use mathlib.Core.Path.{◌≡◌, refl, sym, subst, ap, ap₂, ◌∙◌}
use native.Mathlib.Nat.{zero-add, not-suc-le-zero, mul-le-mul}
use Rattle.std.specs.Bool.{MatchBool}
use Rattle.std.specs.List.{range_with_len, AllWithin, HoldsAt}
use Rattle.std.proofs.lemmas.List.FromFn.{length-range_with_len, get_or-range_with_len}
use lib.ListN.{length}
use mathlib.Core.Bool.{Bool, true, false, not, ◌||◌, and-false}
use mathlib.Core.List.{List, ◌∷◌}
use mathlib.Core.Logic.{⊎_elim}
use lib.Dec.{eqb}
use borrow.Author.Tests.{eqb-true, eq-eqb, ne_eqb}
use Rattle.std.specs.Prelude.{Err}
use Rattle.rules.specs.declared.Fault.{Fault}
use Rattle.rules.specs.Table.{Line, ◌gives◌, first_of, any_of}
use Rattle.rules.specs.Bytes.{byte_at}
use Rattle.rules.specs.Verdict.{Verdict, Accepted, accepted}
use Rattle.rules.specs.Substructure.{head_size, entry_count, magic_in, size_in, part_at, parts_of, parts_from, number_in, used, names, named_in, in_turn}
use Rattle.rules.proofs.Tests.{decide, clash, cond-true, first_of-append, skipped, none_good, none_falls, none_stops}
use Rattle.rules.proofs.Parts.{number_at, parts_next}
use Rattle.access_list.specs.Entries.{parts_before, number_before}

-- ---- A3 and A4, B3 and B4, B9 and B10: the magic m and the size s, before the lines that follow

abbrev headed : ℕ → Verdict → ℕ → Verdict → List ℕ → List (Line Verdict) → Verdict
headed m bad s small bytes rest = first_of Accepted ((not (eqb (magic_in bytes) m) gives bad) ∷ (not (eqb (size_in bytes) s) gives small) ∷ rest)

module _ (m : ℕ) (bad : Verdict) (s : ℕ) (small : Verdict) (bytes : List ℕ) (rest : List (Line Verdict)) {magic : ℕ} (first : magic ≡ magic_in bytes) where
  pub bad_magic_lem : (magic ≡ m → ⊥) → headed m bad s small bytes rest ≡ bad
  unfolding first_of
  bad_magic_lem other = cond-true bad _ (ap not (ne_eqb (magic_in bytes) m (λ e. other (first ∙ e))))

  module _ {size : ℕ} (good : magic ≡ m) (second : size ≡ size_in bytes) where
    past_magic : headed m bad s small bytes rest ≡ first_of Accepted ((not (eqb (size_in bytes) s) gives small) ∷ rest)
    past_magic = skipped Accepted bad _ (ap not (eq-eqb (magic_in bytes) m (sym first ∙ good)))

    pub bad_size_lem : (size ≡ s → ⊥) → headed m bad s small bytes rest ≡ small
    unfolding first_of
    bad_size_lem other = past_magic ∙ cond-true small _ (ap not (ne_eqb (size_in bytes) s (λ e. other (second ∙ e))))

    pub past_head : size ≡ s → headed m bad s small bytes rest ≡ first_of Accepted rest
    past_head right = past_magic ∙ skipped Accepted small _ (ap not (eq-eqb (size_in bytes) s (sym second ∙ right)))

-- ---- lines that have been judged, before others

module _ (rest : Verdict) (lines : List (Line Verdict)) {fault : Verdict} (judged : fault ≡ first_of Accepted lines) where
  -- a fault stops there
  pub fault-stops : {x : Fault} → fault ≡ Err x → first_of rest lines ≡ Err x
  unfolding accepted
  fault-stops bad = none_stops accepted Accepted rest lines refl (ap accepted (sym judged ∙ bad)) ∙ sym judged ∙ bad

  -- without one the others decide
  pub good_falls : none_good accepted lines ≡ true → fault ≡ Accepted → first_of rest lines ≡ rest
  unfolding accepted
  good_falls none good = none_falls accepted Accepted rest lines none (ap accepted (sym judged ∙ good))

-- ---- A6 and B7: the entries before

-- whether any of the entries before e has n as its first byte
module _ (width : ℕ) (bytes : List ℕ) (n : ℕ) where
  abbrev pub Numbered : ℕ → Type 0
  Numbered i = byte_at bytes (head_size + width * i) ≡ n

  number_there : (e k : ℕ) → k < e → Numbered k → number_before width bytes e n ≡ true
  unfolding number_before
  number_there zero k inside is = absurd (not-suc-le-zero inside)
  number_there (suc e) k inside is =
      ⊎_elim
      (λ (t : eqb (byte_at bytes (head_size + width * e)) n ≡ true). rw t)
      (λ (f : eqb (byte_at bytes (head_size + width * e)) n ≡ false).
      let other : k ≡ e → ⊥ = λ same. clash (eq-eqb _ n (subst Numbered same is)) f in
      rw f (number_there e k (omega (arith, other)) is))
      (decide (eqb (byte_at bytes (head_size + width * e)) n))

  number_nowhere : (e : ℕ) → ((k : ℕ) → k < e → Numbered k → ⊥) → number_before width bytes e n ≡ false
  unfolding number_before
  number_nowhere zero none = refl
  number_nowhere (suc e) none =
      rw (ne_eqb (byte_at bytes (head_size + width * e)) n (none e (omega arith))) (number_nowhere e (λ k inside. none k (omega arith)))

  pub number_told : (e : ℕ) (r : Bool)
      → MatchBool r ((k : ℕ) × (k < length (range_with_len 0 e)) × HoldsAt Numbered (range_with_len 0 e) k)
      (AllWithin (λ i. Numbered i → ⊥) (range_with_len 0 e) 0 (length (range_with_len 0 e))) → r ≡ number_before width bytes e n
  number_told e true (k, inside, is) =
      let below : k < e = omega (arith, inside, length-range_with_len 0 e) in
      sym (number_there e k below (subst Numbered (get_or-range_with_len 0 e k 0 below ∙ zero-add k) (is 0)))
  number_told e false none =
      sym
      (number_nowhere e
      (λ k below is.
      none k 0 (omega arith) (omega (arith, below, length-range_with_len 0 e)) (subst Numbered (sym (get_or-range_with_len 0 e k 0 below ∙ zero-add k)) is)))

-- the newest of the entries before i, where j is one less, and its first byte has been read
module _ (width : ℕ) (bytes : List ℕ) (i j n : ℕ) {x : ℕ} (next : i ≡ suc j) (at : x ≡ byte_at bytes (head_size + width * j)) where
  newest : number_before width bytes i n ≡ (eqb x n || number_before width bytes j n)
  unfolding number_before
  newest = ap (λ (m : ℕ). number_before width bytes m n) next ∙ ap (λ (y : ℕ). eqb y n || number_before width bytes j n) (sym at)

  pub number_here : x ≡ n → number_before width bytes i n ≡ true
  number_here is = newest ∙ rw (eq-eqb x n is)

  pub number_passed : (x ≡ n → ⊥) → number_before width bytes i n ≡ number_before width bytes j n
  number_passed other = newest ∙ rw (ne_eqb x n other)

-- an entry that has a number but 0 is used
used-names : (part : List ℕ) (n : ℕ) → (n ≡ 0 → ⊥) → names n part ≡ eqb (number_in part) n
used-names part n some =
    ⊎_elim
    (λ (t : eqb (number_in part) n ≡ true).
    let is = eqb-true (number_in part) n t in rw (ne_eqb (number_in part) 0 (λ z. some (sym is ∙ z))))
    (λ (f : eqb (number_in part) n ≡ false). rw f (and-false (used part)))
    (decide (eqb (number_in part) n))

-- so of a number but 0 this is what A6 and B7 ask for
pub number_named : (width : ℕ) (bytes : List ℕ) (e n : ℕ) → 0 < width → (n ≡ 0 → ⊥) → number_before width bytes e n ≡ named_in (parts_before width bytes e) n
unfolding number_before parts_before named_in any_of
number_named width bytes zero n wide some = refl
number_named width bytes (suc e) n wide some =
    ap₂ ◌||◌
    (ap (λ (x : ℕ). eqb x n) (sym (number_at width bytes e wide)) ∙ sym (used-names (part_at width bytes e) n some))
    (number_named width bytes e n wide some)

-- the place of a number is small
pub place_small : (width i : ℕ) → width ≤ 255 → i ≤ 255 → width * i ≤ 65025
place_small width i low high = mul-le-mul low high

-- ---- the entries in turn

module _ (lines : List (List ℕ) → List ℕ → List (Line Verdict)) (width : ℕ) (bytes : List ℕ) where
  -- what the entries from e on come to, each with its lines after the entries before it
  unfoldable pub verdict_from : ℕ → Verdict
  verdict_from e = first_of Accepted (in_turn lines (parts_before width bytes e) (parts_from width bytes e (entry_count - e)))

  -- it is what entry e comes to before those from e + 1 on
  pub from_entry : (e : ℕ) → e < entry_count → verdict_from e ≡ first_of (verdict_from (e + 1)) (lines (parts_before width bytes e) (part_at width bytes e))
  unfolding verdict_from parts_before in_turn
  from_entry e h =
      let own = lines (parts_before width bytes e) (part_at width bytes e) in
      let behind = parts_from width bytes (e + 1) (entry_count - (e + 1)) in
      ap (λ (parts : List (List ℕ)). first_of Accepted (in_turn lines (parts_before width bytes e) parts)) (parts_next width bytes e h)
      ∙ first_of-append Accepted own (in_turn lines (part_at width bytes e ∷ parts_before width bytes e) behind)
      ∙ ap (λ (n : ℕ). first_of (first_of Accepted (in_turn lines (parts_before width bytes n) behind)) own) (sym (add-one e))

  -- after the last there is no fault
  pub from_last : (e : ℕ) → e ≡ entry_count → verdict_from e ≡ Accepted
  unfolding verdict_from parts_of in_turn first_of
  from_last e last = rw last
