-- The tallies of one record (document 02, L10): what a message leaves in each, that each change of the controller counts for one tally, and
-- nothing else counts, and that grants and releases tell below the cap whether the processor is held.
use Prim.Native.Nat.{ℕ, ◌+◌, ◌≤◌, ◌<◌, min}
use mathlib.Core.Path.{◌≡◌, refl, sym, subst, subst⁻¹, ap}
use mathlib.Core.Bool.{true, false, cond, ◌&&◌}
use mathlib.Core.Logic.{⊎_elim}
use native.Mathlib.Omega.{arith}
use lib.Dec.{eqb, ltb}
use borrow.Author.Tests.{eqb-true, eq-eqb, ltb-true, ltb-false, lt-ltb, le-ltb}
use Rattle.rules.specs.declared.Kind.{Kind}
use Rattle.rules.specs.declared.Kind.TheVariants.{Request, Release, Handover, SetConfig, SetControl, AuthBoot, GetStatus, WaitStatus, Other}
use Rattle.rules.specs.declared.Record.{Record}
use Rattle.rules.specs.Board.{Board}
use Rattle.rules.specs.AccessList.{Entry}
use Rattle.rules.specs.Role.{permits, permitted}
use Rattle.rules.specs.Message.{Query, is_kind, kind_in, new_host_of}
use Rattle.rules.specs.Outcome.{View, is_free, is_controller, outcome_of, carried_out}
use Rattle.rules.specs.Tally.{Tally, grants, overrides, handovers, releases, tally_in, tally_of, counts_for, tally_count, controller_changes, cap, one_more, tally_after, tallies_after, held_count, differ_by, difference_good}
use Rattle.rules.specs.Effect.{effect_of, record_after}
use Rattle.rules.specs.Warranty.{DifferenceTold}
use Rattle.rules.proofs.Tests.{decide, clash, cond-true, cond-false}
use Rattle.rules.proofs.Permission.{role_zero}
use Rattle.rules.proofs.Rights.{Allowed, allowed, sender_active, active_not_zero}

-- ---- one more, up to the cap

module _ (n : ℕ) where
  pub more_below : n < cap → one_more n ≡ n + 1
  unfolding one_more
  more_below low = cond-true (n + 1) n (lt-ltb n cap low)

  pub more_at : cap ≤ n → one_more n ≡ n
  unfolding one_more
  more_at high = cond-false (n + 1) n (le-ltb n cap high)

  more_capped : n ≤ cap → one_more n ≤ cap
  more_capped h =
      ⊎_elim (λ t. let low = ltb-true n cap t in let is = more_below low in omega arith)
      (λ f. subst⁻¹ (λ (k : ℕ). k ≤ cap) (more_at (ltb-false n cap f)) h)
      (decide (ltb n cap))

  -- it stays below the cap only where it was, and then it is one more
  below_more : one_more n < cap → (n < cap) × (one_more n ≡ n + 1)
  below_more h =
      ⊎_elim (λ t. let low = ltb-true n cap t in (low, more_below low))
      (λ f. let high = ltb-false n cap f in let is = more_at high in absurd (omega arith))
      (decide (ltb n cap))

  -- one more and then m more is m and one more, up to the cap
  pub more_sum : (m : ℕ) → n ≤ cap → min cap (one_more n + m) ≡ min cap (n + (1 + m))
  more_sum m h =
      ⊎_elim (λ t. let is = more_below (ltb-true n cap t) in omega arith)
      (λ f. let high = ltb-false n cap f in let is = more_at high in omega arith)
      (decide (ltb n cap))

-- ---- what an effect leaves in each

each_tally : (t : Tally) (k : Kind) (h : ℕ) (r : Record) → tally_in t (tallies_after k h r) ≡ tally_after t k h r
unfolding tallies_after
each_tally grants k h r = refl
each_tally overrides k h r = refl
each_tally handovers k h r = refl
each_tally releases k h r = refl

-- a message that is no request, no handover and no release counts for none
module _ (k : Kind) (h : ℕ) (r : Record) (no-request : is_kind k Request ≡ false) (no-handover : is_kind k Handover ≡ false)
    (no-release : is_kind k Release ≡ false) where
  counts-none : (t : Tally) → counts_for t k h r ≡ false
  unfolding counts_for
  counts-none grants = rw no-request
  counts-none overrides = rw no-request
  counts-none handovers = rw no-handover
  counts-none releases = no-release

  tally_kept : (t : Tally) → tally_of t r ≡ tally_after t k h r
  unfolding tally_after
  tally_kept t = sym (cond-false (one_more (tally_of t r)) (tally_of t r) (counts-none t))

effect_tally : (t : Tally) (k : Kind) (q : Query) (r : Record) → tally_of t (effect_of k q r) ≡ tally_after t k (effect_of k q r).controller r
effect_tally t Request q r = each_tally t Request q.channel r
effect_tally t Release q r = each_tally t Release 0 r
effect_tally t Handover q r = each_tally t Handover (new_host_of q.message) r
effect_tally t SetConfig q r = tally_kept SetConfig r.controller r refl refl refl t
effect_tally t SetControl q r = tally_kept SetControl r.controller r refl refl refl t
effect_tally t AuthBoot q r = tally_kept AuthBoot r.controller r refl refl refl t
effect_tally t GetStatus q r = tally_kept GetStatus r.controller r refl refl refl t
effect_tally t WaitStatus q r = tally_kept WaitStatus r.controller r refl refl refl t
effect_tally t Other q r = tally_kept Other r.controller r refl refl refl t

-- a tally after a call: one more where the message is carried out and counts
module _ (t : Tally) (v : View) (q : Query) where
  pub after-tally : tally_of t (record_after v q)
      ≡ cond (carried_out (outcome_of v q) && counts_for t (kind_in q.message) (record_after v q).controller v.state)
      (one_more (tally_of t v.state))
      (tally_of t v.state)
  unfolding record_after tally_after
  after-tally =
      ⊎_elim (λ (ok : carried_out (outcome_of v q) ≡ true). rw ok (effect_tally t (kind_in q.message) q v.state))
      (λ (no : carried_out (outcome_of v q) ≡ false). rw no)
      (decide (carried_out (outcome_of v q)))

  -- and so none comes above the cap
  pub after-capped : tally_of t v.state ≤ cap → tally_of t (record_after v q) ≤ cap
  after-capped h =
      let one = carried_out (outcome_of v q) && counts_for t (kind_in q.message) (record_after v q).controller v.state in
      let stood = tally_of t v.state in
      subst⁻¹ (λ (n : ℕ). n ≤ cap) after-tally
      (⊎_elim (λ y. subst⁻¹ (λ (n : ℕ). n ≤ cap) (cond-true (one_more stood) stood y) (more_capped stood h))
      (λ n. subst⁻¹ (λ (k : ℕ). k ≤ cap) (cond-false (one_more stood) stood n) h)
      (decide one))

-- ---- who controls before and after

-- host 0 is permitted nowhere
permitted-not_zero : (b : Board) (e : Entry) (h : ℕ) → permitted b e h ≡ true → eqb h 0 ≡ false
unfolding permitted
permitted-not_zero b e h is =
    ⊎_elim (λ zero. clash is (ap permits (role_zero b e h (eqb-true h 0 zero)))) (λ some. some) (decide (eqb h 0))

-- the sender of a message that is carried out is not host 0, and so what it controls is not free
module _ (v : View) (q : Query) {k : Kind} (a : Allowed v q k) where
  sender_not_zero : eqb q.channel 0 ≡ false
  sender_not_zero = active_not_zero v.board q.channel (sender_active v.board q a.sender)

  held-not_free : is_controller v.state q.channel ≡ true → is_free v.state ≡ false
  held-not_free is = subst⁻¹ (λ (n : ℕ). eqb n 0 ≡ false) (eqb-true v.state.controller q.channel is) sender_not_zero

-- ---- each change of the controller counts for one tally, and nothing else counts

kept-counts : (k : Kind) (r : Record) → is_kind k Request ≡ false → is_kind k Handover ≡ false → is_kind k Release ≡ false
    → tally_count k r.controller r ≡ controller_changes r.controller r
kept-counts k r a b c =
    let none = counts-none k r.controller r a b c in
    rw (none grants, none overrides, none handovers, none releases, eq-eqb r.controller r.controller refl)

module _ (r : Record) (h : ℕ) where
  request-counts : eqb h 0 ≡ false → tally_count Request h r ≡ controller_changes h r
  unfolding counts_for
  request-counts some =
      ⊎_elim
      (λ (free : is_free r ≡ true).
      ⊎_elim (λ mine. clash (subst (λ (n : ℕ). eqb n 0 ≡ true) (eqb-true r.controller h mine) free) some)
      (λ (other : is_controller r h ≡ false). rw (free, other))
      (decide (is_controller r h)))
      (λ (held : is_free r ≡ false).
      ⊎_elim (λ (mine : is_controller r h ≡ true). rw (held, mine)) (λ (other : is_controller r h ≡ false). rw (held, other))
      (decide (is_controller r h)))
      (decide (is_free r))

  handover-counts : tally_count Handover h r ≡ controller_changes h r
  unfolding counts_for
  handover-counts =
      ⊎_elim (λ (mine : is_controller r h ≡ true). rw mine) (λ (other : is_controller r h ≡ false). rw other)
      (decide (is_controller r h))

release-counts : (r : Record) → is_free r ≡ false → tally_count Release 0 r ≡ controller_changes 0 r
unfolding counts_for
release-counts r held = rw held

effect_counts : (k : Kind) (v : View) (q : Query) → Allowed v q k
    → tally_count k (effect_of k q v.state).controller v.state ≡ controller_changes (effect_of k q v.state).controller v.state
effect_counts Request v q a = request-counts v.state q.channel (sender_not_zero v q a)
effect_counts Release v q a =
    release-counts v.state (held-not_free v q a a.right)
effect_counts Handover v q a = handover-counts v.state (new_host_of q.message)
effect_counts SetConfig v q a = kept-counts SetConfig v.state refl refl refl
effect_counts SetControl v q a = kept-counts SetControl v.state refl refl refl
effect_counts AuthBoot v q a = kept-counts AuthBoot v.state refl refl refl
effect_counts GetStatus v q a = kept-counts GetStatus v.state refl refl refl
effect_counts WaitStatus v q a = kept-counts WaitStatus v.state refl refl refl
effect_counts Other v q a = kept-counts Other v.state refl refl refl

-- "calls that change no controller count in none", and one that changes it counts in one
pub counted-once : (v : View) (q : Query) → carried_out (outcome_of v q) ≡ true
    → tally_count (kind_in q.message) (record_after v q).controller v.state ≡ controller_changes (record_after v q).controller v.state
unfolding record_after
counted-once v q ok =
    subst⁻¹ (λ (r : Record). tally_count (kind_in q.message) r.controller v.state ≡ controller_changes r.controller v.state)
    (cond-true (effect_of (kind_in q.message) q v.state) v.state ok)
    (effect_counts (kind_in q.message) v q (allowed v q ok))

-- ---- the difference of grants and releases

module _ (held granted released : ℕ) where
  difference_says : differ_by held granted released ≡ true → granted < cap → released < cap → granted ≡ released + held
  difference_says good below low =
      eqb-true granted (released + held) (rw (lt-ltb granted cap below, lt-ltb released cap low) at good)

  difference_so : (granted < cap → released < cap → granted ≡ released + held) → differ_by held granted released ≡ true
  difference_so is =
      ⊎_elim
      (λ (g : ltb granted cap ≡ true).
      ⊎_elim
      (λ (l : ltb released cap ≡ true). rw (g, l) (eq-eqb granted (released + held) (is (ltb-true granted cap g) (ltb-true released cap l))))
      (λ (f : ltb released cap ≡ false). rw (g, f))
      (decide (ltb released cap)))
      (λ (f : ltb granted cap ≡ false). rw f)
      (decide (ltb granted cap))

-- the test says what it tells
pub difference_told : (r : Record) → difference_good r ≡ true → DifferenceTold r
unfolding difference_good
difference_told r = difference_says (held_count r) (tally_of grants r) (tally_of releases r)

pub told_difference : (r : Record) → DifferenceTold r → difference_good r ≡ true
unfolding difference_good
told_difference r = difference_so (held_count r) (tally_of grants r) (tally_of releases r)

module _ (granted released : ℕ) where
  -- a grant of what was free, and a release of what was held
  difference_granted : differ_by 0 granted released ≡ true → differ_by 1 (one_more granted) released ≡ true
  difference_granted good =
      difference_so 1 (one_more granted) released
      (λ below low.
      let more = below_more granted below in
      let was = difference_says 0 granted released good more.0 low in
      let is = more.1 in
      omega arith)

  difference_released : differ_by 1 granted released ≡ true → differ_by 0 granted (one_more released) ≡ true
  difference_released good =
      difference_so 0 granted (one_more released)
      (λ below low.
      let more = below_more released low in
      let was = difference_says 1 granted released good below more.0 in
      let is = more.1 in
      omega arith)

module _ (q : Query) (r : Record) (good : difference_good r ≡ true) where
  request-differs : eqb q.channel 0 ≡ false → difference_good (effect_of Request q r) ≡ true
  unfolding difference_good held_count tallies_after tally_after counts_for
  request-differs some =
      ⊎_elim
      (λ (free : is_free r ≡ true). rw (some, free) (difference_granted (tally_of grants r) (tally_of releases r) (rw free at good)))
      (λ (held : is_free r ≡ false). rw (some, held) (rw held at good))
      (decide (is_free r))

  module _ (held : is_free r ≡ false) where
    release-differs : difference_good (effect_of Release q r) ≡ true
    unfolding difference_good held_count tallies_after tally_after counts_for
    release-differs = difference_released (tally_of grants r) (tally_of releases r) (rw held at good)

    handover-differs : eqb (new_host_of q.message) 0 ≡ false → difference_good (effect_of Handover q r) ≡ true
    unfolding difference_good held_count tallies_after tally_after counts_for
    handover-differs some = rw some (rw held at good)

module _ (v : View) (q : Query) (good : difference_good v.state ≡ true) where
  effect_differs : (k : Kind) → Allowed v q k → difference_good (effect_of k q v.state) ≡ true
  unfolding difference_good held_count
  effect_differs Request a = request-differs q v.state good (sender_not_zero v q a)
  effect_differs Release a =
      release-differs q v.state good (held-not_free v q a a.right)
  effect_differs Handover a =
      handover-differs q v.state good (held-not_free v q a a.right)
      (permitted-not_zero v.board v.entry (new_host_of q.message) a.operands)
  effect_differs SetConfig a = good
  effect_differs SetControl a = good
  effect_differs AuthBoot a = good
  effect_differs GetStatus a = good
  effect_differs WaitStatus a = good
  effect_differs Other a = good

  -- every call keeps it
  pub after-differs : difference_good (record_after v q) ≡ true
  unfolding record_after
  after-differs =
      let after = effect_of (kind_in q.message) q v.state in
      ⊎_elim
      (λ ok.
      subst⁻¹ (λ (r : Record). difference_good r ≡ true) (cond-true after v.state ok) (effect_differs (kind_in q.message) (allowed v q ok)))
      (λ no. subst⁻¹ (λ (r : Record). difference_good r ≡ true) (cond-false after v.state no) good)
      (decide (carried_out (outcome_of v q)))
