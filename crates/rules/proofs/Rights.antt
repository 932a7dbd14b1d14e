-- What OK means: every row of the table is clear; so a sender whose message is carried out has a right that the entry names, and leaves
-- the processor free or with a permitted host. A refusal changes no record.
use Prim.Native.Nat.{ℕ, ◌≤◌}
use mathlib.Core.Path.{◌≡◌, refl, subst}
use mathlib.Core.Bool.{Bool, true, false, not, ◌&&◌, ◌||◌}
use mathlib.Core.Logic.{⊎_elim}
use native.Mathlib.Nat.{le_trans}
use lib.ListN.{length}
use lib.Dec.{eqb, leb, lit≤}
use borrow.Author.Tests.{eqb-true, eq-eqb, ltb-false, le-leb, not-true, not-false}
use Rattle.rules.specs.declared.Kind.{Kind}
use Rattle.rules.specs.declared.Kind.TheVariants.{Request, Release, Handover, SetConfig, SetControl, AuthBoot, GetStatus, WaitStatus, Other}
use Rattle.rules.specs.declared.Record.{Record}
use Rattle.rules.specs.Table.{first_of}
use Rattle.rules.specs.Board.{Board, active_host, on_board}
use Rattle.rules.specs.AccessList.{Entry}
use Rattle.rules.specs.Role.{role_of, is_master, permits, permitted}
use Rattle.rules.specs.Message.{Query, host_of, kind_in, size_of, names_processor, subject_of, is_about}
use Rattle.rules.specs.Outcome.{Outcome, OK, View, sender_wrong, type_unknown, too_short, not_offered, is_free, is_controller, may_request, has_right, operands_good, before_type, on_type, behind_type, admission, by_words, outcome_table, outcome_of, carried_out}
use Rattle.rules.specs.Effect.{effect_of, record_after}
use Rattle.rules.proofs.Permission.{master_permits}
use Rattle.rules.proofs.Tests.{decide, clash, and_left, and_right, and_both, or_cases, or_right, or_false_left, cond-true, cond-false, cleared, passed, first_of-append}

-- ---- every row of the admission is clear where the outcome is OK

-- what these rows say of a message that is admitted
pub record Allowed (v : View) (q : Query) (k : Kind) : Type 0 where
  pub listed : v.listed ≡ true
  pub sender : sender_wrong v.board q ≡ false
  pub known : type_unknown k ≡ false
  pub whole : too_short k q ≡ false
  pub offered : not_offered k ≡ false
  pub onboard : on_board v.board (subject_of q) ≡ true
  pub right : has_right k v q ≡ true
  pub operands : operands_good k v q ≡ true

module _ (v : View) (q : Query) where
  -- whatever is decided below these rows
  pub admitted_allowed : (k : Kind) (below : Outcome) → carried_out (first_of below (admission v q k)) ≡ true → Allowed v q k
  unfolding before_type on_type behind_type admission carried_out
  admitted_allowed k below ok =
      let r1 = passed carried_out below _ _ _ refl ok in
      let r2 = passed carried_out below _ _ _ refl r1 in
      let n1 = passed carried_out below _ _ _ refl r2 in
      let n2 = passed carried_out below _ _ _ refl n1 in
      let n3 = passed carried_out below _ _ _ refl n2 in
      let n4 = passed carried_out below _ _ _ refl n3 in
      let n5 = passed carried_out below _ _ _ refl n4 in
      let n6 = passed carried_out below _ _ _ refl n5 in
      let n7 = passed carried_out below _ _ _ refl n6 in
      record {
        listed = not-false _ (cleared carried_out below _ _ _ refl r2);
        sender = cleared carried_out below _ _ _ refl n1;
        known = cleared carried_out below _ _ _ refl n2;
        whole = cleared carried_out below _ _ _ refl n3;
        offered = cleared carried_out below _ _ _ refl n4;
        onboard = not-false _ (cleared carried_out below _ _ _ refl n5);
        right = not-false _ (cleared carried_out below _ _ _ refl n6);
        operands = not-false _ (cleared carried_out below _ _ _ refl n7);
      }

  pub allowed : carried_out (outcome_of v q) ≡ true → Allowed v q (kind_in q.message)
  unfolding outcome_of outcome_table
  allowed ok =
      let k = kind_in q.message in
      admitted_allowed k (first_of OK (by_words q k))
      (subst (λ (o : Outcome). carried_out o ≡ true) (first_of-append OK (admission v q k) (by_words q k)) ok)

-- ---- who has a right on a processor with an entry

-- the sender is a board host and not 0
pub sender_active : (b : Board) (q : Query) → sender_wrong b q ≡ false → active_host b q.channel ≡ true
unfolding sender_wrong
sender_active b q e =
    not-false (active_host b q.channel)
    (or_false_left (not (active_host b q.channel)) (not (eqb q.channel (host_of q.message))) e)

pub active_not_zero : (b : Board) (h : ℕ) → active_host b h ≡ true → eqb h 0 ≡ false
unfolding active_host
active_not_zero b h a = not-true (eqb h 0) (and_left (not (eqb h 0)) _ a)

-- free, or held by a host that the entry permits
abbrev pub soundly : Board → Entry → Record → Bool
soundly b e r = is_free r || permitted b e r.controller

-- the controller of a processor held so is permitted, unless it is none
controller_permitted : (b : Board) (e : Entry) (r : Record) (h : ℕ)
    → soundly b e r ≡ true → eqb h 0 ≡ false → is_controller r h ≡ true → permitted b e h ≡ true
controller_permitted b e r h s z c =
    let is : r.controller ≡ h = eqb-true r.controller h c in
    ⊎_elim (λ free. clash (rw is at free) z) (λ p. rw is at p) (or_cases (is_free r) (permitted b e r.controller) s)

requester_permitted : (b : Board) (e : Entry) (r : Record) (h : ℕ) → may_request (role_of b e h) r ≡ true → permitted b e h ≡ true
unfolding permitted
requester_permitted b e r h m =
    ⊎_elim (λ p. and_right (is_free r) (permits (role_of b e h)) p) (λ p. master_permits (role_of b e h) p)
    (or_cases (is_free r && permits (role_of b e h)) (is_master (role_of b e h)) m)

module _ (v : View) (q : Query) (sound : soundly v.board v.entry v.state ≡ true) where
  -- a right on a processor that is soundly held is a right that its entry names
  right_permitted : (k : Kind) → eqb q.channel 0 ≡ false → has_right k v q ≡ true → permitted v.board v.entry q.channel ≡ true
  right_permitted Request z t = requester_permitted v.board v.entry v.state q.channel t
  right_permitted Release z t = controller_permitted v.board v.entry v.state q.channel sound z t
  right_permitted Handover z t = controller_permitted v.board v.entry v.state q.channel sound z t
  right_permitted SetConfig z t = controller_permitted v.board v.entry v.state q.channel sound z t
  right_permitted SetControl z t = controller_permitted v.board v.entry v.state q.channel sound z t
  right_permitted AuthBoot z t = clash {x = false} t refl
  right_permitted GetStatus z t = t
  right_permitted WaitStatus z t = t
  right_permitted Other z t = clash {x = false} t refl

  -- a message that is carried out comes from a host that the entry permits
  pub sender_permitted : carried_out (outcome_of v q) ≡ true → permitted v.board v.entry q.channel ≡ true
  sender_permitted ok =
      let a = allowed v q ok in
      right_permitted (kind_in q.message) (active_not_zero v.board q.channel (sender_active v.board q a.sender)) a.right

  -- an effect leaves the processor free or with a permitted host
  effect_sound : (k : Kind) → permitted v.board v.entry q.channel ≡ true → operands_good k v q ≡ true
      → soundly v.board v.entry (effect_of k q v.state) ≡ true
  effect_sound Request p g = or_right (is_free (effect_of Request q v.state)) p
  effect_sound Release p g = refl
  effect_sound Handover p g = or_right (is_free (effect_of Handover q v.state)) g
  effect_sound SetConfig p g = sound
  effect_sound SetControl p g = sound
  effect_sound AuthBoot p g = sound
  effect_sound GetStatus p g = sound
  effect_sound WaitStatus p g = sound
  effect_sound Other p g = sound

  -- every call leaves the processor free or with a permitted host
  pub after-sound : soundly v.board v.entry (record_after v q) ≡ true
  unfolding record_after
  after-sound =
      ⊎_elim
      (λ ok.
      rw (cond-true (effect_of (kind_in q.message) q v.state) v.state ok)
      (effect_sound (kind_in q.message) (sender_permitted ok) (allowed v q ok).operands))
      (λ no. rw (cond-false (effect_of (kind_in q.message) q v.state) v.state no) sound)
      (decide (carried_out (outcome_of v q)))

-- a refusal changes no record
pub refusal_keeps : (v : View) (q : Query) → carried_out (outcome_of v q) ≡ false → record_after v q ≡ v.state
unfolding record_after
refusal_keeps v q e = cond-false _ _ e

-- ---- what a message that is carried out is about

-- every type but authenticated boot has its processor in byte 8
size_covers : (k : Kind) → type_unknown k ≡ false → not_offered k ≡ false → (names_processor k ≡ true) × (9 ≤ size_of k)
unfolding names_processor
size_covers Request u o = (refl, lit≤ tt)
size_covers Release u o = (refl, lit≤ tt)
size_covers Handover u o = (refl, lit≤ tt)
size_covers SetConfig u o = (refl, lit≤ tt)
size_covers SetControl u o = (refl, lit≤ tt)
size_covers AuthBoot u o = clash {x = true} refl o
size_covers GetStatus u o = (refl, lit≤ tt)
size_covers WaitStatus u o = (refl, lit≤ tt)
size_covers Other u o = clash {x = true} refl u

-- it is about the processor whose record it works on
pub carried_about : (v : View) (q : Query) → carried_out (outcome_of v q) ≡ true → is_about q (subject_of q) ≡ true
unfolding is_about
carried_about v q ok =
    let a = allowed v q ok in
    let c = size_covers (kind_in q.message) a.known a.offered in
    let long = ltb-false (length q.message) (size_of (kind_in q.message)) a.whole in
    and_both (and_both c.0 (le-leb 9 (length q.message) (le_trans c.1 long)))
    (eq-eqb (subject_of q) (subject_of q) refl)

-- and a message about p works on p's record
pub about_names : (q : Query) (p : ℕ) → is_about q p ≡ true → subject_of q ≡ p
unfolding is_about
about_names q p a =
    eqb-true (subject_of q) p
    (and_right (names_processor (kind_in q.message) && leb 9 (length q.message)) (eqb (subject_of q) p) a)
