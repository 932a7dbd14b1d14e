-- The answer's bytes by case, and what fits the room.
use Prim.Native.Nat.{ℕ, ◌≤◌}
use mathlib.Core.Path.{◌≡◌, refl, sym, subst, ap, ◌∙◌}
use mathlib.Core.Bool.{Bool, true, false, cond}
use mathlib.Core.List.{List, [], ◌++◌}
use mathlib.Core.Logic.{⊎_elim}
use lib.ListN.{length}
use lib.Dec.{leb, lit≤}
use Rattle.rules.specs.declared.Kind.{Kind}
use Rattle.rules.specs.declared.Kind.TheVariants.{Request, Release, Handover, SetConfig, SetControl, AuthBoot, GetStatus, WaitStatus, Other}
use Rattle.rules.specs.declared.Record.{Record}
use Rattle.rules.specs.Message.{Query, largest_answer, answer_asked, is_kind, kind_in}
use Rattle.rules.specs.Outcome.{Outcome, OK, carried_out, silent}
use Rattle.rules.specs.Effect.{effect_of}
use Rattle.rules.specs.Answer.{ack, nak, status_bytes, status_now, ack_bytes, bytes_for, answer_bytes, buffer_after}
use Rattle.rules.proofs.Tests.{decide, cond-false}
use Rattle.message_answer.specs.Puts.{fitted, Puts}

-- ---- what fits

-- no bytes always fit
pub fitted_none : (room : ℕ) → fitted room [] ≡ []
unfolding fitted
fitted_none room = ⊎_elim (λ t. rw t) (λ f. rw f) (decide (leb 0 room))

-- nothing is written
pub puts_none : (held bytes : List ℕ) → bytes ≡ [] → Puts bytes held held 0
puts_none held bytes none =
    let nothing = ap (fitted (length held)) none ∙ fitted_none (length held) in
    record { count = sym (ap length nothing); buffer = sym (ap (λ (l : List ℕ). buffer_after l held) nothing) }

-- what `put` says of these bytes
pub puts_given : (held bytes given after : List ℕ) (n : ℕ) → given ≡ bytes
    → (n ≡ cond (leb (length given) (length held)) (length given) 0)
    × (after ≡ cond (leb (length given) (length held)) (buffer_after given held) held)
    → Puts bytes held after n
unfolding fitted
puts_given held bytes given after n same put =
    rw (← same)
    (⊎_elim (λ (t : leb (length given) (length held) ≡ true). record { count = rw t (rw t at put.0); buffer = rw t (rw t at put.1) })
    (λ (f : leb (length given) (length held) ≡ false). record { count = rw f (rw f at put.0); buffer = rw f (rw f at put.1) })
    (decide (leb (length given) (length held))))

-- the same bytes by another name
pub puts_same : {bytes bytes' held held' : List ℕ} {n : ℕ} → bytes ≡ bytes' → Puts bytes held held' n → Puts bytes' held held' n
puts_same {held = held} {held' = held'} {n = n} same puts = subst (λ (l : List ℕ). Puts l held held' n) same puts

-- ---- the bytes by case

module _ (o : Outcome) (q : Query) (r : Record) where
  pub bytes-unasked : answer_asked q.message ≡ false → answer_bytes o q r ≡ []
  unfolding answer_bytes
  bytes-unasked f = cond-false _ _ f

  -- OK is the only outcome that is carried out
  pub bytes_ok : carried_out o ≡ true → answer_bytes OK q r ≡ answer_bytes o q r
  unfolding answer_bytes bytes_for carried_out
  bytes_ok ok = rw ok

  -- of R1 to R3 the sender is told nothing
  pub bytes-silent : carried_out o ≡ false → silent o ≡ true → answer_bytes o q r ≡ []
  unfolding answer_bytes bytes_for
  bytes-silent refused quiet =
      ⊎_elim
      (λ (asked : answer_asked q.message ≡ true). rw (asked, refused, quiet))
      bytes-unasked
      (decide (answer_asked q.message))

  -- any other refusal is a NAK where one is asked for
  pub bytes-nak : carried_out o ≡ false → silent o ≡ false → cond (answer_asked q.message) (nak q.message) [] ≡ answer_bytes o q r
  unfolding answer_bytes bytes_for
  bytes-nak refused loud = rw (refused, loud)

module _ (q : Query) (r : Record) (asked : answer_asked q.message ≡ true) where
  -- OK to get status has the record and the status now
  pub bytes-status : kind_in q.message ≡ GetStatus → answer_bytes OK q r ≡ ack q.message ++ status_bytes q.message r (status_now q)
  unfolding answer_bytes bytes_for ack_bytes carried_out
  bytes-status is = rw (asked, is)

  -- to any other type it is the header alone
  pub bytes-ack : is_kind (kind_in q.message) GetStatus ≡ false → answer_bytes OK q r ≡ ack q.message
  unfolding answer_bytes bytes_for ack_bytes carried_out
  bytes-ack other = rw (asked, other)

-- a type that the code found not to be get status
pub not_status : (k : Kind) → (k ≡ GetStatus → ⊥) → is_kind k GetStatus ≡ false
not_status Request bad = refl
not_status Release bad = refl
not_status Handover bad = refl
not_status SetConfig bad = refl
not_status SetControl bad = refl
not_status AuthBoot bad = refl
not_status GetStatus bad = absurd (bad refl)
not_status WaitStatus bad = refl
not_status Other bad = refl

-- ---- how long an answer is

pub bytes-short : (o : Outcome) (q : Query) (r : Record) → length (answer_bytes o q r) ≤ largest_answer
unfolding answer_bytes bytes_for ack_bytes
bytes-short o q r = go (answer_asked q.message) (carried_out o) (silent o) (is_kind (kind_in q.message) GetStatus) refl refl refl refl
  where
    go : (a c s g : Bool) → answer_asked q.message ≡ a → carried_out o ≡ c → silent o ≡ s → is_kind (kind_in q.message) GetStatus ≡ g
        → length (answer_bytes o q r) ≤ largest_answer
    go false c s g ea ec es eg = rw ea (lit≤ tt)
    go true true s true ea ec es eg = rw (ea, ec, eg) (lit≤ tt)
    go true true s false ea ec es eg = rw (ea, ec, eg) (lit≤ tt)
    go true false true g ea ec es eg = rw (ea, ec, es) (lit≤ tt)
    go true false false g ea ec es eg = rw (ea, ec, es) (lit≤ tt)

-- ---- the record is the one before the call: only get status answers with it, which changes nothing

ack-after : (k : Kind) (q : Query) (r : Record) → ack_bytes k q (effect_of k q r) ≡ ack_bytes k q r
unfolding ack_bytes
ack-after Request q r = refl
ack-after Release q r = refl
ack-after Handover q r = refl
ack-after SetConfig q r = refl
ack-after SetControl q r = refl
ack-after AuthBoot q r = refl
ack-after GetStatus q r = refl
ack-after WaitStatus q r = refl
ack-after Other q r = refl

pub bytes_after : (o : Outcome) (q : Query) (r : Record) → carried_out o ≡ true
    → answer_bytes o q (effect_of (kind_in q.message) q r) ≡ answer_bytes o q r
unfolding answer_bytes bytes_for
bytes_after o q r ok = rw ok (ap (λ (l : List ℕ). cond (answer_asked q.message) l []) (ack-after (kind_in q.message) q r))
