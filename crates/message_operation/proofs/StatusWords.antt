-- The rows R3 and N9, which look at status words: of get status, and of wait status with what it reports.
use Prim.Native.Nat.{ℕ, ◌≤◌, ◌<◌}
use mathlib.Core.Path.{◌≡◌, refl, sym, subst, ◌∙◌}
use mathlib.Core.Bool.{Bool, true, false, cond, or-false}
use mathlib.Core.List.{List}
use lib.ListN.{length}
use lib.Dec.{eqb}
use borrow.Author.Tests.{lt-ltb, le-ltb}
use Rattle.std.specs.Prelude.{Err, None}
use Rattle.rules.specs.declared.Kind.{Kind}
use Rattle.rules.specs.declared.Kind.TheVariants.{GetStatus, WaitStatus}
use Rattle.rules.specs.declared.Refusal.TheVariants.{R3, N9}
use Rattle.rules.specs.declared.Record.{Record}
use Rattle.rules.specs.declared.Wait.{Wait}
use Rattle.rules.specs.Table.{first_of}
use Rattle.rules.specs.Board.{Board}
use Rattle.rules.specs.Message.{Query, wait_in}
use Rattle.rules.specs.Wait.{ran_out, checks_of, micros_of}
use Rattle.rules.specs.Outcome.{Outcome, OK, words_missing, wait_failed, by_words, carried_out}
use Rattle.rules.specs.Answer.{waited, tells_role}
use Rattle.rules.proofs.Tests.{cond-true, cond-false}
use Rattle.record.specs.Memory.{Memories, view_in}
use Rattle.message_operation.specs.declared.Decision.{Decision}
use Rattle.message_operation.specs.Operation.{seen_in, decision_on, alone, Carries}
use Rattle.message_operation.proofs.Rows.{Comes, Refused, Admitted, board_held, record_seen, keeps_records, decided, plainly}

-- ---- of any type

module _ {b : Board} {k : Kind} {q : Query} {access : List ℕ} {state : Record} (past : Admitted b k q access state) where
  words_missing_lem : words_missing k q ≡ true → Refused b k q access state (Err R3)
  unfolding carried_out first_of by_words
  words_missing_lem missing =
      record { comes = record { is = past.is ∙ cond-true _ _ missing }; refused = refl; early = refl }

  words_there : words_missing k q ≡ false → Comes b k q access state (cond (wait_failed k q) (Err N9) OK)
  unfolding first_of by_words
  words_there there = record { is = past.is ∙ cond-false _ _ there }

-- ---- get status

module _ {b : Board} {q : Query} {access : List ℕ} {state : Record} (past : Admitted b GetStatus q access state) where
  pub no_word : eqb (length q.status) 0 ≡ true → Refused b GetStatus q access state (Err R3)
  unfolding words_missing
  no_word none = words_missing_lem past (or-false _ ∙ none)

  pub a_word : eqb (length q.status) 0 ≡ false → Comes b GetStatus q access state OK
  unfolding words_missing wait_failed
  a_word some = words_there past (or-false _ ∙ some)

-- what the contract asks, whatever the records hold
pub reads : {m : Memories} {q : Query} {o : Outcome} → Comes (board_held m) GetStatus q m.access (record_seen m q) o
    → Carries GetStatus m q m.records (alone o)
unfolding view_in
reads {m} {q} {o} comes = plainly refl refl (record { is = sym comes.is; left = keeps_records GetStatus m q (λ r. refl) o })

-- ---- wait status

module _ {b : Board} {q : Query} {access : List ℕ} {state : Record} {w : Wait} (past : Admitted b WaitStatus q access state)
    (here : w ≡ wait_in q.message) where
  pub few_words : length q.status < w.waits → Refused b WaitStatus q access state (Err R3)
  unfolding words_missing
  few_words few = words_missing_lem past (lt-ltb _ _ (subst (λ (v : Wait). length q.status < v.waits) here few))

  pub enough_words : w.waits ≤ length q.status → Comes b WaitStatus q access state (cond (ran_out w q.status) (Err N9) OK)
  unfolding words_missing wait_failed
  enough_words enough =
      subst (λ (v : Wait). Comes b WaitStatus q access state (cond (ran_out v q.status) (Err N9) OK)) (sym here)
      (words_there past (le-ltb _ _ (subst (λ (v : Wait). v.waits ≤ length q.status) here enough)))

-- a wait that ended reports them, OK or N9
ended : (out : Bool) → waited WaitStatus (cond out (Err N9) OK) ≡ true
unfolding waited carried_out
ended true = refl
ended false = refl

-- a refusal reports no checks
module _ {m : Memories} {q : Query} where
  waits_to : {o : Outcome} {d : Decision} → Comes (board_held m) WaitStatus q m.access (record_seen m q) o → d ≡ decision_on WaitStatus (seen_in m q) q o → Carries WaitStatus m q m.records d
  unfolding view_in
  waits_to {o} comes is = decided is (record { is = sym comes.is; left = keeps_records WaitStatus m q (λ r. refl) o })

  pub unwaits : {o : Outcome} {d : Decision} → Refused (board_held m) WaitStatus q m.access (record_seen m q) o → d ≡ alone o → Carries WaitStatus m q m.records d
  unfolding decision_on waited tells_role
  unwaits r is = waits_to r.comes (is ∙ rw (r.refused, r.early))

  pub waits : {w : Wait} {d : Decision} → w ≡ wait_in q.message
      → Comes (board_held m) WaitStatus q m.access (record_seen m q) (cond (ran_out w q.status) (Err N9) OK)
      → d ≡ record { outcome = cond (ran_out w q.status) (Err N9) OK; checks = checks_of w q.status; micros = micros_of w q.status; role = None }
      → Carries WaitStatus m q m.records d
  unfolding decision_on tells_role
  waits {w} here comes is = waits_to comes (is ∙ rw (ended (ran_out w q.status), here))
