-- The message call over plain lists: what its steps leave is what the rules give.
use Prim.Native.Nat.{ℕ, ◌≤◌, ◌<◌}
use mathlib.Core.Path.{◌≡◌, refl, sym, ap, ◌∙◌}
use mathlib.Core.Bool.{true, false}
use mathlib.Core.List.{List}
use mathlib.Core.Logic.{⊎_elim}
use native.Mathlib.Nat.{le_trans}
use lib.ListN.{length}
use lib.Dec.{ltb}
use borrow.Author.Tests.{le-leb, ltb-true, ltb-false}
use Rattle.std.specs.Prelude.{Err}
use Rattle.rules.specs.declared.Kind.{Kind}
use Rattle.rules.specs.declared.Refusal.TheVariants.{R1}
use Rattle.rules.specs.declared.Record.{Record}
use Rattle.rules.specs.declared.Report.{Report}
use Rattle.rules.specs.Table.{first_of}
use Rattle.rules.specs.Board.{Board, rows, row_of, on_board}
use Rattle.rules.specs.Message.{Query, largest_answer, query, kind_in, subject_of}
use Rattle.rules.specs.Outcome.{Outcome, View, before_type, admission, outcome_table, outcome_of, carried_out, silent}
use Rattle.rules.specs.Effect.{effect_of, record_after}
use Rattle.rules.specs.Answer.{ack_bytes, bytes_for, answer_bytes, answer_of, report_of, buffer_after}
use Rattle.rules.specs.State.{State, view_of, put_in, stored}
use Rattle.rules.specs.Call.{after_message, answer_to, next}
use Rattle.rules.proofs.Tests.{decide, cond-true, cond-false}
use Rattle.rules.proofs.Rights.{allowed}
use Rattle.board.specs.Memory.{board_in}
use Rattle.access.specs.Memory.{access_size, setup_in}
use Rattle.record.specs.Memory.{record_size, memories, record_at, records_in, state_in, view_in}
use Rattle.record.proofs.LentMemory.{record_length, record_same, store_same, records_store, view_in_lem}
use Rattle.message_operation.specs.declared.Decision.{Decision}
use Rattle.message_operation.specs.Operation.{subject_row, memory_after, decision_on, Decides}
use Rattle.message_answer.specs.Puts.{fitted, Puts}
use Rattle.message_answer.proofs.Answers.{fitted_none, bytes-silent, bytes-short, bytes_after}
use Rattle.call_message.specs.Calls.{lending, MessageCall}

-- ---- every answer fits

-- so no call writes more than the largest has
pub written_short : (s : State) (q : Query) → (answer_to s q).report.written ≤ largest_answer
unfolding answer_to report_of answer_of
written_short s q = bytes-short _ q _

-- R1 has no answer, and any other outcome has room for it
all_fits : (v : View) (q : Query) → fitted q.room (answer_of v q) ≡ answer_of v q
unfolding answer_of fitted outcome_of outcome_table admission before_type first_of carried_out silent
all_fits v q =
    ⊎_elim
    (λ (small : ltb q.room largest_answer ≡ true).
    let refused : outcome_of v q ≡ (Err R1) = cond-true _ _ small in
    let none = ap (λ (o : Outcome). answer_bytes o q v.state) refused ∙ bytes-silent (Err R1) q v.state refl refl in
    ap (fitted q.room) none ∙ fitted_none q.room ∙ sym none)
    (λ (room : ltb q.room largest_answer ≡ false).
    let fits = le-leb _ q.room (le_trans (bytes-short (outcome_of v q) q v.state) (ltb-false q.room largest_answer room)) in
    rw fits)
    (decide (ltb q.room largest_answer))

-- ---- the message call

-- a processor on the board has one of the rows
row_there : (b : Board) (p : ℕ) → on_board b p ≡ true → row_of b p < rows
unfolding on_board
row_there b p on = ltb-true (row_of b p) rows on

-- a message leaves the record memory as long as it was
pub memory_length : (b : Board) (k : Kind) (o : Outcome) (m : List ℕ) (q : Query) → length (memory_after b k o m q) ≡ length m
unfolding memory_after
memory_length b k o m q =
    ⊎_elim (λ t. ap length (cond-true _ m t) ∙ record_length b m (subject_row b q) _) (λ f. ap length (cond-false _ m f)) (decide (carried_out o))

module _ (board a m : List ℕ) (channel : ℕ) (bytes words held : List ℕ) (la : length a ≡ access_size) (lm : length m ≡ record_size) where
  abbrev b : Board
  b = board_in board

  abbrev q : Query
  q = query channel bytes words (length held)

  abbrev v : View
  v = view_in b a m (subject_row b q)

  -- what the call sees, by the rules and by the code
  sees : view_of (state_in b a m) (subject_of q) ≡ v
  sees = view_in_lem b a m (subject_of q) la

  -- the memory after the call: the records of the next state
  next-records : records_in (memory_after b (kind_in bytes) (outcome_of v q) m q) ≡ put_in b (records_in m) (subject_row b q) (record_after v q)
  unfolding memory_after record_after view_in
  next-records =
      ⊎_elim
      (λ ok.
      ap records_in (cond-true _ _ ok) ∙ records_store b m (subject_row b q) (effect_of (kind_in bytes) q (record_at b m (subject_row b q))) lm
      ∙ ap (put_in b (records_in m) (subject_row b q)) (sym (cond-true _ _ ok)))
      (λ no.
      ap records_in (cond-false _ _ no ∙ sym (store_same b m (subject_row b q))) ∙ records_store b m (subject_row b q) (record_at b m (subject_row b q)) lm
      ∙ ap (put_in b (records_in m) (subject_row b q)) (sym (cond-false _ _ no)))
      (decide (carried_out (outcome_of v q)))

  -- the answer's record is read after the call, and is the one before it as far as the answer goes
  same_bytes : answer_bytes (outcome_of v q) q (record_at b (memory_after b (kind_in bytes) (outcome_of v q) m q) (subject_row b q)) ≡ answer_of v q
  unfolding memory_after answer_of view_in
  same_bytes =
      let o = outcome_of v q in
      ⊎_elim
      (λ ok.
      ap (λ (l : List ℕ). answer_bytes o q (record_at b l (subject_row b q))) (cond-true _ _ ok)
      ∙ ap (answer_bytes o q) (record_same b m (subject_row b q) (effect_of (kind_in bytes) q (record_at b m (subject_row b q))) lm (row_there b (subject_of q) (allowed v q ok).onboard))
      ∙ bytes_after o q (record_at b m (subject_row b q)) ok)
      (λ no. ap (λ (l : List ℕ). answer_bytes o q (record_at b l (subject_row b q))) (cond-false _ _ no))
      (decide (carried_out o))

  -- the answer needs neither the channel nor the room
  plain_query : (o : Outcome) (r : Record) → answer_bytes o (query 0 bytes words 0) r ≡ answer_bytes o q r
  unfolding answer_bytes bytes_for ack_bytes
  plain_query o r = refl

  pub message_call_lem : (d : Decision) (n : ℕ) (m' held' : List ℕ)
      → Decides outcome_table (kind_in bytes) (memories board a m) q m' d
      → Puts (answer_bytes d.outcome (query 0 bytes words 0) (record_at b m' (subject_row b (query 0 bytes words 0)))) held held' n
      → MessageCall (memories board a m) (lending channel bytes words held) m' held'
      (record { outcome = d.outcome; checks = d.checks; micros = d.micros; written = n; role = d.role })
  unfolding state_in answer_to next after_message stored report_of decision_on subject_of setup_in outcome_of
  message_call_lem d n m' held' decides puts =
      let is : d.outcome ≡ outcome_of v q = ap (λ (x : Decision). x.outcome) decides.decision in
      let left : m' ≡ memory_after b (kind_in bytes) (outcome_of v q) m q = decides.records ∙ ap (λ (o : Outcome). memory_after b (kind_in bytes) o m q) is in
      let fits : fitted (length held) (answer_bytes d.outcome (query 0 bytes words 0) (record_at b m' (subject_row b (query 0 bytes words 0)))) ≡ answer_of v q =
      ap (fitted (length held))
      (plain_query d.outcome _
      ∙ ap (λ (o : Outcome). answer_bytes o q (record_at b m' (subject_row b q))) is
      ∙ ap (λ (l : List ℕ). answer_bytes (outcome_of v q) q (record_at b l (subject_row b q))) left
      ∙ same_bytes)
      ∙ all_fits v q
      in
      let here : ◌≡◌ {A = Report} (record { outcome = d.outcome; checks = d.checks; micros = d.micros; written = n; role = d.role }) (report_of v q) =
      λ t.
      record {
        outcome = (decides.decision t).outcome;
        checks = (decides.decision t).checks;
        micros = (decides.decision t).micros;
        written = (puts.count ∙ ap length fits) t;
        role = (decides.decision t).role;
      }
      in
      record {
        report = here ∙ ap (λ (x : View). report_of x q) (sym sees);
        records = ap records_in left ∙ next-records ∙ ap (λ (x : View). put_in b (records_in m) (subject_row b q) (record_after x q)) (sym sees);
        buffer =
            puts.buffer
            ∙ ap (λ (l : List ℕ). buffer_after l held) fits
            ∙ ap (λ (x : View). buffer_after (answer_of x q) held) (sym sees);
      }
