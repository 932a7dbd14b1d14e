-- What a trace leaves and gives is what the rules leave and give for its calls.
use Prim.Native.Nat.{ℕ}
use mathlib.Core.Path.{◌≡◌, refl, sym, ap, ap₂, ◌∙◌}
use mathlib.Core.Bool.{Bool, true, false, cond}
use mathlib.Core.List.{List, [], ◌∷◌, ◌++◌, map}
use lib.ListN.{length, take, drop}
use lib.Seq.{take-append_seam}
use Rattle.rules.specs.declared.Report.{Report}
use Rattle.rules.specs.Answer.{report_of}
use Rattle.rules.specs.State.{Setup, Records, State, stored}
use Rattle.rules.specs.Call.{Offer, board, list, block, after_message, Answer, answer_to, Lent, query_of, offer, message, next}
use Rattle.rules.specs.Sequence.{run}
use Rattle.noninterference.specs.Statement.{picked, answers}
use Rattle.board.specs.Memory.{board_in}
use Rattle.access.specs.Memory.{setup_in}
use Rattle.record.specs.Memory.{Memories, state_in, state_of, kept}
use Rattle.call_message.specs.Calls.{MessageCall}
use Rattle.pomrozek.specs.Exported.{ExportedMessage}
use Rattle.traces.specs.Trace.{Step, board_step, list_step, block_step, message_step, before_of, after_of, call_of, Meets, Trace, done, step, end_of, calls_of}
use Rattle.traces.specs.Statement.{Given, in_numbers, written_in, given}
use Rattle.record.proofs.Kept.{answer_kept, message_kept, offer_kept}

-- the memories hold what is kept of a state
abbrev pub Holds : Memories → State → Type 0
Holds m s = state_of m ≡ kept s

-- ---- one step

module _ (s : State) (before after : Memories) (holds : Holds before s) where
  offer_holds : (o : Offer) → state_of after ≡ kept (next (state_of before) (offer o)) → Holds after (next s (offer o))
  unfolding next
  offer_holds o left = left ∙ ap (λ (t : State). kept (next t (offer o))) holds ∙ offer_kept s o

  -- an offer that gets the access memory leaves the board memory and the records
  access_holds : (o : Offer) → after.board ≡ before.board → after.records ≡ before.records
      → state_in (board_in before.board) after.access before.records ≡ kept (next (state_of before) (offer o))
      → Holds after (next s (offer o))
  access_holds o same records left =
      offer_holds o (ap₂ (λ (l m : List ℕ). state_in (board_in l) after.access m) same records ∙ left)

  module _ (lent : Lent) {held : List ℕ} {told : Report} (meets : MessageCall before lent after.records held told) where
    message_holds : after.board ≡ before.board → after.access ≡ before.access → Holds after (next s (message lent))
    unfolding next after_message stored state_in
    message_holds same access =
        ap₂ (λ (u : Setup) (rs : Records). record { setup = u; records = rs }) (ap₂ (λ (l a : List ℕ). setup_in (board_in l) a) same access) meets.records
        ∙ ap (λ (t : State). next t (message lent)) holds
        ∙ message_kept s (query_of lent)

    -- what it told is the rules' answer: the report, and as many bytes of the buffer as were written
    answer_told : record { report = told; bytes = take told.written held } ≡ answer_to s (query_of lent)
    unfolding answer_to report_of
    answer_told =
        let there = answer_to (state_of before) (query_of lent) in
        ap₂ (λ (r : Report) (bytes : List ℕ). record { report = r; bytes = take r.written bytes }) meets.report meets.buffer
        ∙ ap (λ (bytes : List ℕ). record { report = there.report; bytes = bytes }) (take-append_seam there.bytes (drop (length there.bytes) lent.buffer))
        ∙ ap (λ (t : State). answer_to t (query_of lent)) holds
        ∙ answer_kept s (query_of lent)

  -- and what it gave is that in numbers
  pub given-told : (lent : Lent) {outcome : ℕ} {report held : List ℕ} → ExportedMessage before lent after.records held report outcome
      → ◌≡◌ {A = Given} (record { outcome = outcome; report = report; bytes = take (written_in report) held }) (in_numbers (answer_to s (query_of lent)))
  given-told lent {held = held} meets =
      (λ t. record { outcome = meets.number t; report = meets.words t; bytes = take (written_in (meets.words t)) held })
      ∙ ap in_numbers (answer_told lent meets.meets)

-- a step that starts from memories that hold s
pub step_holds : (x : Step) (s : State) → Meets x → Holds (before_of x) s → Holds (after_of x) (next s (call_of x))
unfolding Meets before_of after_of call_of
step_holds (board_step bytes before after verdict) s meets holds =
    offer_holds s before after holds (board bytes)
    (ap₂ (state_in (board_in after.board)) meets.1 meets.2 ∙ meets.0.meets.state before.records)
step_holds (list_step bytes before after verdict) s meets holds =
    access_holds s before after holds (list bytes) meets.1 meets.2 (meets.0.meets.state before.records)
step_holds (block_step major minor bytes before after verdict loop) s meets holds =
    access_holds s before after holds (block major minor bytes) meets.1 meets.2 (meets.0.meets.state before.records)
step_holds (message_step lent before after outcome report held) s meets holds =
    message_holds s before after holds lent meets.0.meets meets.1 meets.2

-- where two memories are one, they hold the same
pub held_by_lem : {m n : Memories} (s : State) → m ≡ n → Holds n s → Holds m s
held_by_lem s same holds = ap (λ (l : Memories). state_of l) same ∙ holds

-- ---- whole traces

-- the memories at the end hold the state that the calls leave
pub trace_holds : {m : Memories} {xs : List Step} → Trace m xs → (s : State) → Holds m s → Holds (end_of m xs) (run s (calls_of xs))
unfolding end_of calls_of run
trace_holds done s holds = holds
trace_holds (step {x = x} starts meets rest) s holds =
    trace_holds rest (next s (call_of x)) (step_holds x s meets (held_by_lem s starts holds))

-- what the picked steps gave are the rules' answers to the picks, in numbers
in_both : (b : Bool) (a : Answer) (later : List Answer) → map in_numbers (cond b (a ∷ later) later) ≡ cond b (in_numbers a ∷ map in_numbers later) (map in_numbers later)
in_both true a later = refl
in_both false a later = refl

module _ (setup : Setup) (chosen : List ℕ) where
  given-more : (x : Step) (xs : List Step) (s : State) → Meets x → Holds (before_of x) s
      → given setup chosen xs ≡ map in_numbers (answers setup chosen (next s (call_of x)) (calls_of xs))
      → given setup chosen (x ∷ xs) ≡ map in_numbers (answers setup chosen s (call_of x ∷ calls_of xs))
  unfolding given answers call_of Meets before_of
  given-more (board_step bytes before after verdict) xs s meets holds rest = rest
  given-more (list_step bytes before after verdict) xs s meets holds rest = rest
  given-more (block_step major minor bytes before after verdict loop) xs s meets holds rest = rest
  given-more (message_step lent before after outcome report held) xs s meets holds rest =
      ap₂ (λ (a : Given) (later : List Given). cond (picked setup chosen (query_of lent)) (a ∷ later) later)
      (given-told s before after holds lent meets.0)
      rest
      ∙ sym (in_both (picked setup chosen (query_of lent)) _ _)

  pub trace_given : {m : Memories} {xs : List Step} → Trace m xs → (s : State) → Holds m s
      → given setup chosen xs ≡ map in_numbers (answers setup chosen s (calls_of xs))
  unfolding calls_of given answers
  trace_given done s holds = refl
  trace_given (step {x = x} {xs = xs} starts meets rest) s holds =
      let from : Holds (before_of x) s = held_by_lem s starts holds in
      given-more x xs s meets from (trace_given rest (next s (call_of x)) (step_holds x s meets from))

-- a trace of two runs of steps is a trace of each
pub trace_first : {m : Memories} (xs ys : List Step) → Trace m (xs ++ ys) → Trace m xs
trace_first [] ys t = done
trace_first {m = m} (x ∷ xs) ys (step starts meets rest) = step starts meets (trace_first {m = after_of x} xs ys rest)

pub trace_then : {m : Memories} (xs ys : List Step) → Trace m (xs ++ ys) → Trace (end_of m xs) ys
unfolding end_of
trace_then [] ys t = t
trace_then {m = m} (x ∷ xs) ys (step starts meets rest) = trace_then {m = after_of x} xs ys rest
