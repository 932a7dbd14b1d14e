-- What the message call promises, over the definitions that demand 3 is about.
use Rattle.std.specs.Prelude.{ℕ, ◌≡◌, List}
use Rattle.rules.specs.declared.Report.{Report}
use Rattle.rules.specs.Answer.{buffer_after}
use Rattle.rules.specs.Call.{answer_to, Lent, query_of, message, next}
use Rattle.record.specs.Memory.{Memories, records_in, state_of}

-- what a message call is lent
abbrev pub lending : ℕ → List ℕ → List ℕ → List ℕ → Lent
lending channel m words held = record { channel = channel; message = m; status = words; buffer = held }

-- for any content of the memories, and whatever comes in: report, records and the whole buffer afterwards are what the rules give
pub record MessageCall (m : Memories) (lent : Lent) (records' held' : List ℕ) (r : Report) : Type 0 where
  pub report : r ≡ (answer_to (state_of m) (query_of lent)).report
  pub records : records_in records' ≡ (next (state_of m) (message lent)).records
  pub buffer : held' ≡ buffer_after (answer_to (state_of m) (query_of lent)).bytes lent.buffer
