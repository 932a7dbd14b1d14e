-- What is written to the answer buffer: an answer's bytes, where they fit it, at its start.
use Rattle.std.specs.Prelude.{ℕ, ◌≡◌, cond, List, [], length, leb}
use Rattle.rules.specs.Outcome.{Outcome}
use Rattle.rules.specs.Message.{query}
use Rattle.rules.specs.Answer.{answer_bytes, buffer_after}
use Rattle.board.specs.Memory.{board_in}
use Rattle.record.specs.Memory.{record_at}
use Rattle.message_operation.specs.Operation.{subject_row}

-- the answer to a message with this outcome, where board and record memory hold these words; it depends neither on the channel nor on the room
abbrev pub answer_in : List ℕ → List ℕ → Outcome → List ℕ → List ℕ → List ℕ
answer_in board records outcome message status =
    let q = query 0 message status 0 in
    answer_bytes outcome q (record_at (board_in board) records (subject_row (board_in board) q))

-- the bytes, where they fit the room
unfoldable pub fitted : ℕ → List ℕ → List ℕ
fitted room bytes = cond (leb (length bytes) room) bytes []

-- bytes put at the start of a buffer, where they fit, and their number
pub record Puts (bytes held held' : List ℕ) (n : ℕ) : Type 0 where
  pub count : n ≡ length (fitted (length held) bytes)
  pub buffer : held' ≡ buffer_after (fitted (length held) bytes) held
