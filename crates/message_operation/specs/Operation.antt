-- What a message of one type comes to once the rows R1 to N3 of "Outcomes" are passed: what is decided by the rows from N4 on, and the effect of OK
-- in the lent record memory.
use Rattle.std.specs.Prelude.{ℕ, ◌≡◌, cond, List, None}
use Rattle.rules.specs.declared.Kind.{Kind}
use Rattle.rules.specs.Table.{Line, first_of}
use Rattle.rules.specs.Board.{Board, row_of}
use Rattle.rules.specs.Message.{Query, subject_of, wait_in}
use Rattle.rules.specs.Wait.{checks_of, micros_of}
use Rattle.rules.specs.Outcome.{Outcome, OK, View, sender_role, from_N4, carried_out}
use Rattle.rules.specs.Effect.{effect_of}
use Rattle.rules.specs.Answer.{waited, tells_role}
use Rattle.board.specs.Memory.{board_in}
use Rattle.record.specs.Memory.{Memories, record_at, view_in, with_record}
use Rattle.message_operation.specs.declared.Decision.{Decision}

-- the row of the processor whose record the call works on
abbrev pub subject_row : Board → Query → ℕ
subject_row b q = row_of b (subject_of q)

-- what a message sees in the memories
abbrev pub seen_in : Memories → Query → View
seen_in m q = view_in (board_in m.board) m.access m.records (subject_row (board_in m.board) q)

-- the record memory after a message of type k with this outcome: OK has its effect, and a refusal leaves the memory
unfoldable pub memory_after : Board → Kind → Outcome → List ℕ → Query → List ℕ
memory_after b k o memory q =
    cond (carried_out o) (with_record b memory (subject_row b q) (effect_of k q (record_at b memory (subject_row b q)))) memory

-- an outcome with what it carries: the checks and the microseconds where a wait ended, else 0 and 0; and where a request came to N7 or OK the
-- sender's role, else none
unfoldable pub decision_on : Kind → View → Query → Outcome → Decision
decision_on k v q o =
    record {
      outcome = o;
      checks = cond (waited k o) (checks_of (wait_in q.message) q.status) 0;
      micros = cond (waited k o) (micros_of (wait_in q.message) q.status) 0;
      role = cond (tells_role k o) (sender_role v q) None;
    }

-- an outcome that carries nothing else
abbrev pub alone : Outcome → Decision
alone o = record { outcome = o; checks = 0; micros = 0; role = None }

-- what rows of the outcome table decide of a message of type k, whatever the memories hold, and the record memory afterwards
pub record Decides (table : View → Query → Kind → List (Line Outcome)) (k : Kind) (m : Memories) (q : Query) (records' : List ℕ) (r : Decision) : Type 0 where
  pub decision : r ≡ decision_on k (seen_in m q) q (first_of OK (table (seen_in m q) q k))
  pub records : records' ≡ memory_after (board_in m.board) k r.outcome m.records q

-- what a function promises that carries out messages of type k: the rows from N4 on. What it is not lent may hold anything
abbrev pub Carries : Kind → Memories → Query → List ℕ → Decision → Type 0
Carries k m q records' r = Decides from_N4 k m q records' r
