-- The calls: an offer, which is a board description (document 02, L8), a list ("Access list") or a block (document 02, L1), and a message
-- ("Messages"); what each is told, and the state that it leaves.
use Rattle.std.specs.Prelude.{ℕ, cond, List, length}
use Rattle.rules.specs.declared.Report.{Report}
use Rattle.rules.specs.Verdict.{Verdict, accepted}
use Rattle.rules.specs.Description.{board_verdict, described}
use Rattle.rules.specs.AccessList.{entries_of, verdict_of}
use Rattle.rules.specs.Block.{list_part, block_verdict}
use Rattle.rules.specs.Message.{Query, subject_of}
use Rattle.rules.specs.Effect.{record_after}
use Rattle.rules.specs.Answer.{report_of, answer_of}
use Rattle.rules.specs.State.{a_list, a_block, listed, State, view_of, stored}

-- ---- offers

-- what can set the state up, with its bytes: a board description, a list, or a block with the two ABI bytes that the caller names
pub data Offer : Type 0 where
  board : List ℕ → Offer
  list : List ℕ → Offer
  block : ℕ → ℕ → List ℕ → Offer

unfoldable pub verdict_to : State → Offer → Verdict
verdict_to s (board bytes) = board_verdict (listed s.setup.source) bytes
verdict_to s (list bytes) = verdict_of s.setup.board (listed s.setup.source) bytes
verdict_to s (block major minor bytes) = block_verdict s.setup.board (listed s.setup.source) major minor bytes

-- what an accepted offer sets, and the records stay: a description's board replaces the board before it whole; a list's entries are in force, and
-- of a block those of its list
unfoldable pub taken : State → Offer → State
taken s (board bytes) =
    record {
      setup = record { board = described bytes; source = s.setup.source; entries = s.setup.entries };
      records = s.records;
    }
taken s (list bytes) =
    record {
      setup = record { board = s.setup.board; source = a_list bytes; entries = entries_of s.setup.board bytes };
      records = s.records;
    }
taken s (block major minor bytes) =
    record {
      setup =
          record { board = s.setup.board; source = a_block bytes; entries = entries_of s.setup.board (list_part bytes) };
      records = s.records;
    }

-- a refused offer changes nothing
unfoldable pub after_offer : State → Offer → State
after_offer s o = cond (accepted (verdict_to s o)) (taken s o) s

-- ---- messages

-- the record of the processor named is what the rules leave there, and nothing else changes
unfoldable pub after_message : State → Query → State
after_message s q = stored s (subject_of q) (record_after (view_of s (subject_of q)) q)

-- what a message is answered: all that the call reports, and the bytes it writes
pub record Answer : Type 0 where
  pub report : Report
  pub bytes : List ℕ

unfoldable pub answer_to : State → Query → Answer
answer_to s q =
    record { report = report_of (view_of s (subject_of q)) q; bytes = answer_of (view_of s (subject_of q)) q }

-- ---- either

-- what a message call is lent: channel host, message, status words and the answer buffer with what it holds
pub record Lent : Type 0 where
  pub channel : ℕ
  pub message : List ℕ
  pub status : List ℕ
  pub buffer : List ℕ

-- of the buffer only its length counts
abbrev pub query_of : Lent → Query
query_of lent =
    record { channel = lent.channel; message = lent.message; status = lent.status; room = length lent.buffer }

pub data Call : Type 0 where
  offer : Offer → Call
  message : Lent → Call

unfoldable pub next : State → Call → State
next s (offer o) = after_offer s o
next s (message lent) = after_message s (query_of lent)
