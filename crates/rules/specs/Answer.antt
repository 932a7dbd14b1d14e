-- "Messages", its paragraph on the answer, and the last column of "Outcomes": the answer's bytes, what a call reports, and what the answer
-- buffer holds afterwards.
use Rattle.std.specs.Prelude.{ℕ, Bool, cond, ◌&&◌, ◌||◌, eqb, List, [], ◌∷◌, ◌++◌, length, get_or, drop, Err, None}
use Rattle.rules.specs.declared.Kind.{Kind}
use Rattle.rules.specs.declared.Kind.TheVariants.{Request, GetStatus, WaitStatus}
use Rattle.rules.specs.declared.Refusal.{Refusal}
use Rattle.rules.specs.declared.Refusal.TheVariants.{N7, N9}
use Rattle.rules.specs.declared.Record.{Record}
use Rattle.rules.specs.declared.Report.{Report}
use Rattle.rules.specs.Bytes.{byte_at, u32_bytes}
use Rattle.rules.specs.Message.{Query, answer_asked, is_kind, kind_in, processor_of, wait_in}
use Rattle.rules.specs.Wait.{checks_of, micros_of}
use Rattle.rules.specs.Outcome.{Outcome, View, sender_role, outcome_of, outcome_number, carried_out, silent}

-- type, host and sequence repeated, and the flags
abbrev pub header_with : ℕ → List ℕ → List ℕ
header_with flags m = byte_at m 0 ∷ byte_at m 1 ∷ byte_at m 2 ∷ byte_at m 3 ∷ u32_bytes flags

-- flags 2 for ACK or 0 for NAK
abbrev pub ack : List ℕ → List ℕ
ack m = header_with 2 m

abbrev pub nak : List ℕ → List ℕ
nak m = header_with 0 m

-- ACK to get status adds processor, vector low, vector high, config, control, status
abbrev pub status_bytes : List ℕ → Record → ℕ → List ℕ
status_bytes m r status =
    processor_of m
    ∷ (u32_bytes r.low ++ u32_bytes r.high ++ u32_bytes r.config ++ u32_bytes r.control ++ u32_bytes status)

-- the first status word is the status now
abbrev pub status_now : Query → ℕ
status_now q = get_or q.status 0 0

-- every other answer is the header alone
unfoldable pub ack_bytes : Kind → Query → Record → List ℕ
ack_bytes k q r =
    cond (is_kind k GetStatus) (ack q.message ++ status_bytes q.message r (status_now q)) (ack q.message)

-- the table's last column: ACK, none or NAK
unfoldable pub bytes_for : Outcome → Query → Record → List ℕ
bytes_for o q r = cond (carried_out o) (ack_bytes (kind_in q.message) q r) (cond (silent o) [] (nak q.message))

-- NAK and ACK are written only when asked for
unfoldable pub answer_bytes : Outcome → Query → Record → List ℕ
answer_bytes o q r = cond (answer_asked q.message) (bytes_for o q r) []

-- the bytes that a call writes
unfoldable pub answer_of : View → Query → List ℕ
answer_of v q = answer_bytes (outcome_of v q) q v.state

-- carried out, or refused by this row
abbrev pub ok_or : Refusal → Outcome → Bool
ok_or row o = carried_out o || eqb (outcome_number o) (outcome_number (Err row))

-- the outcome carries the checks made and the microseconds where a wait ended, OK or N9
unfoldable pub waited : Kind → Outcome → Bool
waited k o = is_kind k WaitStatus && ok_or N9 o

-- the outcome of a request carries the sender's role from N7 on, so for N7 and OK (document 02, L5)
unfoldable pub tells_role : Kind → Outcome → Bool
tells_role k o = is_kind k Request && ok_or N7 o

-- what the call reports; other outcomes report 0 and 0 and the role none
unfoldable pub report_of : View → Query → Report
report_of v q =
    record {
      outcome = outcome_of v q;
      checks = cond (waited (kind_in q.message) (outcome_of v q)) (checks_of (wait_in q.message) q.status) 0;
      micros = cond (waited (kind_in q.message) (outcome_of v q)) (micros_of (wait_in q.message) q.status) 0;
      written = length (answer_of v q);
      role = cond (tells_role (kind_in q.message) (outcome_of v q)) (sender_role v q) None;
    }

-- bytes of the answer buffer beyond the answer keep their values
abbrev pub buffer_after : List ℕ → List ℕ → List ℕ
buffer_after answer held = answer ++ drop (length answer) held
