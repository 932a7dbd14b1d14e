-- "The pack on the bench": the starred cases, as one table. Each row has the calls made before, from a fresh manager; the call; and what
-- it gives. `proofs/Bench.antt` checks the table.
use Rattle.std.specs.Prelude.{ℕ, List, [], ◌∷◌, ◌++◌, replicate, Err}
use Rattle.rules.specs.Outcome.{Outcome, OK}
use Rattle.rules.specs.declared.Refusal.TheVariants.{N7, N8}
use Rattle.rules.specs.declared.Record.{Record}
use Rattle.rules.specs.Verdict.{Verdict, Accepted}
use Rattle.rules.specs.declared.Fault.TheVariants.{A1, A7}
use Rattle.rules.specs.Bytes.{u32_bytes}
use Rattle.rules.specs.Message.{subject_of}
use Rattle.rules.specs.Tally.{no_tallies}
use Rattle.rules.specs.State.{State, record_of}
use Rattle.rules.specs.Call.{list, verdict_to, Answer, answer_to, query_of, Call, offer, message, next}

-- ---- the calls of the cases

-- the list used, with the master of processor 1 as two bytes
abbrev pub list_with_master : ℕ → ℕ → List ℕ
list_with_master low high =
    (0xEA ∷ 0xF1 ∷ 0x24 ∷ 0x01 ∷ [])
    ++ (0x01 ∷ low ∷ high ∷ 0x05 ∷ 0x00 ∷ 0x00 ∷ 0x00 ∷ 0x00 ∷ 0x00 ∷ [])
    ++ (0x02 ∷ 0x03 ∷ 0x00 ∷ 0x06 ∷ 0x00 ∷ 0x0A ∷ 0x00 ∷ 0x00 ∷ 0x00 ∷ [])
    ++ replicate 270 0

abbrev pub bench_list : List ℕ
bench_list = list_with_master 0x03 0x00

-- a message from a host's own channel, with these status words and a 29-byte answer buffer
abbrev pub sent : ℕ → List ℕ → List ℕ → Call
sent host bytes words =
    message (record { channel = host; message = bytes; status = words; buffer = replicate 29 0 })

-- messages about processor 1 that ask for an answer
abbrev pub request : ℕ → Call
request host = sent host (0x00 ∷ 0xC0 ∷ host ∷ 0x07 ∷ 0x02 ∷ 0x00 ∷ 0x00 ∷ 0x00 ∷ 0x01 ∷ []) []

abbrev pub handover : ℕ → ℕ → Call
handover host newHost =
    sent host (0x05 ∷ 0xC0 ∷ host ∷ 0x07 ∷ 0x02 ∷ 0x00 ∷ 0x00 ∷ 0x00 ∷ 0x01 ∷ newHost ∷ []) []

abbrev pub set_config : ℕ → ℕ → ℕ → Call
set_config host low clear =
    sent host
    ((0x00 ∷ 0xC1 ∷ host ∷ 0x07 ∷ 0x02 ∷ 0x00 ∷ 0x00 ∷ 0x00 ∷ 0x01 ∷ [])
    ++ u32_bytes low ++ u32_bytes 0 ++ u32_bytes 0 ++ u32_bytes clear)
    []

-- waits 10, matches 2, delays 2 and 0, set-any 3, clear-all 0x10
abbrev pub wait_status : ℕ → List ℕ → Call
wait_status host words =
    sent host
    ((0x01 ∷ 0xC4 ∷ host ∷ 0x07 ∷ 0x02 ∷ 0x00 ∷ 0x00 ∷ 0x00 ∷ 0x01 ∷ 10 ∷ 2 ∷ 2 ∷ 0 ∷ [])
    ++ u32_bytes 0 ++ u32_bytes 3 ++ u32_bytes 0x10 ++ u32_bytes 0)
    words

-- ---- what a call gives

-- an offer its verdict; a message outcome, checks, microseconds, written bytes, and the record afterwards of the processor named, but for its
-- tallies, of which BenchTally.antt has cases
pub data BenchResult : Type 0 where
  verdict : Verdict → BenchResult
  answer : Outcome → ℕ → ℕ → List ℕ → Record → BenchResult

unfoldable pub answer_given : Answer → Record → BenchResult
answer_given a r =
    answer a.report.outcome a.report.checks a.report.micros a.bytes
    (record {
      controller = r.controller;
      low = r.low;
      high = r.high;
      config = r.config;
      control = r.control;
      tallies = no_tallies;
    })

unfoldable pub given_in : State → Call → BenchResult
given_in s (offer o) = verdict (verdict_to s o)
given_in s (message lent) =
    answer_given (answer_to s (query_of lent)) (record_of (next s (message lent)) (subject_of (query_of lent)))

-- ---- the table

pub record Case : Type 0 where
  pub earlier : List Call
  pub call : Call
  pub gives : BenchResult

-- the record of a processor with this controller and vector, and no flag
abbrev pub held_with : ℕ → ℕ → Record
held_with controller low =
    record { controller = controller; low = low; high = 0; config = 0; control = 0; tallies = no_tallies }

abbrev pub loaded : List Call
loaded = offer (list bench_list) ∷ []

abbrev pub held_by3 : List Call
held_by3 = offer (list bench_list) ∷ request 3 ∷ []

abbrev pub held_by5 : List Call
held_by5 = offer (list bench_list) ∷ request 5 ∷ []

abbrev pub header : ℕ → ℕ → ℕ → ℕ → List ℕ
header low high host flags = low ∷ high ∷ host ∷ 0x07 ∷ flags ∷ 0x00 ∷ 0x00 ∷ 0x00 ∷ []

unfoldable pub starred : List Case
starred =
    -- that list is accepted; master 0A 01 (266) gives A7; a second list gives A1
    record { earlier = []; call = offer (list bench_list); gives = verdict Accepted }
    ∷ record { earlier = []; call = offer (list (list_with_master 0x0A 0x01)); gives = verdict (Err A7) }
    ∷ record { earlier = loaded; call = offer (list bench_list); gives = verdict (Err A1) }
    -- host 3 requests 1; then host 5 gets N7, host 3 again OK
    ∷ record { earlier = loaded; call = request 3; gives = answer OK 0 0 (header 0x00 0xC0 3 2) (held_with 3 0) }
    ∷ record { earlier = held_by3; call = request 5; gives = answer (Err N7) 0 0 (header 0x00 0xC0 5 0) (held_with 3 0) }
    ∷ record { earlier = held_by3; call = request 3; gives = answer OK 0 0 (header 0x00 0xC0 3 2) (held_with 3 0) }
    -- if 5 held it first, 5 again N7, 3 takes it
    ∷ record { earlier = held_by5; call = request 5; gives = answer (Err N7) 0 0 (header 0x00 0xC0 5 0) (held_with 5 0) }
    ∷ record { earlier = held_by5; call = request 3; gives = answer OK 0 0 (header 0x00 0xC0 3 2) (held_with 3 0) }
    -- with 3 controlling 1: handover by 3 to 5 OK, to 6 N8
    ∷ record { earlier = held_by3; call = handover 3 5; gives = answer OK 0 0 (header 0x05 0xC0 3 2) (held_with 5 0) }
    ∷ record { earlier = held_by3; call = handover 3 6; gives = answer (Err N8) 0 0 (header 0x05 0xC0 3 0) (held_with 3 0) }
    -- vector low 0x41C00040 N8; the same with clear bit 28 OK, vector kept
    ∷ record {
      earlier = held_by3;
      call = set_config 3 0x41C00040 0;
      gives = answer (Err N8) 0 0 (header 0x00 0xC1 3 0) (held_with 3 0);
    }
    ∷ record {
      earlier = held_by3 ++ (set_config 3 0x41C00080 0 ∷ []);
      call = set_config 3 0x41C00040 0x10000000;
      gives = answer OK 0 0 (header 0x00 0xC1 3 2) (held_with 3 0x41C00080);
    }
    -- words 0, 2, 0x12, 1, 2, then five zeros: OK, 5 checks, 10 microseconds
    ∷ record {
      earlier = held_by3;
      call = wait_status 3 ((0 ∷ 2 ∷ 0x12 ∷ 1 ∷ 2 ∷ []) ++ replicate 5 0);
      gives = answer OK 5 10 (header 0x01 0xC4 3 2) (held_with 3 0);
    }
    ∷ []
