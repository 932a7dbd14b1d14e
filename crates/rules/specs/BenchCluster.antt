-- Document 02, L4, on the bench: worked cases of the control word that processors 32 and 33 share, as one table in the form of `starred`.
-- `proofs/Bench.antt` checks it.
use Rattle.std.specs.Prelude.{ℕ, List, [], ◌∷◌, ◌++◌, replicate, Err}
use Rattle.rules.specs.Outcome.{OK}
use Rattle.rules.specs.declared.Refusal.TheVariants.{N7}
use Rattle.rules.specs.declared.Record.{Record}
use Rattle.rules.specs.Bytes.{u32_bytes}
use Rattle.rules.specs.Tally.{no_tallies}
use Rattle.rules.specs.Call.{list, Call, offer}
use Rattle.rules.specs.Bench.{sent, header, answer, Case}

-- ---- the calls of the cases

-- the list used: as on the bench for processors 1 and 2; 32 has host 10 as its recovery master and host 3 as a secondary, 33 hosts 10 and 12
abbrev pub cluster_list : List ℕ
cluster_list =
    (0xEA ∷ 0xF1 ∷ 0x24 ∷ 0x01 ∷ [])
    ++ (0x01 ∷ 0x03 ∷ 0x00 ∷ 0x05 ∷ 0x00 ∷ 0x00 ∷ 0x00 ∷ 0x00 ∷ 0x00 ∷ [])
    ++ (0x02 ∷ 0x03 ∷ 0x00 ∷ 0x06 ∷ 0x00 ∷ 0x0A ∷ 0x00 ∷ 0x00 ∷ 0x00 ∷ [])
    ++ (0x20 ∷ 0x0A ∷ 0x00 ∷ 0x03 ∷ 0x00 ∷ 0x00 ∷ 0x00 ∷ 0x00 ∷ 0x00 ∷ [])
    ++ (0x21 ∷ 0x0A ∷ 0x00 ∷ 0x0C ∷ 0x00 ∷ 0x00 ∷ 0x00 ∷ 0x00 ∷ 0x00 ∷ [])
    ++ replicate 252 0

-- a message about processor p that asks for an answer, by its type's bytes, with the fields behind the processor and these status words
abbrev pub asking : ℕ → ℕ → ℕ → ℕ → List ℕ → List ℕ → Call
asking low high host p fields words = sent host (header low high host 2 ++ (p ∷ fields)) words

abbrev pub request : ℕ → ℕ → Call
request host p = asking 0x00 0xC0 host p [] []

abbrev pub release : ℕ → ℕ → Call
release host p = asking 0x01 0xC0 host p [] []

abbrev pub handover : ℕ → ℕ → ℕ → Call
handover host p newHost = asking 0x05 0xC0 host p (newHost ∷ []) []

abbrev pub set_config : ℕ → ℕ → ℕ → ℕ → Call
set_config host p low set = asking 0x00 0xC1 host p (u32_bytes low ++ u32_bytes 0 ++ u32_bytes set ++ u32_bytes 0) []

abbrev pub set_control : ℕ → ℕ → ℕ → ℕ → Call
set_control host p set clear = asking 0x01 0xC1 host p (u32_bytes set ++ u32_bytes clear) []

-- with 9 as the status now
abbrev pub get_status : ℕ → ℕ → Call
get_status host p = asking 0x00 0xC4 host p [] (9 ∷ [])

-- the answer to get status
abbrev pub status_of : ℕ → ℕ → Record → List ℕ
status_of host p r =
    header 0x00 0xC4 host 2
    ++ (p ∷ (u32_bytes r.low ++ u32_bytes r.high ++ u32_bytes r.config ++ u32_bytes r.control ++ u32_bytes 9))

-- ---- the table

-- a record with this controller, vector, config word and control word
abbrev pub record_with : ℕ → ℕ → ℕ → ℕ → Record
record_with controller low config control =
    record { controller = controller; low = low; high = 0; config = config; control = control; tallies = no_tallies }

-- host 10 controls 32 alone, host 12 controls 33 alone, and host 10 has set bits 0 and 1 through 32
abbrev pub set_through32 : List Call
set_through32 = offer (list cluster_list) ∷ request 10 32 ∷ request 12 33 ∷ set_control 10 32 0x3 0 ∷ []

-- then host 12 has cleared bit 0 through 33
abbrev pub cleared_through33 : List Call
cleared_through33 = set_through32 ++ (set_control 12 33 0 0x1 ∷ [])

-- and host 10 has set vector and config of 32
abbrev pub configured : List Call
configured = set_through32 ++ (set_config 10 32 0x80000000 0x4 ∷ [])

-- host 3 controls both R5 cores, and has set bit 0 through 1
abbrev pub set_through1 : List Call
set_through1 = offer (list cluster_list) ∷ request 3 1 ∷ request 3 2 ∷ set_control 3 1 0x1 0 ∷ []

unfoldable pub clustered : List Case
clustered =
    -- a set through 32 shows in the status of 33, and the other way round
    record {
      earlier = set_through32;
      call = get_status 12 33;
      gives = answer OK 0 0 (status_of 12 33 (record_with 12 0 0 0x3)) (record_with 12 0 0 0x3);
    }
    ∷ record {
      earlier = cleared_through33;
      call = get_status 10 32;
      gives = answer OK 0 0 (status_of 10 32 (record_with 10 0 0 0x2)) (record_with 10 0 0 0x2);
    }
    -- the sender needs control of the processor that it names: host 10 controls 32 and not 33
    ∷ record {
      earlier = set_through32;
      call = set_control 10 33 0 0x1;
      gives = answer (Err N7) 0 0 (header 0x01 0xC1 10 0) (record_with 12 0 0 0x3);
    }
    -- a release, a handover and a request leave the word
    ∷ record { earlier = set_through32; call = release 12 33; gives = answer OK 0 0 (header 0x01 0xC0 12 2) (record_with 0 0 0 0x3) }
    ∷ record { earlier = set_through32; call = handover 10 32 3; gives = answer OK 0 0 (header 0x05 0xC0 10 2) (record_with 3 0 0 0x3) }
    ∷ record { earlier = set_through32; call = request 10 33; gives = answer OK 0 0 (header 0x00 0xC0 10 2) (record_with 10 0 0 0x3) }
    -- vector and config word stay each processor's own
    ∷ record {
      earlier = configured;
      call = get_status 12 33;
      gives = answer OK 0 0 (status_of 12 33 (record_with 12 0 0 0x3)) (record_with 12 0 0 0x3);
    }
    ∷ record {
      earlier = configured;
      call = get_status 10 32;
      gives = answer OK 0 0 (status_of 10 32 (record_with 10 0x80000000 0x4 0x3)) (record_with 10 0x80000000 0x4 0x3);
    }
    -- the R5 cores stay single
    ∷ record {
      earlier = set_through1;
      call = get_status 3 2;
      gives = answer OK 0 0 (status_of 3 2 (record_with 3 0 0 0)) (record_with 3 0 0 0);
    }
    ∷ []
