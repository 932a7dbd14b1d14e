-- Worked cases of document 02's L1: blocks with each fault alone and with two, where the earlier one is told; what is accepted before and after; and the
-- hosts that loops report. `proofs/Bench.antt` checks the tables.
use Rattle.std.specs.Prelude.{ℕ, ◌-◌, List, [], ◌∷◌, ◌++◌, length, set, take, replicate, Err}
use Rattle.rules.specs.Outcome.{OK}
use Rattle.rules.specs.declared.Refusal.TheVariants.{N1}
use Rattle.rules.specs.Verdict.{Verdict, Accepted}
use Rattle.rules.specs.declared.Fault.TheVariants.{A1, A3, A7, B1, B2, B3, B4, B5, B6, B7, B8, B9, B10}
use Rattle.rules.specs.Call.{list, block, Call, offer}
use Rattle.rules.specs.Bench.{list_with_master, bench_list, request, header, verdict, answer, Case, held_with}

-- ---- blocks

-- a hierarchy with these first pairs, and the others unused
abbrev pub hierarchy_of : List ℕ → List ℕ
hierarchy_of entries = (0x27 ∷ 0x8D ∷ 68 ∷ 0 ∷ []) ++ entries ++ replicate (64 - length entries) 0

-- an OTP part, with a pair and a write host that are judged by nobody
abbrev pub otp : List ℕ
otp = (0x81 ∷ 0x40 ∷ 69 ∷ 0 ∷ 128 ∷ 2 ∷ []) ++ replicate 62 0 ++ (255 ∷ [])

abbrev pub block_of : List ℕ → List ℕ → List ℕ → List ℕ
block_of of_list hierarchy ofOtp = 0 ∷ 1 ∷ (of_list ++ hierarchy ++ ofOtp)

-- 5 and 6 have supervisor 3, which has 10, which has none
abbrev pub tree : List ℕ
tree = 5 ∷ 3 ∷ 6 ∷ 3 ∷ 3 ∷ 10 ∷ 10 ∷ 0 ∷ []

abbrev pub bench_block : List ℕ
bench_block = block_of bench_list (hierarchy_of tree) otp

abbrev pub with_tree : List ℕ → List ℕ
with_tree entries = block_of bench_list (hierarchy_of entries) otp

-- a substructure with a wrong magic number, and with a wrong size
abbrev pub bad_magic : List ℕ → List ℕ
bad_magic bytes = set bytes 0 0

abbrev pub bad_size : List ℕ → List ℕ
bad_size bytes = set bytes 2 70

-- ---- the table

-- after these calls an offer gets this verdict
abbrev pub behind : List Call → Call → Verdict → Case
behind earlier call v = record { earlier = earlier; call = call; gives = verdict v }

-- so does a block with the ABI bytes 0 and 1, of a fresh manager
abbrev pub judging : List ℕ → Verdict → Case
judging bytes v = behind [] (offer (block 0 1 bytes)) v

-- a good block, and one with a fault in its last part
abbrev pub taking : Call
taking = offer (block 0 1 bench_block)

abbrev pub refusing : Call
refusing = offer (block 0 1 (block_of bench_list (hierarchy_of tree) (bad_size otp)))

unfoldable pub blocked : List Case
blocked =
    judging bench_block Accepted
    -- each fault alone
    ∷ judging (take 430 bench_block) (Err B1)
    ∷ judging [] (Err B1)
    ∷ behind [] (offer (block 1 0 bench_block)) (Err B2)
    ∷ behind [] (offer (block 0 2 bench_block)) (Err B2)
    ∷ judging (block_of (bad_magic bench_list) (hierarchy_of tree) otp) (Err A3)
    ∷ judging (block_of (list_with_master 0x0A 0x01) (hierarchy_of tree) otp) (Err A7)
    ∷ judging (block_of bench_list (bad_magic (hierarchy_of tree)) otp) (Err B3)
    ∷ judging (block_of bench_list (bad_size (hierarchy_of tree)) otp) (Err B4)
    ∷ judging (with_tree (7 ∷ 3 ∷ [])) (Err B5)
    ∷ judging (with_tree (5 ∷ 7 ∷ [])) (Err B6)
    ∷ judging (with_tree (5 ∷ 3 ∷ 6 ∷ 3 ∷ 5 ∷ 10 ∷ [])) (Err B7)
    ∷ judging (with_tree (5 ∷ 5 ∷ [])) (Err (B8 5))
    ∷ judging (with_tree (5 ∷ 6 ∷ 6 ∷ 5 ∷ [])) (Err (B8 5))
    ∷ judging (block_of bench_list (hierarchy_of tree) (bad_magic otp)) (Err B9)
    ∷ judging (block_of bench_list (hierarchy_of tree) (bad_size otp)) (Err B10)
    -- of an unused entry the supervisor is not looked at
    ∷ judging (with_tree (0 ∷ 7 ∷ 5 ∷ 3 ∷ [])) Accepted
    -- two faults: the earlier one is told
    ∷ judging (block_of (list_with_master 0x0A 0x01) (bad_magic (hierarchy_of tree)) otp) (Err A7)
    ∷ judging (with_tree (5 ∷ 3 ∷ 5 ∷ 7 ∷ [])) (Err B6)
    ∷ judging (with_tree (5 ∷ 3 ∷ 5 ∷ 3 ∷ 7 ∷ 3 ∷ [])) (Err B7)
    ∷ judging (with_tree (5 ∷ 5 ∷ 7 ∷ 3 ∷ [])) (Err B5)
    ∷ judging (block_of bench_list (hierarchy_of (5 ∷ 5 ∷ [])) (bad_magic otp)) (Err (B8 5))
    ∷ judging (block_of bench_list (hierarchy_of tree) (bad_magic (bad_size otp))) (Err B9)
    -- A1 where a list or a block was accepted, whatever is offered
    ∷ behind (taking ∷ []) taking (Err A1)
    ∷ behind (taking ∷ []) (offer (list bench_list)) (Err A1)
    ∷ behind (offer (list bench_list) ∷ []) taking (Err A1)
    ∷ behind (offer (list bench_list) ∷ []) (offer (block 0 1 [])) (Err A1)
    -- nothing is taken from a block with a fault in its last part; then a list or a block is
    ∷ behind (refusing ∷ []) (offer (list bench_list)) Accepted
    ∷ behind (refusing ∷ []) taking Accepted
    ∷ record {
      earlier = refusing ∷ [];
      call = request 3;
      gives = answer (Err N1) 0 0 (header 0x00 0xC0 3 0) (held_with 0 0);
    }
    -- of a good one the list is in force
    ∷ record {
      earlier = taking ∷ [];
      call = request 3;
      gives = answer OK 0 0 (header 0x00 0xC0 3 2) (held_with 3 0);
    }
    ∷ []

-- ---- the host that is reported

pub record LoopCase : Type 0 where
  pub entries : List ℕ
  pub host : ℕ

abbrev pub finding : List ℕ → ℕ → LoopCase
finding entries host = record { entries = entries; host = host }

unfoldable pub looped : List LoopCase
looped =
    -- none: a tree, a way of seven, a supervisor without an entry
    finding tree 0
    ∷ finding (3 ∷ 4 ∷ 4 ∷ 5 ∷ 5 ∷ 6 ∷ 6 ∷ 10 ∷ 10 ∷ 12 ∷ 12 ∷ 13 ∷ 13 ∷ 0 ∷ []) 0
    ∷ finding (5 ∷ 6 ∷ []) 0
    -- loops of one, of two and of seven; the first in entry order, not the lowest
    ∷ finding (5 ∷ 5 ∷ []) 5
    ∷ finding (6 ∷ 5 ∷ 5 ∷ 6 ∷ []) 6
    ∷ finding (13 ∷ 3 ∷ 3 ∷ 4 ∷ 4 ∷ 5 ∷ 5 ∷ 6 ∷ 6 ∷ 10 ∷ 10 ∷ 12 ∷ 12 ∷ 13 ∷ []) 13
    -- a host that only leads into the loop is passed over, and so is a way that ends
    ∷ finding (3 ∷ 6 ∷ 5 ∷ 6 ∷ 6 ∷ 5 ∷ []) 5
    ∷ finding (3 ∷ 10 ∷ 10 ∷ 0 ∷ 6 ∷ 6 ∷ []) 6
    -- of two loops the one whose host has the first entry
    ∷ finding (12 ∷ 13 ∷ 5 ∷ 6 ∷ 13 ∷ 12 ∷ 6 ∷ 5 ∷ []) 12
    ∷ []
