-- Document 02, L8, on the bench: worked cases of board descriptions, as one table in the form of `starred`: what each gets, and what is answered on
-- the board that it leaves. `proofs/Bench.antt` checks it.
use Rattle.std.specs.Prelude.{ℕ, zero, suc, List, [], ◌∷◌, ◌++◌, replicate, Err}
use Rattle.rules.specs.Outcome.{OK}
use Rattle.rules.specs.declared.Refusal.TheVariants.{N2, N6, N7, N8}
use Rattle.rules.specs.Verdict.{Verdict, Accepted}
use Rattle.rules.specs.declared.Fault.TheVariants.{A1, A5, D1, D2, D3, D4, D5, D6}
use Rattle.rules.specs.Board.{rows}
use Rattle.rules.specs.Description.{our_bytes}
use Rattle.rules.specs.Call.{board, list, Call, offer}
use Rattle.rules.specs.Bench.{bench_list, header, verdict, answer, Case, held_with}
use Rattle.rules.specs.BenchCluster.{request, set_control, get_status, status_of, record_with}

-- ---- the table of rows of document 01's board

-- written out, a number for each of the 256 processor bytes: 1 and 2 have rows 0 and 1, 32 and 33 rows 2 and 3, every other the mark for none. The
-- test over the whole table (`gives_rows`) is computed on it in proofs/Rows.antt
abbrev pub our_rows : List ℕ
our_rows = (rows ∷ 0 ∷ 1 ∷ []) ++ (replicate 29 rows ++ (2 ∷ 3 ∷ replicate 222 rows))

-- ---- the descriptions of the cases

abbrev pub a_host : ℕ → ℕ → List ℕ
a_host number mark = 1 ∷ 2 ∷ 0 ∷ number ∷ mark ∷ []

abbrev pub a_processor : ℕ → ℕ → ℕ → List ℕ
a_processor number class cluster = 2 ∷ 3 ∷ 0 ∷ number ∷ class ∷ cluster ∷ []

-- n hosts, and n processors, with the numbers from `first` on
unfoldable pub hosts_from : ℕ → ℕ → List ℕ
hosts_from first zero = []
hosts_from first (suc n) = a_host first 0 ++ hosts_from (suc first) n

unfoldable pub processors_from : ℕ → ℕ → List ℕ
processors_from first zero = []
processors_from first (suc n) = a_processor first 0 0 ++ processors_from (suc first) n

-- a pack: host 20 secure and host 21 not; two R5 processors of one cluster number, three ARMv8 ones that form a cluster, one alone, and 255
abbrev pub pack_bytes : List ℕ
pack_bytes =
    a_host 20 1 ++ a_host 21 0 ++ a_processor 7 0 2 ++ a_processor 8 0 2 ++ a_processor 40 1 3 ++ a_processor 41 1 3 ++ a_processor 42 1 3
    ++ a_processor 43 1 0 ++ a_processor 255 0 0

-- a list for it: 20 is the recovery master of 7 and of the three, and 21 a secondary of 7 and of 42
abbrev pub pack_list : List ℕ
pack_list =
    (0xEA ∷ 0xF1 ∷ 0x24 ∷ 0x01 ∷ [])
    ++ (7 ∷ 20 ∷ 0 ∷ 21 ∷ 0 ∷ 0 ∷ 0 ∷ 0 ∷ 0 ∷ [])
    ++ (40 ∷ 20 ∷ 0 ∷ 0 ∷ 0 ∷ 0 ∷ 0 ∷ 0 ∷ 0 ∷ [])
    ++ (41 ∷ 20 ∷ 0 ∷ 0 ∷ 0 ∷ 0 ∷ 0 ∷ 0 ∷ 0 ∷ [])
    ++ (42 ∷ 20 ∷ 0 ∷ 21 ∷ 0 ∷ 0 ∷ 0 ∷ 0 ∷ 0 ∷ [])
    ++ replicate 252 0

-- a list with no used entry: every processor is open to every host of the board but 0
abbrev pub open_list : List ℕ
open_list = (0xEA ∷ 0xF1 ∷ 0x24 ∷ 0x01 ∷ []) ++ replicate 288 0

-- ---- the table

-- a description offered to a fresh manager
abbrev pub describing : List ℕ → Verdict → Case
describing bytes v = record { earlier = []; call = offer (board bytes); gives = verdict v }

abbrev pub on_the_pack : List Call
on_the_pack = offer (board pack_bytes) ∷ offer (list open_list) ∷ []

-- the sender is no host of the board: it gets a NAK, and the processor that it names stays free
abbrev pub refused_on : List Call → ℕ → ℕ → Case
refused_on earlier host p =
    record { earlier = earlier; call = request host p; gives = answer (Err N2) 0 0 (header 0x00 0xC0 host 0) (held_with 0 0) }

unfoldable pub boarded : List Case
boarded =
    -- document 01's board is one description; no item at all is another, and so are the pack and a board at both limits
    describing our_bytes Accepted
    ∷ describing [] Accepted
    ∷ describing pack_bytes Accepted
    ∷ describing (hosts_from 1 64 ++ processors_from 1 32) Accepted
    -- the same number as host and processor is no repeat
    ∷ describing (a_host 9 0 ++ a_processor 9 0 0) Accepted
    -- D1: a bad tag; a bad length; a field that is cut off
    ∷ describing (3 ∷ 2 ∷ 0 ∷ 9 ∷ 0 ∷ []) (Err D1)
    ∷ describing (1 ∷ 3 ∷ 0 ∷ 9 ∷ 0 ∷ 0 ∷ []) (Err D1)
    ∷ describing (2 ∷ 3 ∷ 1 ∷ 9 ∷ 0 ∷ 0 ∷ []) (Err D1)
    ∷ describing (1 ∷ 2 ∷ 0 ∷ 9 ∷ []) (Err D1)
    ∷ describing (a_host 9 0 ++ (2 ∷ 3 ∷ [])) (Err D1)
    -- D2, and before D4
    ∷ describing (a_host 0 0) (Err D2)
    ∷ describing (a_processor 0 2 0) (Err D2)
    -- D3, and before D4, D5 and D6
    ∷ describing (a_host 9 0 ++ a_host 9 2) (Err D3)
    ∷ describing (a_processor 9 0 0 ++ a_processor 9 0 0) (Err D3)
    ∷ describing (a_processor 50 1 4 ++ processors_from 1 31 ++ a_processor 9 0 4) (Err D3)
    -- D4, and before D5
    ∷ describing (a_host 9 2) (Err D4)
    ∷ describing (a_processor 8 1 4 ++ a_processor 9 2 4) (Err D4)
    -- D5: an R5 in an ARMv8 cluster, and the other way round; and before D6
    ∷ describing (a_processor 8 1 4 ++ a_processor 9 0 4) (Err D5)
    ∷ describing (a_processor 8 0 4 ++ a_processor 9 1 4) (Err D5)
    ∷ describing (a_processor 50 1 4 ++ processors_from 1 31 ++ a_processor 60 0 4) (Err D5)
    -- D6: a 65th host, a 33rd processor
    ∷ describing (hosts_from 1 65) (Err D6)
    ∷ describing (processors_from 1 33) (Err D6)
    -- the first item with a fault decides, whatever faults come behind it
    ∷ describing (a_host 9 2 ++ a_host 0 0) (Err D4)
    -- once a list was accepted, A1, whatever is offered
    ∷ record { earlier = on_the_pack; call = offer (board (3 ∷ [])); gives = verdict (Err A1) }
    ∷ record { earlier = on_the_pack; call = offer (board pack_bytes); gives = verdict (Err A1) }
    -- the board before is replaced whole: a list that names processor 1, and a message of host 3
    ∷ record { earlier = offer (board pack_bytes) ∷ []; call = offer (list bench_list); gives = verdict (Err A5) }
    ∷ refused_on on_the_pack 3 40
    ∷ refused_on (offer (board pack_bytes) ∷ offer (board (a_host 30 0 ++ a_processor 9 0 0)) ∷ offer (list open_list) ∷ []) 20 9
    ∷ record { earlier = on_the_pack; call = request 20 1; gives = answer (Err N6) 0 0 (header 0x00 0xC0 20 0) (held_with 0 0) }
    -- a refused one leaves nothing behind: host 20, which it lists before its fault, is no host, and host 3 still is
    ∷ refused_on (offer (board (a_host 20 1 ++ a_host 0 0)) ∷ offer (list bench_list) ∷ []) 20 1
    ∷ record {
      earlier = offer (board (a_host 20 1 ++ a_host 0 0)) ∷ offer (list bench_list) ∷ [];
      call = request 3 1;
      gives = answer OK 0 0 (header 0x00 0xC0 3 2) (held_with 3 0);
    }
    -- a list that the pack's board accepts; host 21 is no secondary of 41
    ∷ record { earlier = offer (board pack_bytes) ∷ []; call = offer (list pack_list); gives = verdict Accepted }
    ∷ record {
      earlier = offer (board pack_bytes) ∷ offer (list pack_list) ∷ [];
      call = request 21 41;
      gives = answer (Err N7) 0 0 (header 0x00 0xC0 21 0) (held_with 0 0);
    }
    -- three cores of a cluster have one control word
    ∷ record {
      earlier = on_the_pack ++ (request 20 40 ∷ request 21 42 ∷ set_control 20 40 0x3 0 ∷ []);
      call = get_status 21 42;
      gives = answer OK 0 0 (status_of 21 42 (record_with 21 0 0 0x3)) (record_with 21 0 0 0x3);
    }
    -- an ARMv8 core alone has its own, and so has each R5 core, also one of a cluster
    ∷ record {
      earlier = on_the_pack ++ (request 20 40 ∷ set_control 20 40 0x3 0 ∷ []);
      call = get_status 20 43;
      gives = answer OK 0 0 (status_of 20 43 (record_with 0 0 0 0)) (record_with 0 0 0 0);
    }
    ∷ record {
      earlier = on_the_pack ++ (request 20 7 ∷ set_control 20 7 0x1 0 ∷ []);
      call = get_status 20 8;
      gives = answer OK 0 0 (status_of 20 8 (record_with 0 0 0 0)) (record_with 0 0 0 0);
    }
    -- the class is that of the description: 0x100 may be named of an ARMv8 control word, and not of an R5's
    ∷ record {
      earlier = on_the_pack ++ (request 20 40 ∷ []);
      call = set_control 20 40 0x100 0;
      gives = answer OK 0 0 (header 0x01 0xC1 20 2) (record_with 20 0 0 0x100);
    }
    ∷ record {
      earlier = on_the_pack ++ (request 20 7 ∷ []);
      call = set_control 20 7 0x100 0;
      gives = answer (Err N8) 0 0 (header 0x01 0xC1 20 0) (record_with 20 0 0 0);
    }
    -- the last processor byte
    ∷ record { earlier = on_the_pack; call = request 21 255; gives = answer OK 0 0 (header 0x00 0xC0 21 2) (held_with 21 0) }
    ∷ []
