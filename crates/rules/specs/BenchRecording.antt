-- Worked cases of "Session recordings": the bytes of whole recordings, and the lines that each prints. Those of blocks and board descriptions are
-- document 02's, L1 and L8. `proofs/Bench.antt` checks the table.
use Rattle.std.specs.Prelude.{ℕ, ◌/◌, ◌%◌, List, [], ◌∷◌, ◌++◌, length, take, drop, replicate}
use Rattle.rules.specs.Bytes.{u32_bytes}
use Rattle.rules.specs.Description.{our_bytes}
use Rattle.rules.specs.Call.{board, list, block, Call, offer, message}
use Rattle.rules.specs.Text.{ascii}
use Rattle.rules.specs.Bench.{list_with_master, bench_list, request, wait_status, header}
use Rattle.rules.specs.BenchCluster.{get_status}
use Rattle.rules.specs.BenchBoard.{a_host, a_processor, pack_bytes, pack_list}
use Rattle.rules.specs.BenchRole.{sent_via}
use Rattle.rules.specs.BenchWait.{wait_for, asks}
use Rattle.rules.specs.BenchBlock.{hierarchy_of, otp, block_of, tree, bench_block, with_tree, bad_size}

-- ---- the fields of the cases

-- a tag, a length in two bytes, and a body of this length
abbrev pub a_field : ℕ → List ℕ → List ℕ
a_field tag body = tag ∷ length body % 256 ∷ length body / 256 ∷ body

-- a message as it came in, with its channel host
abbrev pub said : ℕ → List ℕ → List ℕ
said channel bytes = a_field 3 (channel ∷ bytes)

-- the field that asks for a call of the bench, but for its status words
abbrev pub as_field : Call → List ℕ
as_field (offer (board bytes)) = a_field 6 bytes
as_field (offer (list bytes)) = a_field 1 bytes
as_field (offer (block major minor bytes)) = a_field 4 bytes
as_field (message lent) = said lent.channel lent.message

-- status words
unfoldable pub word_bytes : List ℕ → List ℕ
word_bytes [] = []
word_bytes (w ∷ words) = u32_bytes w ++ word_bytes words

abbrev pub status_words : List ℕ → List ℕ
status_words words = a_field 2 (word_bytes words)

-- the bench's list, and its block
abbrev pub the_list : List ℕ
the_list = a_field 1 bench_list

abbrev pub the_block : List ℕ
the_block = a_field 4 bench_block

-- host 3 asks for processor 1, and for its status
abbrev pub a_request : List ℕ
a_request = as_field (request 3)

abbrev pub a_get : List ℕ
a_get = as_field (get_status 3 1)

-- ---- the worked sessions, in examples/

-- document 01's: the list; host 3 requests 1, host 5 does, and host 3 releases it and asks for no answer
abbrev pub session_bytes : List ℕ
session_bytes =
    the_list
    ++ said 3 (0x00 ∷ 0xC0 ∷ 3 ∷ 7 ∷ 2 ∷ 0 ∷ 0 ∷ 0 ∷ 1 ∷ [])
    ++ said 5 (0x00 ∷ 0xC0 ∷ 5 ∷ 1 ∷ 2 ∷ 0 ∷ 0 ∷ 0 ∷ 1 ∷ [])
    ++ said 3 (0x01 ∷ 0xC0 ∷ 3 ∷ 8 ∷ 0 ∷ 0 ∷ 0 ∷ 0 ∷ 1 ∷ [])

-- the bench's list in a block with these pairs, and nothing in the OTP part
abbrev pub plain_block : List ℕ → List ℕ
plain_block pairs = a_field 4 (block_of bench_list (hierarchy_of pairs) ((0x81 ∷ 0x40 ∷ 69 ∷ 0 ∷ []) ++ replicate 65 0))

-- a block in which 5 and 6 are a loop; one without a loop; a list, which comes second; host 3 requests 1
abbrev pub block_bytes : List ℕ
block_bytes =
    plain_block (3 ∷ 10 ∷ 5 ∷ 6 ∷ 6 ∷ 5 ∷ []) ++ plain_block (5 ∷ 3 ∷ 6 ∷ 3 ∷ 3 ∷ 10 ∷ []) ++ the_list
    ++ said 3 (0x00 ∷ 0xC0 ∷ 3 ∷ 7 ∷ 2 ∷ 0 ∷ 0 ∷ 0 ∷ 1 ∷ [])

-- a pack with a cluster of three, and its list; host 20 requests 40 and sets bit 0 of its control word; the status now, and host 21 gets that of 42;
-- host 3, which is no host of the pack; another description
abbrev pub board_bytes : List ℕ
board_bytes =
    a_field 6 (a_host 20 1 ++ a_host 21 0 ++ a_processor 7 0 0 ++ a_processor 40 1 1 ++ a_processor 41 1 1 ++ a_processor 42 1 1)
    ++ a_field 1 pack_list
    ++ said 20 (0x00 ∷ 0xC0 ∷ 20 ∷ 1 ∷ 2 ∷ 0 ∷ 0 ∷ 0 ∷ 40 ∷ [])
    ++ said 20 ((0x01 ∷ 0xC1 ∷ 20 ∷ 2 ∷ 2 ∷ 0 ∷ 0 ∷ 0 ∷ 40 ∷ []) ++ u32_bytes 1 ++ u32_bytes 0)
    ++ status_words (0 ∷ [])
    ++ said 21 (0x00 ∷ 0xC4 ∷ 21 ∷ 3 ∷ 2 ∷ 0 ∷ 0 ∷ 0 ∷ 42 ∷ [])
    ++ said 3 (0x00 ∷ 0xC0 ∷ 3 ∷ 4 ∷ 2 ∷ 0 ∷ 0 ∷ 0 ∷ 1 ∷ [])
    ++ a_field 6 []

-- ---- the table

pub record RecordingCase : Type 0 where
  pub bytes : List ℕ
  pub prints : List ℕ

abbrev pub replaying : List ℕ → List ℕ → RecordingCase
replaying bytes prints = record { bytes = bytes; prints = prints }

unfoldable pub recorded : List RecordingCase
recorded =
    -- the worked sessions
    replaying session_bytes (ascii "list OK\nOK 0 0 00c0030702000000\nN7 0 0 00c0050100000000\nOK 0 0 -\n")
    ∷ replaying block_bytes (ascii "block B8 5\nblock OK\nlist A1\nOK 0 0 00c0030702000000\n")
    ∷ record {
      bytes = board_bytes;
      prints =
          ascii "board OK\nlist OK\nOK 0 0 00c0140102000000\nOK 0 0 01c1140202000000\n"
          ++ ascii "OK 0 0 00c41503020000002a0000000000000000000000000100000000000000\nN2 0 0 00c0030400000000\nboard A1\n";
    }
    -- an empty recording prints nothing
    ∷ replaying [] []
    -- a bad tag is judged alone, by its one byte
    ∷ replaying (9 ∷ []) (ascii "bad record\n")
    ∷ replaying (5 ∷ []) (ascii "bad record\n")
    ∷ replaying (0 ∷ []) (ascii "bad record\n")
    ∷ replaying (7 ∷ []) (ascii "bad record\n")
    ∷ replaying (255 ∷ []) (ascii "bad record\n")
    -- it ends the recording, behind the lines before it: a good field that follows prints nothing
    ∷ replaying (9 ∷ the_list) (ascii "bad record\n")
    ∷ replaying (the_list ++ a_field 5 [] ++ a_request) (ascii "list OK\nbad record\n")
    -- a good tag alone is cut, and so is one with one byte of a length, whatever the other may be
    ∷ replaying (1 ∷ []) (ascii "cut record\n")
    ∷ replaying (2 ∷ []) (ascii "cut record\n")
    ∷ replaying (3 ∷ []) (ascii "cut record\n")
    ∷ replaying (4 ∷ []) (ascii "cut record\n")
    ∷ replaying (6 ∷ []) (ascii "cut record\n")
    ∷ replaying (1 ∷ 0x24 ∷ []) (ascii "cut record\n")
    ∷ replaying (2 ∷ 6 ∷ []) (ascii "cut record\n")
    -- a bad length is judged once both bytes are there, before the body: 513; 0 of a message; 6 and 1,024 of status words
    ∷ replaying (1 ∷ 1 ∷ 2 ∷ []) (ascii "bad record\n")
    ∷ replaying (3 ∷ 1 ∷ 2 ∷ []) (ascii "bad record\n")
    ∷ replaying (4 ∷ 1 ∷ 2 ∷ []) (ascii "bad record\n")
    ∷ replaying (6 ∷ 1 ∷ 2 ∷ []) (ascii "bad record\n")
    ∷ replaying (3 ∷ 0 ∷ 0 ∷ []) (ascii "bad record\n")
    ∷ replaying (2 ∷ 6 ∷ 0 ∷ []) (ascii "bad record\n")
    ∷ replaying (2 ∷ 0 ∷ 4 ∷ []) (ascii "bad record\n")
    ∷ replaying (the_list ++ a_field 3 [] ++ a_request) (ascii "list OK\nbad record\n")
    -- the largest lengths are good, and the smallest: 512, of status words 1,020; 0, of a message 1
    ∷ replaying (1 ∷ 0 ∷ 2 ∷ []) (ascii "cut record\n")
    ∷ replaying (2 ∷ 0xFC ∷ 3 ∷ []) (ascii "cut record\n")
    ∷ replaying (3 ∷ 0 ∷ 2 ∷ []) (ascii "cut record\n")
    ∷ replaying (4 ∷ 0 ∷ 2 ∷ []) (ascii "cut record\n")
    ∷ replaying (6 ∷ 0 ∷ 2 ∷ []) (ascii "cut record\n")
    ∷ replaying (a_field 1 [] ++ a_field 2 [] ++ a_field 4 [] ++ a_field 6 []) (ascii "list A2\nblock B1\nboard OK\n")
    ∷ replaying (a_field 1 (replicate 512 0) ++ a_field 4 (replicate 512 0)) (ascii "list A2\nblock B1\n")
    -- a field that is cut in its body, behind the lines before it
    ∷ replaying (take 294 the_list) (ascii "cut record\n")
    ∷ replaying (the_list ++ a_request ++ take 12 a_request) (ascii "list OK\nOK 0 0 00c0030702000000\ncut record\n")
    ∷ replaying (the_list ++ take 3 a_request) (ascii "list OK\ncut record\n")
    -- get status with no status word, then with one
    ∷ record {
      bytes = the_list ++ a_get ++ status_words (9 ∷ []) ++ a_get;
      prints = ascii "list OK\nR3 0 0 -\nOK 0 0 00c4030702000000010000000000000000000000000000000009000000\n";
    }
    -- the words are little-endian, and the first is the status now
    ∷ record {
      bytes = the_list ++ a_field 2 (0x78 ∷ 0x56 ∷ 0x34 ∷ 0x12 ∷ 1 ∷ 2 ∷ 3 ∷ 4 ∷ []) ++ a_get;
      prints = ascii "list OK\nOK 0 0 00c4030702000000010000000000000000000000000000000078563412\n";
    }
    -- they stand over a list and over other messages
    ∷ record {
      bytes = status_words (9 ∷ []) ++ the_list ++ a_get ++ a_request ++ a_get;
      prints =
          ascii "list OK\nOK 0 0 00c4030702000000010000000000000000000000000000000009000000\nOK 0 0 00c0030702000000\n"
          ++ ascii "OK 0 0 00c4030702000000010000000000000000000000000000000009000000\n";
    }
    -- over a description, a block and a refused list
    ∷ record {
      bytes = status_words (9 ∷ []) ++ a_field 6 our_bytes ++ the_block ++ the_list ++ a_get;
      prints = ascii "board OK\nblock OK\nlist A1\nOK 0 0 00c4030702000000010000000000000000000000000000000009000000\n";
    }
    -- until they are replaced, all of them, or taken away
    ∷ record {
      bytes = the_list ++ status_words (9 ∷ []) ++ a_get ++ status_words (8 ∷ []) ++ a_get;
      prints =
          ascii "list OK\nOK 0 0 00c4030702000000010000000000000000000000000000000009000000\n"
          ++ ascii "OK 0 0 00c4030702000000010000000000000000000000000000000008000000\n";
    }
    ∷ record {
      bytes = the_list ++ status_words (1 ∷ 1 ∷ 1 ∷ []) ++ as_field (asks 3 3 []) ++ status_words (1 ∷ 1 ∷ []) ++ as_field (asks 3 3 []);
      prints = ascii "list OK\nOK 3 7 01c4030702000000\nR3 0 0 -\n";
    }
    ∷ record {
      bytes = the_list ++ status_words (9 ∷ []) ++ a_get ++ status_words [] ++ a_get;
      prints = ascii "list OK\nOK 0 0 00c4030702000000010000000000000000000000000000000009000000\nR3 0 0 -\n";
    }
    -- document 01's wait: words 0, 2, 0x12, 1, 2, then five zeros; 5 checks, 10 microseconds
    ∷ record {
      bytes = the_list ++ a_request ++ status_words ((0 ∷ 2 ∷ 0x12 ∷ 1 ∷ 2 ∷ []) ++ replicate 5 0) ++ as_field (wait_status 3 []);
      prints = ascii "list OK\nOK 0 0 00c0030702000000\nOK 5 10 01c4030702000000\n";
    }
    -- the most words that a field holds are enough for the most waits; the first of them ends this one
    ∷ replaying (the_list ++ a_field 2 (1 ∷ replicate 1019 0) ++ as_field (asks 255 1 [])) (ascii "list OK\nOK 1 3 01c4030702000000\n")
    -- numbers of two digits and of four: the last of twelve words matches, and the delays are the longest
    ∷ record {
      bytes =
          the_list ++ status_words (replicate 11 0 ++ (1 ∷ []))
          ++ said 3 (header 0x01 0xC4 3 2 ++ (1 ∷ 12 ∷ 1 ∷ 255 ∷ 255 ∷ []) ++ u32_bytes 0 ++ u32_bytes 1 ++ u32_bytes 0 ++ u32_bytes 0);
      prints = ascii "list OK\nOK 12 3315 01c4030702000000\n";
    }
    -- the channel host is the first byte: one unlike the header's host, and one that is no host of the board
    ∷ replaying (the_list ++ as_field (message (sent_via 5 3 0x00 0xC0 (1 ∷ []) [] 29))) (ascii "list OK\nN2 0 0 00c0030700000000\n")
    ∷ replaying (the_list ++ as_field (request 255)) (ascii "list OK\nN2 0 0 00c0ff0700000000\n")
    -- the channel host alone, with a message of 0 bytes
    ∷ replaying (the_list ++ said 3 []) (ascii "list OK\nR2 0 0 -\n")
    -- the longest message that a field holds
    ∷ replaying (the_list ++ said 3 (replicate 511 0)) (ascii "list OK\nR2 0 0 -\n")
    -- no list yet
    ∷ replaying (a_request ++ the_list) (ascii "N1 0 0 00c0030700000000\nlist OK\n")
    -- no answer asked for prints -: a wait that is carried out, and one that is refused
    ∷ record {
      bytes = the_list ++ status_words (1 ∷ 1 ∷ 1 ∷ []) ++ as_field (wait_for 3 0 1 3 3 []) ++ as_field (wait_for 3 0 1 3 4 []);
      prints = ascii "list OK\nOK 3 7 -\nN8 0 0 -\n";
    }
    -- lists: a fault, and nothing is taken; a second one
    ∷ replaying (a_field 1 (list_with_master 0x0A 0x01) ++ the_list ++ the_list) (ascii "list A7\nlist OK\nlist A1\n")
    -- blocks: ABI bytes 1 and 0; a fault in the list; the host of a loop; one of two digits; a number of two digits; behind a list
    ∷ replaying (a_field 4 (1 ∷ 0 ∷ drop 2 bench_block)) (ascii "block B2\n")
    ∷ replaying (a_field 4 (block_of (list_with_master 0x0A 0x01) (hierarchy_of tree) otp)) (ascii "block A7\n")
    ∷ replaying (a_field 4 (with_tree (5 ∷ 6 ∷ 6 ∷ 5 ∷ []))) (ascii "block B8 5\n")
    ∷ replaying (a_field 4 (with_tree (12 ∷ 13 ∷ 13 ∷ 12 ∷ []))) (ascii "block B8 12\n")
    ∷ replaying (a_field 4 (block_of bench_list (hierarchy_of tree) (bad_size otp))) (ascii "block B10\n")
    ∷ replaying (the_list ++ the_block) (ascii "list OK\nblock A1\n")
    -- board descriptions: a repeat, and nothing is taken; one that takes processor 1 away; behind a list
    ∷ replaying (a_field 6 (a_host 9 0 ++ a_host 9 2) ++ the_list) (ascii "board D3\nlist OK\n")
    ∷ replaying (a_field 6 pack_bytes ++ the_list) (ascii "board OK\nlist A5\n")
    ∷ replaying (the_list ++ a_field 6 pack_bytes) (ascii "list OK\nboard A1\n")
    ∷ []
