-- "Session recordings": the tagged fields that a recording has, what each of them does and prints, and what a whole recording prints. Tags 4 and 6
-- are document 02's, L1 and L8.
use Rattle.std.specs.Prelude.{ℕ, zero, suc, ◌+◌, ◌*◌, ◌/◌, ◌%◌, Bool, true, false, cond, not, ◌&&◌, ◌||◌, List, [], ◌∷◌, ◌++◌, length, take, drop, replicate, eqb, leb, ltb}
use Rattle.rules.specs.declared.Found.{Found}
use Rattle.rules.specs.declared.Found.TheVariants.{Whole, Bad, Partial, Nothing}
use Rattle.rules.specs.declared.Report.{Report}
use Rattle.rules.specs.Table.{◌gives◌, first_of}
use Rattle.rules.specs.Bytes.{byte_at, u16_at, u32_at, field_head}
use Rattle.rules.specs.Verdict.{Verdict, verdict_number, reported_host}
use Rattle.rules.specs.Description.{ours}
use Rattle.rules.specs.Message.{largest_answer}
use Rattle.rules.specs.Outcome.{outcome_number}
use Rattle.rules.specs.State.{State, fresh}
use Rattle.rules.specs.Call.{board, list, block, verdict_to, answer_to, Lent, query_of, Call, offer, message, next}
use Rattle.rules.specs.Text.{ascii, decimal_of, outcome_name, verdict_line, answer_text}

-- ---- "tagged fields ..: one-byte tag, two-byte little-endian length, bytes"

-- tag 1 list, 2 status words, 3 channel host and message, 4 block, 6 board description
abbrev pub list_tag : ℕ
list_tag = 1

abbrev pub status_tag : ℕ
status_tag = 2

abbrev pub message_tag : ℕ
message_tag = 3

abbrev pub block_tag : ℕ
block_tag = 4

abbrev pub board_tag : ℕ
board_tag = 6

abbrev pub tag_good : ℕ → Bool
tag_good tag = eqb tag list_tag || eqb tag status_tag || eqb tag message_tag || eqb tag block_tag || eqb tag board_tag

-- the longest body of status words, and of any other field
abbrev pub status_limit : ℕ
status_limit = 1020

abbrev pub body_limit : ℕ
body_limit = 512

-- whether a field has a length of its tag: list 0 to 512 bytes; status words a multiple of 4, 0 to 1,020; channel host and message 1 to 512;
-- block 0 to 512; board description 0 to 512; no length is good for any other tag
unfoldable pub length_good : ℕ → ℕ → Bool
length_good tag n =
    first_of false
    ((eqb tag list_tag gives leb n body_limit)
    ∷ (eqb tag status_tag gives (leb n status_limit && eqb (n % 4) 0))
    ∷ (eqb tag message_tag gives (leb 1 n && leb n body_limit))
    ∷ (eqb tag block_tag gives leb n body_limit)
    ∷ (eqb tag board_tag gives leb n body_limit)
    ∷ [])

-- what bytes begin with: nothing; a bad tag, "judged alone"; a field whose length is cut; a bad length, "judged once both bytes are there, before the
-- body"; a field whose body is cut; or a whole field, with its tag and the length of its body
unfoldable pub found : List ℕ → Found
found bytes =
    let tag = byte_at bytes 0 in
    let n = u16_at bytes 1 in
    first_of (Whole tag n)
    ((eqb (length bytes) 0 gives Nothing)
    ∷ (not (tag_good tag) gives Bad)
    ∷ (ltb (length bytes) field_head gives Partial)
    ∷ (not (length_good tag n) gives Bad)
    ∷ (ltb (length bytes) (field_head + n) gives Partial)
    ∷ [])

abbrev pub is_whole : Found → Bool
is_whole (Whole tag n) = true
is_whole Bad = false
is_whole Partial = false
is_whole Nothing = false

abbrev pub is_bad : Found → Bool
is_bad (Whole tag n) = false
is_bad Bad = true
is_bad Partial = false
is_bad Nothing = false

pub record Field : Type 0 where
  pub tag : ℕ
  pub body : List ℕ

abbrev pub field_of : ℕ → List ℕ → Field
field_of tag body = record { tag = tag; body = body }

-- the field that bytes begin with, and how many of them it has
abbrev pub field_in : List ℕ → Field
field_in bytes = field_of (byte_at bytes 0) (take (u16_at bytes 1) (drop field_head bytes))

abbrev pub field_length : List ℕ → ℕ
field_length bytes = field_head + u16_at bytes 1

-- a recording: its whole fields, in order, up to the first place where none begins, and the bytes from there on
pub record Split : Type 0 where
  pub fields : List Field
  pub rest : List ℕ

unfoldable pub in_front : Field → Split → Split
in_front f p = record { fields = f ∷ p.fields; rest = p.rest }

-- of at most k fields
unfoldable pub split_in : ℕ → List ℕ → Split
split_in zero bytes = record { fields = []; rest = bytes }
split_in (suc k) bytes =
    cond (is_whole (found bytes))
    (in_front (field_in bytes) (split_in k (drop (field_length bytes) bytes)))
    (record { fields = []; rest = bytes })

-- each has at least one byte, so there are no more than bytes
unfoldable pub split : List ℕ → Split
split bytes = split_in (length bytes) bytes

-- ---- what a field does

-- a session: the state, and the status words that stand
pub record Session : Type 0 where
  pub state : State
  pub words : List ℕ

-- how many status words the largest field holds
abbrev pub word_limit : ℕ
word_limit = 255

-- the status words of a body: little-endian, four bytes each
unfoldable pub words_from : List ℕ → ℕ → ℕ → List ℕ
words_from body i zero = []
words_from body i (suc n) = u32_at body (4 * i) ∷ words_from body (suc i) n

unfoldable pub words_in : List ℕ → List ℕ
words_in body = take word_limit (words_from body 0 (length body / 4))

-- the ABI bytes that a recorded block must have
abbrev pub abi_major : ℕ
abi_major = 0

abbrev pub abi_minor : ℕ
abi_minor = 1

-- what a message field lends: it has the channel host, then the message; with it come the standing words, and "a 29-byte answer buffer"
abbrev pub lent_in : List ℕ → List ℕ → Lent
lent_in body words =
    record { channel = byte_at body 0; message = drop 1 body; status = words; buffer = replicate largest_answer 0 }

-- the calls that fields ask for
abbrev pub list_call : List ℕ → Call
list_call body = offer (list body)

abbrev pub message_call : List ℕ → List ℕ → Call
message_call body words = message (lent_in body words)

abbrev pub block_call : List ℕ → Call
block_call body = offer (block abi_major abi_minor body)

abbrev pub board_call : List ℕ → Call
board_call body = offer (board body)

-- ---- what a field prints

-- tag 1 prints `list OK` or `list A5`, tag 4 `block OK`, `block A7` or `block B8 5`, tag 6 `board OK`, `board D3` or `board A1`: the word, with a
-- space, and the verdict's name, with B8 the loop's host behind it
abbrev pub list_word : List ℕ
list_word = ascii "list "

abbrev pub block_word : List ℕ
block_word = ascii "block "

abbrev pub board_word : List ℕ
board_word = ascii "board "

unfoldable pub offer_line : List ℕ → Verdict → List ℕ
offer_line word v = word ++ verdict_line (verdict_number v) (reported_host v)

-- tag 3 prints outcome, checks, microseconds and answer, with single spaces
abbrev pub outcome_text : ℕ → ℕ → ℕ → List ℕ → List ℕ
outcome_text number checks micros bytes =
    (outcome_name number ++ ascii " ")
    ++ (decimal_of checks ++ ascii " ")
    ++ (decimal_of micros ++ ascii " ")
    ++ answer_text bytes
    ++ ascii "\n"

unfoldable pub message_line : Report → List ℕ → List ℕ
message_line r bytes = outcome_text (outcome_number r.outcome) r.checks r.micros bytes

-- the line of a call
unfoldable pub line_of : State → Call → List ℕ
line_of s (offer (board bytes)) = offer_line board_word (verdict_to s (board bytes))
line_of s (offer (list bytes)) = offer_line list_word (verdict_to s (list bytes))
line_of s (offer (block major minor bytes)) = offer_line block_word (verdict_to s (block major minor bytes))
line_of s (message lent) = message_line (answer_to s (query_of lent)).report (answer_to s (query_of lent)).bytes

-- ---- a field carried out: the session that it leaves, and the line that it prints

pub record Done : Type 0 where
  pub session : Session
  pub line : List ℕ

-- by a call: the words stand on
unfoldable pub called : Session → Call → Done
called s c = record { session = record { state = next s.state c; words = s.words }; line = line_of s.state c }

-- with these words from now on; nothing is printed
unfoldable pub standing : Session → List ℕ → Done
standing s words = record { session = record { state = s.state; words = words }; line = [] }

-- by the field's tag; one of a tag that is none, which is never found, does nothing
unfoldable pub carry_out : Session → Field → Done
carry_out s f =
    first_of (record { session = s; line = [] })
    ((eqb f.tag list_tag gives called s (list_call f.body))
    ∷ (eqb f.tag status_tag gives standing s (words_in f.body))
    ∷ (eqb f.tag message_tag gives called s (message_call f.body s.words))
    ∷ (eqb f.tag block_tag gives called s (block_call f.body))
    ∷ (eqb f.tag board_tag gives called s (board_call f.body))
    ∷ [])

-- fields carried out in their order: the session that they leave, and the lines that they print
unfoldable pub session_after : Session → List Field → Session
session_after s [] = s
session_after s (f ∷ fs) = session_after (carry_out s f).session fs

unfoldable pub lines_of : Session → List Field → List ℕ
lines_of s [] = []
lines_of s (f ∷ fs) = (carry_out s f).line ++ lines_of (carry_out s f).session fs

-- ---- how a recording ends: "`bad record` and ends"; "a field cut off prints `cut record` and ends"

abbrev pub bad_line : List ℕ
bad_line = ascii "bad record\n"

abbrev pub cut_line : List ℕ
cut_line = ascii "cut record\n"

-- where no whole field begins
abbrev pub last_line : Found → List ℕ
last_line (Whole tag n) = []
last_line Bad = bad_line
last_line Partial = cut_line
last_line Nothing = []

-- ---- what a whole recording prints, from a session on

unfoldable pub transcript : Session → List ℕ → List ℕ
transcript s bytes = lines_of s (split bytes).fields ++ last_line (found (split bytes).rest)

-- the session at first: a fresh manager on document 01's board, and no status words
unfoldable pub first_session : Session
first_session = record { state = fresh ours; words = [] }
