-- "Outcomes, in the order they are tested", with "Right (N7)" and "Operands (N8)". What a call can see of the state is a `View` and what
-- it is asked a `Query`, so that their types show on what an outcome depends.
use Rattle.std.specs.Prelude.{ℕ, Bool, true, false, not, ◌&&◌, ◌||◌, List, [], ◌∷◌, ◌++◌, length, eqb, ltb, Option, Result, Ok, Err}
use Rattle.rules.specs.declared.Kind.{Kind}
use Rattle.rules.specs.declared.Kind.TheVariants.{Request, Release, Handover, SetConfig, SetControl, AuthBoot, GetStatus, WaitStatus, Other}
use Rattle.rules.specs.declared.Refusal.{Refusal}
use Rattle.rules.specs.declared.Refusal.TheVariants.{R1, R2, R3, N1, N2, N3, N4, N5, N6, N7, N8, N9}
use Rattle.rules.specs.declared.Record.{Record}
use Rattle.rules.specs.declared.Role.{Role}
use Rattle.rules.specs.Table.{Line, ◌gives◌, first_of}
use Rattle.rules.specs.Board.{Board, active_host, on_board, class_of, control_word}
use Rattle.rules.specs.AccessList.{Entry}
use Rattle.rules.specs.Role.{role_of, is_master, permits, permitted}
use Rattle.rules.specs.Message.{Query, largest_answer, host_of, is_kind, kind_in, size_of, subject_of, new_host_of, vector_low_of, config_set_of, config_clear_of, control_set_of, control_clear_of, wait_in}
use Rattle.rules.specs.Flags.{flags_good, config_good}
use Rattle.rules.specs.Wait.{wait_good, ran_out}

-- what a message comes to: OK, or refused by a row
abbrev pub Outcome : Type 0
Outcome = Result Unit Refusal

abbrev pub OK : Outcome
OK = Ok tt

-- what a message call sees of the state: the board, whether a list was accepted, and the entry and the record of the processor named
pub record View : Type 0 where
  pub board : Board
  pub listed : Bool
  pub entry : Entry
  pub state : Record

-- ---- the rows' tests, R1 to N6

-- R1
abbrev pub room_too_small : Query → Bool
room_too_small q = ltb q.room largest_answer

-- R2
abbrev pub length_wrong : Query → Bool
length_wrong q = ltb (length q.message) 8 || ltb 60 (length q.message)

-- N2: the channel host is not a board host, or 0, or unlike the header's host
unfoldable pub sender_wrong : Board → Query → Bool
sender_wrong b q = not (active_host b q.channel) || not (eqb q.channel (host_of q.message))

-- N3
abbrev pub type_unknown : Kind → Bool
type_unknown k = is_kind k Other

-- N4
abbrev pub too_short : Kind → Query → Bool
too_short k q = ltb (length q.message) (size_of k)

-- N5: authenticated boot is not offered on this general-purpose part
abbrev pub not_offered : Kind → Bool
not_offered k = is_kind k AuthBoot

-- N6
abbrev pub off_board : Board → Query → Bool
off_board b q = not (on_board b (subject_of q))

-- ---- the right (N7)

abbrev pub is_free : Record → Bool
is_free r = eqb r.controller 0

abbrev pub is_controller : Record → ℕ → Bool
is_controller r h = eqb r.controller h

-- the sender's role for the processor named
abbrev pub sender_role : View → Query → Option Role
sender_role v q = role_of v.board v.entry q.channel

-- the processor is free and the sender permitted, or the sender is its recovery master
abbrev pub may_request : Option Role → Record → Bool
may_request role r = is_free r && permits role || is_master role

abbrev pub has_right : Kind → View → Query → Bool
has_right Request v q = may_request (sender_role v q) v.state
has_right Release v q = is_controller v.state q.channel
has_right Handover v q = is_controller v.state q.channel
has_right SetConfig v q = is_controller v.state q.channel
has_right SetControl v q = is_controller v.state q.channel
has_right AuthBoot v q = false
has_right GetStatus v q = permitted v.board v.entry q.channel
has_right WaitStatus v q = permitted v.board v.entry q.channel
has_right Other v q = false

-- ---- the operands (N8)

abbrev pub operands_good : Kind → View → Query → Bool
operands_good Request v q = true
operands_good Release v q = true
operands_good Handover v q = permitted v.board v.entry (new_host_of q.message)
operands_good SetConfig v q =
    config_good (class_of v.board (subject_of q)) (vector_low_of q.message) (config_set_of q.message) (config_clear_of q.message)
operands_good SetControl v q =
    flags_good (class_of v.board (subject_of q)) control_word (control_set_of q.message) (control_clear_of q.message)
operands_good AuthBoot v q = true
operands_good GetStatus v q = true
operands_good WaitStatus v q = wait_good (wait_in q.message)
operands_good Other v q = true

-- ---- R3 and N9, by the message and the status words

-- get status with no status word, or wait with fewer words than waits
unfoldable pub words_missing : Kind → Query → Bool
words_missing k q =
    is_kind k GetStatus && eqb (length q.status) 0
    || is_kind k WaitStatus && ltb (length q.status) (wait_in q.message).waits

-- the wait ran out
unfoldable pub wait_failed : Kind → Query → Bool
wait_failed k q = is_kind k WaitStatus && ran_out (wait_in q.message) q.status

-- ---- the table, in four parts

-- before the type: R1 to N2
unfoldable pub before_type : Board → Bool → Query → List (Line Outcome)
before_type b listed q =
    (room_too_small q gives Err R1)
    ∷ (length_wrong q gives Err R2)
    ∷ (not listed gives Err N1)
    ∷ (sender_wrong b q gives Err N2)
    ∷ []

-- the type: N3
unfoldable pub on_type : Kind → List (Line Outcome)
on_type k = (type_unknown k gives Err N3) ∷ []

-- behind the type: N4 to N8
unfoldable pub behind_type : View → Query → Kind → List (Line Outcome)
behind_type v q k =
    (too_short k q gives Err N4)
    ∷ (not_offered k gives Err N5)
    ∷ (off_board v.board q gives Err N6)
    ∷ (not (has_right k v q) gives Err N7)
    ∷ (not (operands_good k v q) gives Err N8)
    ∷ []

-- by the status words: R3 and N9
unfoldable pub by_words : Query → Kind → List (Line Outcome)
by_words q k = (words_missing k q gives Err R3) ∷ (wait_failed k q gives Err N9) ∷ []

-- R1 to N8 say whether a message is admitted
unfoldable pub admission : View → Query → Kind → List (Line Outcome)
admission v q k = before_type v.board v.listed q ++ (on_type k ++ behind_type v q k)

-- the rows that a message of a known type comes to: from N4 on
unfoldable pub from_N4 : View → Query → Kind → List (Line Outcome)
from_N4 v q k = behind_type v q k ++ by_words q k

-- and of any type: from N3 on
unfoldable pub from_type : View → Query → Kind → List (Line Outcome)
from_type v q k = on_type k ++ from_N4 v q k

unfoldable pub outcome_table : View → Query → Kind → List (Line Outcome)
outcome_table v q k = admission v q k ++ by_words q k

unfoldable pub outcome_of : View → Query → Outcome
outcome_of v q = first_of OK (outcome_table v q (kind_in q.message))

-- document 01's number of an outcome: 0 for OK, k for Nk, 100 + k for Rk
abbrev pub outcome_number : Outcome → ℕ
outcome_number (Ok _) = 0
outcome_number (Err N1) = 1
outcome_number (Err N2) = 2
outcome_number (Err N3) = 3
outcome_number (Err N4) = 4
outcome_number (Err N5) = 5
outcome_number (Err N6) = 6
outcome_number (Err N7) = 7
outcome_number (Err N8) = 8
outcome_number (Err N9) = 9
outcome_number (Err R1) = 101
outcome_number (Err R2) = 102
outcome_number (Err R3) = 103

-- "carried out", 01's term: outcome OK, answered or not
unfoldable pub carried_out : Outcome → Bool
carried_out (Ok _) = true
carried_out (Err _) = false

-- R1 to R3, of which the sender is told nothing
unfoldable pub silent : Outcome → Bool
silent o = ltb 100 (outcome_number o)
