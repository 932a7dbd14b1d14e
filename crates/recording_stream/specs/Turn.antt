-- One call of the feeding function, with a lent output of `room` bytes: it carries out as many records as are whole and as the output has room for. A
-- record is carried out, and `bad record` printed, only where any line fits.
use Rattle.std.specs.Prelude.{ℕ, zero, suc, ◌-◌, Bool, true, false, cond, not, ◌||◌, List, [], ◌∷◌, ◌++◌, length, drop, ltb}
use Rattle.rules.specs.Table.{◌gives◌, first_of}
use Rattle.rules.specs.Recording.{found, is_whole, is_bad, field_in, field_length, Session, carry_out, bad_line, last_line}
use Rattle.recording_texts.specs.Texts.{line_size}

-- what a call leaves: the session, the bytes that are left over, whether the recording is over, whether a record waits for room; and what it prints
pub record Turn : Type 0 where
  pub session : Session
  pub left : List ℕ
  pub over : Bool
  pub full : Bool
  pub printed : List ℕ

-- no whole record is there, and more may come; the same of a recording that is over
unfoldable pub waiting : Session → List ℕ → Bool → Turn
waiting s bytes over = record { session = s; left = bytes; over = over; full = false; printed = [] }

-- a record is there, and the output has no room for its line
unfoldable pub no_room : Session → List ℕ → Turn
no_room s bytes = record { session = s; left = bytes; over = false; full = true; printed = [] }

-- a bad record
unfoldable pub broken : Session → Turn
broken s = record { session = s; left = []; over = true; full = false; printed = bad_line }

-- behind a line
unfoldable pub behind_line : List ℕ → Turn → Turn
behind_line line t =
    record { session = t.session; left = t.left; over = t.over; full = t.full; printed = line ++ t.printed }

-- of at most k records
unfoldable pub turn_in : ℕ → ℕ → Session → List ℕ → Turn
turn_in zero room s bytes = waiting s bytes false
turn_in (suc k) room s bytes =
    let f = found bytes in
    let d = carry_out s (field_in bytes) in
    first_of (behind_line d.line (turn_in k (room - length d.line) d.session (drop (field_length bytes) bytes)))
    ((not (is_whole f || is_bad f) gives waiting s bytes false)
    ∷ (ltb room line_size gives no_room s bytes)
    ∷ (is_bad f gives broken s)
    ∷ [])

-- over the bytes that are there: the carry, and the rest of the piece
unfoldable pub turn : ℕ → Session → List ℕ → Turn
turn room s bytes = turn_in (length bytes) room s bytes

-- of a recording that may be over: then nothing more is looked at
unfoldable pub turn_from : Bool → ℕ → Session → List ℕ → Turn
turn_from over room s bytes = cond over (waiting s [] true) (turn room s bytes)

-- the end announced, with the bytes that are left over: what is printed, and whether the recording is over now
pub record End : Type 0 where
  pub over : Bool
  pub full : Bool
  pub printed : List ℕ

unfoldable pub end_from : Bool → ℕ → List ℕ → End
end_from over room bytes =
    first_of (record { over = true; full = false; printed = last_line (found bytes) })
    ((over gives record { over = true; full = false; printed = [] })
    ∷ (ltb room line_size gives record { over = false; full = true; printed = [] })
    ∷ [])
