-- The claims of document 02's L12, over the rules: `AnyCutting`, `CarryShort`, `NothingAfterEnd`, `OverStays`, `EndPrints` and `CallsPrint`. Their theorems are in proofs/Theorem.antt.
use Rattle.std.specs.Prelude.{ℕ, ◌≤◌, ◌<◌, ◌≡◌, true, false, List, [], ◌∷◌, ◌++◌, length}
use Rattle.recording_texts.specs.Texts.{line_size}
use Rattle.rules.specs.Recording.{found, Session, last_line, transcript}
use Rattle.recording_stream.specs.Stream.{carry_size, Stream, started, after_end, end_line, after_pieces, printed_over, joined_pieces}
use Rattle.recording_stream.specs.Turn.{turn, turn_from, end_from}

-- "any cutting prints the same lines": over any pieces and the end what is printed is the transcript of the pieces joined
abbrev pub AnyCutting : Type 0
AnyCutting = (s : Session) (pieces : List (List ℕ)) → printed_over (started s) pieces ≡ transcript s (joined_pieces pieces)

-- after any pieces the carry has room for one byte more
abbrev pub CarryShort : Type 0
CarryShort =
    (s : Session) (pieces : List (List ℕ)) → length (after_pieces (started s) pieces).carry < carry_size

-- "announcing the end a second time, or feeding after it, prints nothing"; and so after a bad record
abbrev pub NothingAfterEnd : Type 0
NothingAfterEnd = (st : Stream) (pieces : List (List ℕ)) → printed_over (after_end st) pieces ≡ []

-- a call over a recording that is over prints nothing, and it stays over; the announced end, with room for a line, prints what the end of a stream prints
abbrev pub OverStays : Type 0
OverStays =
    (room : ℕ) (s : Session) (bytes : List ℕ) → ((turn_from true room s bytes).printed ≡ []) × ((turn_from true room s bytes).over ≡ true)

abbrev pub EndPrints : Type 0
EndPrints = (st : Stream) (room : ℕ) → line_size ≤ room → (end_from st.over room st.carry).printed ≡ end_line st

-- calls of the feeding function, each with any output: the bytes that are there, the pieces still to come, and all that is printed from here on. While a
-- record waits for room, it is called again; then comes the next piece, behind what is left over; then the end is announced. After a bad record nothing
-- more is printed, whatever is fed and announced
pub data Feeds : Session → List ℕ → List (List ℕ) → List ℕ → Type 0 where
  again : {s : Session} {bytes : List ℕ} {pieces : List (List ℕ)} {later : List ℕ} (room : ℕ)
      → (turn room s bytes).full ≡ true
      → Feeds (turn room s bytes).session (turn room s bytes).left pieces later
      → Feeds s bytes pieces ((turn room s bytes).printed ++ later)
  next : {s : Session} {bytes piece : List ℕ} {pieces : List (List ℕ)} {later : List ℕ} (room : ℕ)
      → (turn room s bytes).full ≡ false
      → (turn room s bytes).over ≡ false
      → Feeds (turn room s bytes).session ((turn room s bytes).left ++ piece) pieces later
      → Feeds s bytes (piece ∷ pieces) ((turn room s bytes).printed ++ later)
  over : {s : Session} {bytes : List ℕ} {pieces : List (List ℕ)} (room : ℕ)
      → (turn room s bytes).over ≡ true
      → Feeds s bytes pieces (turn room s bytes).printed
  end : {s : Session} {bytes : List ℕ} (room : ℕ)
      → (turn room s bytes).full ≡ false
      → (turn room s bytes).over ≡ false
      → Feeds s bytes [] ((turn room s bytes).printed ++ last_line (found (turn room s bytes).left))

-- whatever calls feed each piece until it is used up, and then announce the end, print the transcript
abbrev pub CallsPrint : Type 0
CallsPrint =
    (s : Session) (bytes : List ℕ) (pieces : List (List ℕ)) (printed : List ℕ)
    → Feeds s bytes pieces printed
    → printed ≡ transcript s (bytes ++ joined_pieces pieces)
