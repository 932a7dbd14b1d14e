-- What a call of the feeding function leaves in the lent buffers and memories, and what the announced end does.
use Rattle.std.specs.Prelude.{ℕ, ◌+◌, ◌-◌, ◌≤◌, ◌≡◌, Bool, true, false, cond, List, ◌++◌, length, take, drop}
use Rattle.rules.specs.Answer.{buffer_after}
use Rattle.rules.specs.Recording.{Session}
use Rattle.recording_texts.specs.Texts.{laid}
use Rattle.recording_stream.specs.Stream.{carry_size}
use Rattle.recording_stream.specs.Turn.{Turn, turn_from, end_from}
use Rattle.recording_step.specs.SessionMemory.{SessionMemories, session_in, kept_session}
use Rattle.recording_feed.specs.declared.Fed.{Fed}
use Rattle.recording_feed.specs.declared.Place.{Place}
use Rattle.recording_feed.specs.declared.Ended.{Ended}
use Rattle.recording_feed.specs.Pending.{pending}

-- behind a record that ends at `end`, in the carry or in the piece: what is there then
unfoldable pub passed_bytes : List ℕ → ℕ → List ℕ → ℕ → Bool → ℕ → List ℕ
passed_bytes carry held piece at carried end =
    cond carried (drop end (take held carry) ++ drop at piece) (take held carry ++ drop end piece)

-- the carry and the place in any piece, where that is passed over
pub record Passed (carry : List ℕ) (held at : ℕ) (carried : Bool) (end : ℕ) (carry' : List ℕ) (r : Place) : Type 0 where
  pub bytes : (piece : List ℕ) → pending carry' r.held piece r.at ≡ passed_bytes carry held piece at carried end
  pub in_carry : carried ≡ true → (r.held ≡ held - end) × (r.at ≡ at)
  pub in_piece : carried ≡ false → (r.held ≡ held) × (r.at ≡ end)

-- a turn, told in numbers: its lines are laid over the output from place `used` on, and the bytes that it leaves are in the carry and in the rest of the
-- piece; this is used up unless a record waits for room
pub record Told (t : Turn) (piece out : List ℕ) (used : ℕ) (carry' out' : List ℕ) (r : Fed) : Type 0 where
  pub printed : out' ≡ laid out used t.printed
  pub count : r.used ≡ used + length t.printed
  pub left : pending carry' r.held piece r.at ≡ t.left
  pub over : r.over ≡ t.over
  pub full : r.full ≡ t.full
  pub held : r.held ≤ carry_size
  pub place : r.at ≤ length piece
  pub used-up : r.full ≡ false → r.at ≡ length piece

-- a turn that carries no record out leaves the session as it was
pub record Stopped (s : Session) (t : Turn) (piece out : List ℕ) (used : ℕ) (carry' out' : List ℕ) (r : Fed) : Type 0 where
  pub told : Told t piece out used carry' out' r
  pub session : t.session ≡ s

-- a call over lent memories, a carry that holds `held` bytes, a piece from place `at` on and an output, all of any content: what is printed and left is
-- the turn of the session and the bytes that are there; the memories hold what is kept of the session that it leaves
pub record FeedCall (m : SessionMemories) (carry : List ℕ) (held : ℕ) (over : Bool) (piece : List ℕ) (at : ℕ) (out : List ℕ)
    (m' : SessionMemories) (carry' out' : List ℕ) (r : Fed) : Type 0 where
  pub told : Told (turn_from over (length out) (session_in m) (pending carry held piece at)) piece out 0 carry' out' r
  pub session : session_in m' ≡ kept_session (turn_from over (length out) (session_in m) (pending carry held piece at)).session

-- the end announced
pub record EndCall (carry : List ℕ) (held : ℕ) (over : Bool) (out out' : List ℕ) (r : Ended) : Type 0 where
  pub printed : out' ≡ buffer_after (end_from over (length out) (take held carry)).printed out
  pub count : r.used ≡ length (end_from over (length out) (take held carry)).printed
  pub ends : r.over ≡ (end_from over (length out) (take held carry)).over
  pub waits : r.full ≡ (end_from over (length out) (take held carry)).full
