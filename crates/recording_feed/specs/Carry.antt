-- What is done with the carry: the record that begins in it is completed, and the rest of a piece is taken to it.
use Rattle.std.specs.Prelude.{ℕ, ◌+◌, ◌≤◌, ◌<◌, ◌≡◌, List, length, take}
use Rattle.rules.specs.Recording.{found}
use Rattle.recording_feed.specs.declared.cursor.Next.{Next}
use Rattle.recording_feed.specs.Pending.{pending, sight_of}

-- the carry has that many bytes, and the place is within the piece
abbrev pub InBounds : List ℕ → ℕ → List ℕ → ℕ → Type 0
InBounds carry held piece at = (held ≤ length carry) × (at ≤ length piece)

-- `count` bytes of the piece went to the carry, and the bytes that are there are the same
pub record Moved (carry : List ℕ) (held : ℕ) (piece : List ℕ) (at : ℕ) (carry' : List ℕ) (count : ℕ) : Type 0 where
  pub same : pending carry' (held + count) piece (at + count) ≡ pending carry held piece at
  pub fits : held + count ≤ length carry
  pub there : at + count ≤ length piece
  pub sized : length carry' ≡ length carry

-- and where the carry holds anything then, it alone says what comes next
pub record Settled (carry : List ℕ) (held : ℕ) (piece : List ℕ) (at : ℕ) (carry' : List ℕ) (count : ℕ) : Type 0 where
  pub moved : Moved carry held piece at carry' count
  pub alone : 0 < held + count → found (take (held + count) carry') ≡ found (pending carry held piece at)

-- the whole rest of the piece went there
pub record Kept (carry : List ℕ) (held : ℕ) (piece : List ℕ) (at : ℕ) (carry' : List ℕ) (count : ℕ) : Type 0 where
  pub moved : Moved carry held piece at carry' count
  pub all : at + count ≡ length piece

-- what comes next is in sight: the bytes that are there are the same, and where the carry holds anything then, it alone says what comes next
pub record Comes (carry : List ℕ) (held : ℕ) (piece : List ℕ) (at : ℕ) (carry' : List ℕ) (r : Next) : Type 0 where
  pub same : pending carry' r.held piece r.at ≡ pending carry held piece at
  pub fits : r.held ≤ length carry
  pub there : r.at ≤ length piece
  pub sized : length carry' ≡ length carry
  pub seen : r.sight ≡ sight_of carry' r.held piece r.at
  pub alone : 0 < r.held → found (take r.held carry') ≡ found (pending carry' r.held piece r.at)
