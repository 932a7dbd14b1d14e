-- The feeding function and the announced end as a C program sees them: what a call told, which meets the promise of the inner call, and its numbers in
-- the words.
use Rattle.std.specs.Prelude.{ℕ, min, ◌≡◌, Bool, not, cond, List, [], ◌∷◌, get_or, set, eqb}
use Rattle.rules.specs.Recording.{word_limit}
use Rattle.recording_feed.specs.declared.Fed.{Fed}
use Rattle.recording_feed.specs.declared.Ended.{Ended}
use Rattle.recording_feed.specs.Feed.{FeedCall, EndCall}
use Rattle.recording_step.specs.SessionMemory.{SessionMemories, session_memories}

-- a stream has three words: the bytes that the carry holds, the status words that stand, and whether the recording is over. Any content is a stream
abbrev pub stream_size : ℕ
stream_size = 3

abbrev pub held_in : List ℕ → ℕ
held_in stream = get_or stream 0 0

-- no more words stand than there are
abbrev pub standing_in : List ℕ → ℕ
standing_in stream = min (get_or stream 1 0) word_limit

abbrev pub over_in : List ℕ → Bool
over_in stream = not (eqb (get_or stream 2 0) 0)

abbrev pub over_word : Bool → ℕ
over_word over = cond over 1 0

-- 0 where the piece is used up, 1 where a record waits for room, 2 where the recording is over
abbrev pub fed_number : Bool → Bool → ℕ
fed_number over full = cond over 2 (cond full 1 0)

-- what a call is lent
pub record Lent : Type 0 where
  pub board : List ℕ
  pub access : List ℕ
  pub records : List ℕ
  pub words : List ℕ
  pub carry : List ℕ
  pub stream : List ℕ

abbrev pub lending : List ℕ → List ℕ → List ℕ → List ℕ → List ℕ → List ℕ → Lent
lending board access records words carry stream =
    record { board = board; access = access; records = records; words = words; carry = carry; stream = stream }

-- the session's memories, with this number of words that stand
abbrev pub memories_with : Lent → ℕ → SessionMemories
memories_with l stand = session_memories l.board l.access l.records l.words stand

pub record ExportedFeed (l : Lent) (piece out : List ℕ) (l' : Lent) (out' progress' : List ℕ) (r : ℕ) : Type 0 where
  pub told : Fed
  pub standing : ℕ
  pub meets :
      FeedCall (memories_with l (standing_in l.stream)) l.carry (held_in l.stream) (over_in l.stream) piece 0 out
      (memories_with l' standing) l'.carry out' told
  pub stream : l'.stream ≡ told.held ∷ standing ∷ over_word told.over ∷ []
  pub progress : progress' ≡ told.at ∷ told.used ∷ []
  pub number : r ≡ fed_number told.over told.full

-- what the carry and the standing words are stays
pub record ExportedEnd (carry stream out stream' out' progress' : List ℕ) (r : ℕ) : Type 0 where
  pub told : Ended
  pub meets : EndCall carry (held_in stream) (over_in stream) out out' told
  pub left : stream' ≡ set stream 2 (over_word told.over)
  pub progress : progress' ≡ 0 ∷ told.used ∷ []
  pub number : r ≡ fed_number told.over told.full
