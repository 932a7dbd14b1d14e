-- The claim of document 02's L12, said of the feeding function and of the announced end: over traces of their calls, where every call meets its contract and
-- nobody else writes to the memories and to the carry, what is printed is the transcript. Its theorem is in proofs/Theorem.antt.
use Rattle.std.specs.Prelude.{ℕ, ◌≡◌, true, false, List, [], ◌∷◌, ◌++◌, take}
use Rattle.rules.specs.Recording.{transcript}
use Rattle.recording_stream.specs.Stream.{joined_pieces}
use Rattle.recording_step.specs.SessionMemory.{SessionMemories, session_in}
use Rattle.recording_feed.specs.declared.Fed.{Fed}
use Rattle.recording_feed.specs.declared.Ended.{Ended}
use Rattle.recording_feed.specs.Pending.{pending}
use Rattle.recording_feed.specs.Feed.{FeedCall, EndCall}

-- calls from these memories on, with this carry, from a place of this piece, and the pieces still to come; and all that is printed: of each call the bytes
-- of the output that it used. While a record waits for room, the rest of the piece is fed again; then comes the next piece; then the end is announced.
-- After a bad record nothing more is printed
pub data FedTrace : SessionMemories → List ℕ → ℕ → List ℕ → ℕ → List (List ℕ) → List ℕ → Type 0 where
  again : {m m' : SessionMemories} {carry piece out carry' out' later : List ℕ} {held at : ℕ} {pieces : List (List ℕ)} {r : Fed}
      → FeedCall m carry held false piece at out m' carry' out' r
      → r.full ≡ true
      → FedTrace m' carry' r.held piece r.at pieces later
      → FedTrace m carry held piece at pieces (take r.used out' ++ later)
  next : {m m' : SessionMemories} {carry piece after out carry' out' later : List ℕ} {held at : ℕ} {pieces : List (List ℕ)} {r : Fed}
      → FeedCall m carry held false piece at out m' carry' out' r
      → r.full ≡ false
      → r.over ≡ false
      → FedTrace m' carry' r.held after 0 pieces later
      → FedTrace m carry held piece at (after ∷ pieces) (take r.used out' ++ later)
  over : {m m' : SessionMemories} {carry piece out carry' out' : List ℕ} {held at : ℕ} {pieces : List (List ℕ)} {r : Fed}
      → FeedCall m carry held false piece at out m' carry' out' r
      → r.over ≡ true
      → FedTrace m carry held piece at pieces (take r.used out')
  end : {m m' : SessionMemories} {carry piece out carry' out' last last' : List ℕ} {held at : ℕ} {r : Fed} {e : Ended}
      → FeedCall m carry held false piece at out m' carry' out' r
      → r.full ≡ false
      → r.over ≡ false
      → EndCall carry' r.held false last last' e
      → e.full ≡ false
      → FedTrace m carry held piece at [] (take r.used out' ++ take e.used last')

-- whatever such calls print is the transcript, by the rules, of the bytes that are there and of the pieces to come
abbrev pub TranscriptOfTheCode : Type 0
TranscriptOfTheCode =
    (m : SessionMemories) (carry : List ℕ) (held : ℕ) (piece : List ℕ) (at : ℕ) (pieces : List (List ℕ)) (printed : List ℕ)
    → FedTrace m carry held piece at pieces printed
    → printed ≡ transcript (session_in m) (pending carry held piece at ++ joined_pieces pieces)
