-- What a session lends: the three memories, the status words, and how many of these stand; and the rules' session that they hold, whatever the
-- content. Words behind the standing ones play no part.
use Rattle.std.specs.Prelude.{ℕ, ◌≡◌, List, take}
use Rattle.rules.specs.Recording.{Session}
use Rattle.record.specs.Memory.{memories, state_of, kept}
use Rattle.recording_step.specs.declared.SessionMemory.{SessionMemory}

pub record SessionMemories : Type 0 where
  pub board : List ℕ
  pub access : List ℕ
  pub records : List ℕ
  pub words : List ℕ
  pub stand : ℕ

abbrev pub session_memories : List ℕ → List ℕ → List ℕ → List ℕ → ℕ → SessionMemories
session_memories board access records words stand =
    record { board = board; access = access; records = records; words = words; stand = stand }

-- what is behind the references of a session
abbrev pub memories_in : SessionMemory → SessionMemories
memories_in s = session_memories s.board.now s.access.now s.records.now s.words.now s.standing

-- the references are the same, so that the caller's memories hold what they hold
abbrev pub SameMemory : SessionMemory → SessionMemory → Type 0
SameMemory s s' =
    (s'.board.ghost_name ≡ s.board.ghost_name) × (s'.access.ghost_name ≡ s.access.ghost_name)
    × (s'.records.ghost_name ≡ s.records.ghost_name) × (s'.words.ghost_name ≡ s.words.ghost_name)

abbrev pub session_in : SessionMemories → Session
session_in m = record { state = state_of (memories m.board m.access m.records); words = take m.stand m.words }

-- what the memories keep of a session: all but the bytes of the accepted list
abbrev pub kept_session : Session → Session
kept_session s = record { state = kept s.state; words = s.words }
