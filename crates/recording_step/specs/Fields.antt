-- What carrying out a field leaves: the line that it prints, laid over the start of what is lent, and the session. Where there is no room for a line,
-- nothing is carried out.
use Rattle.std.specs.Prelude.{ℕ, ◌≡◌, cond, List}
use Rattle.rules.specs.Call.{Call, next}
use Rattle.rules.specs.Recording.{Field, carry_out, line_of}
use Rattle.record.specs.Memory.{Memories, state_of, kept}
use Rattle.recording_texts.specs.Texts.{has_room, printed, Printed}
use Rattle.recording_step.specs.SessionMemory.{SessionMemories, session_in, kept_session}

-- a call carried out over lent memories, and its line: the memories hold what is kept of the rules' next state
pub record CallPlayed (m : Memories) (c : Call) (line : List ℕ) (m' : Memories) (line' : List ℕ) (n : ℕ) : Type 0 where
  pub prints : Printed line (line_of (state_of m) c) line' n
  pub state : state_of m' ≡ kept (next (state_of m) c)

-- a field carried out
pub record FieldPlayed (m : SessionMemories) (f : Field) (line : List ℕ) (m' : SessionMemories) (line' : List ℕ) (n : ℕ) : Type 0 where
  pub prints : Printed line (printed (has_room line) (carry_out (session_in m) f).line) line' n
  pub session : session_in m' ≡ cond (has_room line) (kept_session (carry_out (session_in m) f).session) (session_in m)
