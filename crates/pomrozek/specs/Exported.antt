-- The calls as a C program sees them: what a call told, which meets the promise of the inner call, and its numbers in the words.
use Rattle.std.specs.Prelude.{ℕ, ◌≡◌, List, [], ◌∷◌}
use Rattle.rules.specs.declared.Report.{Report}
use Rattle.rules.specs.Verdict.{Verdict, reported_host, verdict_number}
use Rattle.rules.specs.Role.{role_number}
use Rattle.rules.specs.Outcome.{outcome_number}
use Rattle.rules.specs.Call.{Lent}
use Rattle.record.specs.Memory.{Memories}
use Rattle.call_offer.specs.Calls.{BlockCall, BoardCall, ListCall}
use Rattle.call_message.specs.Calls.{MessageCall}

-- a verdict told as its number
abbrev pub TellsVerdict : ℕ → Verdict → Type 0
TellsVerdict r told = r ≡ verdict_number told

pub record ExportedBoard (board access bytes board' : List ℕ) (r : ℕ) : Type 0 where
  pub told : Verdict
  pub meets : BoardCall board access bytes board' told
  pub number : TellsVerdict r told

pub record ExportedList (board access bytes access' : List ℕ) (r : ℕ) : Type 0 where
  pub told : Verdict
  pub meets : ListCall board access bytes access' told
  pub number : TellsVerdict r told

-- the loop word is the host of B8, and 0 with any other verdict
pub record ExportedBlock (board access : List ℕ) (major minor : ℕ) (bytes access' loop' : List ℕ) (r : ℕ) : Type 0 where
  pub told : Verdict
  pub meets : BlockCall board access major minor bytes access' told
  pub number : TellsVerdict r told
  pub host : loop' ≡ reported_host told ∷ []

-- checks, microseconds, bytes written and the role's number, in this order
abbrev pub report_words : Report → List ℕ
report_words r = r.checks ∷ r.micros ∷ r.written ∷ role_number r.role ∷ []

pub record ExportedMessage (m : Memories) (lent : Lent) (records' held' report' : List ℕ) (r : ℕ) : Type 0 where
  pub told : Report
  pub meets : MessageCall m lent records' held' told
  pub number : r ≡ outcome_number told.outcome
  pub words : report' ≡ report_words told
