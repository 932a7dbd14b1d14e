-- Demand 3, said of the exported functions: `CodeNoninterference`, over traces of their calls. Its theorem is in proofs/Theorem.antt, and cites that of
-- crate noninterference, where the words of "What demand 3 speaks of" are defined.
use Rattle.std.specs.Prelude.{ℕ, ◌≡◌, true, false, cond, List, [], ◌∷◌, ◌++◌, map, get_or, take, eqb}
use Rattle.rules.specs.Table.{any_of, all_of}
use Rattle.rules.specs.Board.{Board, row_of}
use Rattle.rules.specs.Verdict.{accepted}
use Rattle.rules.specs.Description.{description_in, described}
use Rattle.rules.specs.Substructure.{named_in}
use Rattle.rules.specs.AccessList.{parts, has_entry, verdict_of}
use Rattle.rules.specs.Outcome.{outcome_number}
use Rattle.rules.specs.State.{Setup, State, fresh, entry_of, record_of}
use Rattle.rules.specs.Call.{list, after_offer, Answer, Lent, query_of}
use Rattle.rules.specs.Sequence.{run, free_or_permitted}
use Rattle.noninterference.specs.Statement.{clusters_whole, clusters_listed, insider, about_chosen, picked, picks, answers}
use Rattle.record.specs.Memory.{Memories, record_at}
use Rattle.pomrozek.specs.Exported.{report_words}
use Rattle.traces.specs.Trace.{Step, board_step, list_step, block_step, message_step, Trace, end_of, calls_of, Loaded}

-- the start by the rules: the state that the list leaves on a board, alone or in a block; and what it sets, who is permitted for which processor
abbrev pub start : Board → List ℕ → State
start b bytes = after_offer (fresh b) (list bytes)

abbrev pub setup_of : Board → List ℕ → Setup
setup_of b bytes = (start b bytes).setup

-- what a message call gives: the outcome's number, the words of the report, and the bytes that it wrote
pub record Given : Type 0 where
  pub outcome : ℕ
  pub report : List ℕ
  pub bytes : List ℕ

-- the rules' answer in these numbers
abbrev pub in_numbers : Answer → Given
in_numbers a = record { outcome = outcome_number a.report.outcome; report = report_words a.report; bytes = a.bytes }

-- how many bytes a report says were written: its third word
abbrev pub written_in : List ℕ → ℕ
written_in report = get_or report 2 0

-- what the picked steps gave, in order
unfoldable pub given : Setup → List ℕ → List Step → List Given
given setup chosen [] = []
given setup chosen (board_step bytes before after verdict ∷ steps) = given setup chosen steps
given setup chosen (list_step bytes before after verdict ∷ steps) = given setup chosen steps
given setup chosen (block_step major minor bytes before after verdict loop ∷ steps) = given setup chosen steps
given setup chosen (message_step lent before after outcome report held ∷ steps) =
    cond (picked setup chosen (query_of lent))
    (record { outcome = outcome; report = report; bytes = take (written_in report) held } ∷ given setup chosen steps)
    (given setup chosen steps)

-- demand 3, for a board in force, an accepted list and the chosen processors, over all traces that go on from memories in which it has just been
-- accepted, alone or in a block; boards, lists and blocks that are offered from then on are among their steps
pub record CodeNoninterference (b : Board) (bytes chosen : List ℕ) : Type 0 where
  -- in each trace the answers are what the rules give, run from the start over its calls alone
  pub answers-by-rules :
      {m : Memories} → Loaded b bytes m → {steps : List Step} → Trace m steps
      → given (setup_of b bytes) chosen steps ≡ map in_numbers (answers (setup_of b bytes) chosen (start b bytes) (calls_of steps))
  -- and so are the record words of each processor, chosen or not
  pub records-by-rules :
      {m : Memories} → Loaded b bytes m → {steps : List Step} → Trace m steps
      → (p : ℕ) → record_at b (end_of m steps).records (row_of b p) ≡ record_of (run (start b bytes) (calls_of steps)) p
  -- each chosen processor has an entry, so that a host permitted for it is one that its entry names
  pub has_entry_lem :
      {m : Memories} → Loaded b bytes m → (p : ℕ) → any_of (eqb p) chosen ≡ true → has_entry (entry_of (setup_of b bytes) p) ≡ true
  -- traces that agree in their picks give the picked messages the same numbers, report words and written bytes
  pub same-answers :
      {m n : Memories} → Loaded b bytes m → Loaded b bytes n
      → {these those : List Step} → Trace m these → Trace n those
      → picks (setup_of b bytes) chosen (calls_of these) ≡ picks (setup_of b bytes) chosen (calls_of those)
      → given (setup_of b bytes) chosen these ≡ given (setup_of b bytes) chosen those
  -- and leave the chosen processors the same record words, a cluster's control word and the tallies among them
  pub same-records :
      {m n : Memories} → Loaded b bytes m → Loaded b bytes n
      → {these those : List Step} → Trace m these → Trace n those
      → picks (setup_of b bytes) chosen (calls_of these) ≡ picks (setup_of b bytes) chosen (calls_of those)
      → (p : ℕ) → any_of (eqb p) chosen ≡ true
      → record_at b (end_of m these).records (row_of b p) ≡ record_at b (end_of n those).records (row_of b p)
  -- after every trace, and so after each step, each chosen processor is free or held by a permitted host
  pub always-permitted :
      {m : Memories} → Loaded b bytes m → {steps : List Step} → Trace m steps
      → (p : ℕ) → any_of (eqb p) chosen ≡ true
      → free_or_permitted (setup_of b bytes) p (record_at b (end_of m steps).records (row_of b p)) ≡ true
  -- no outsider's message about a chosen processor gives 0, which is OK
  pub outsider-refused :
      {m : Memories} → Loaded b bytes m → (steps : List Step) (lent : Lent) (before after : Memories) (outcome : ℕ) (report held : List ℕ)
      → Trace m (steps ++ (message_step lent before after outcome report held ∷ []))
      → about_chosen chosen (query_of lent) ≡ true
      → insider (setup_of b bytes) chosen lent.channel ≡ false
      → eqb outcome 0 ≡ false

-- for every board that can be in force, every list, and any processors that used entries of it name and that hold a cluster whole or not at all
abbrev pub OfTheCode : Type 0
OfTheCode =
    (b : Board) (bytes chosen : List ℕ)
    → all_of (named_in (parts bytes)) chosen ≡ true
    → clusters_whole b chosen ≡ true
    → CodeNoninterference b bytes chosen

-- the same in the words of a description: any processors that used entries of a list name which its board accepts, and that hold each of its ARMv8
-- clusters whole or not at all
abbrev pub OnEveryDescription : Type 0
OnEveryDescription =
    (description bytes chosen : List ℕ)
    → accepted (verdict_of (described description) false bytes) ≡ true
    → all_of (named_in (parts bytes)) chosen ≡ true
    → clusters_listed (description_in description) chosen ≡ true
    → CodeNoninterference (described description) bytes chosen
