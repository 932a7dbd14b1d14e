-- Document 02, L10, said of the exported functions: what stands in the record memory after any trace of the calls. Its theorems are in proofs/Warranty.antt, and
-- cite those of crate rules, where the count is defined.
use Rattle.std.specs.Prelude.{ℕ, ◌+◌, ◌≤◌, min, ◌≡◌, true, List, [], get_or}
use Rattle.rules.specs.declared.Record.{Record}
use Rattle.rules.specs.Board.{Board, row_of}
use Rattle.rules.specs.Description.{Good}
use Rattle.rules.specs.Tally.{Tally, tally_of, cap}
use Rattle.rules.specs.State.{fresh}
use Rattle.rules.specs.Call.{list, after_offer}
use Rattle.rules.specs.Warranty.{count_of, DifferenceTold}
use Rattle.board.specs.Memory.{board_in}
use Rattle.access.specs.Memory.{listed_in}
use Rattle.record.specs.Memory.{Memories, record_at, state_of}
use Rattle.traces.specs.Trace.{Step, Trace, end_of, calls_of, Loaded}

-- what steps from memories m leave in the record memory of processor p
abbrev pub left_in : Board → Memories → List Step → ℕ → Record
left_in b m steps p = record_at b (end_of m steps).records (row_of b p)

-- for a board in force and an accepted list, over all traces that go on from memories in which it has just been accepted, alone or in a block
pub record CodeWarranted (b : Board) (bytes : List ℕ) : Type 0 where
  -- each tally word of each processor is the count of the messages since then that count for it, up to the cap
  pub counted :
      {m : Memories} → Loaded b bytes m → {steps : List Step} → Trace m steps
      → (t : Tally) (p : ℕ) → tally_of t (left_in b m steps p) ≡ min cap (count_of t p (after_offer (fresh b) (list bytes)) (calls_of steps))
  -- and while neither grants nor releases has reached the cap, their difference tells whether the processor is held
  pub difference :
      {m : Memories} → Loaded b bytes m → {steps : List Step} → Trace m steps → (p : ℕ) → DifferenceTold (left_in b m steps p)

-- for every board that can be in force, and every list
abbrev pub WarrantyOfTheCode : Type 0
WarrantyOfTheCode = (b : Board) (bytes : List ℕ) → CodeWarranted b bytes

-- where a count may start in the memories: something was accepted, the board is good, and the record memory holds 32-bit words, any at all
pub record CountableIn (m : Memories) : Type 0 where
  pub in_force_lem : listed_in m.access ≡ true
  pub board_good : Good (board_in m.board)
  pub words_fit : (place : ℕ) → get_or m.records place 0 ≤ cap

-- the same from such memories: each tally word is the smaller of the cap and where it stood plus the count, and the difference tells whether the
-- processor is held if it did at the start
pub record WarrantedFrom (b : Board) (m : Memories) (steps : List Step) (p : ℕ) : Type 0 where
  pub counted :
      (t : Tally) → tally_of t (left_in b m steps p)
      ≡ min cap (tally_of t (left_in b m [] p) + count_of t p (state_of m) (calls_of steps))
  pub difference : DifferenceTold (left_in b m [] p) → DifferenceTold (left_in b m steps p)

abbrev pub FromAnyMemories : Type 0
FromAnyMemories =
    (m : Memories) (steps : List Step) → CountableIn m → Trace m steps → (p : ℕ) → WarrantedFrom (board_in m.board) m steps p
