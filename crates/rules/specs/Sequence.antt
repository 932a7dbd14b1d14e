-- Sequences of calls ("What demand 3 speaks of"): the state that they leave, and what holds of every such state.
use Rattle.std.specs.Prelude.{ℕ, ◌≤◌, ◌≡◌, Bool, true, false, ◌||◌, List, [], ◌∷◌, length, get_or, eqb}
use Rattle.rules.specs.declared.Record.{Record}
use Rattle.rules.specs.Bytes.{byte_at}
use Rattle.rules.specs.Verdict.{accepted}
use Rattle.rules.specs.Board.{Board, rows, row_of, on_board, home_of}
use Rattle.rules.specs.Description.{Good}
use Rattle.rules.specs.AccessList.{entries_of, verdict_of}
use Rattle.rules.specs.Block.{block_verdict}
use Rattle.rules.specs.Role.{permitted}
use Rattle.rules.specs.Outcome.{is_free}
use Rattle.rules.specs.Tally.{Tally, tally_of, cap, difference_good}
use Rattle.rules.specs.State.{Source, nothing, a_list, a_block, listed, list_in, Setup, State, free_own, fresh, entry_of, record_of}
use Rattle.rules.specs.Call.{Call, next}

-- the state after a sequence
unfoldable pub run : State → List Call → State
run s [] = s
run s (c ∷ cs) = run (next s c) cs

-- host h is permitted for processor p
unfoldable pub permitted_for : Setup → ℕ → ℕ → Bool
permitted_for setup p h = permitted setup.board (entry_of setup p) h

-- processor p, with this record, is free or held by a host that is permitted for it
unfoldable pub free_or_permitted : Setup → ℕ → Record → Bool
free_or_permitted setup p r = is_free r || permitted_for setup p r.controller

-- what was accepted is accepted by its own bytes: a list, or a block with the ABI bytes that it has
unfoldable pub source_good : Board → Source → Bool
source_good b nothing = true
source_good b (a_list bytes) = accepted (verdict_of b false bytes)
source_good b (a_block bytes) = accepted (block_verdict b false (byte_at bytes 0) (byte_at bytes 1) bytes)

-- the invariant of every state that calls left, whatever the calls
pub record Sound (s : State) : Type 0 where
  -- the board is good: rows apart, sharers of one class, homes rows
  pub board_good : Good s.setup.board
  -- there is a place for each row's record, and one for each control word
  pub rows-there : length s.records.own ≡ rows
  pub homes_there : length s.records.controls ≡ rows
  -- a row that is no processor's is free and zero, and a control word that is none's is 0
  pub spare-free :
      (row : ℕ) → ((p : ℕ) → on_board s.setup.board p ≡ true → eqb (row_of s.setup.board p) row ≡ false) → get_or s.records.own row free_own ≡ free_own
  pub spare-zero :
      (row : ℕ) → ((p : ℕ) → on_board s.setup.board p ≡ true → eqb (home_of s.setup.board p) row ≡ false) → get_or s.records.controls row 0 ≡ 0
  -- with nothing accepted the state is fresh
  pub none_fresh : listed s.setup.source ≡ false → s ≡ fresh s.setup.board
  -- what was accepted is good
  pub source_good_lem : source_good s.setup.board s.setup.source ≡ true
  -- and the entries are those of its list
  pub entries-its :
      listed s.setup.source ≡ true → s.setup.entries ≡ entries_of s.setup.board (list_in s.setup.source)
  -- each processor is free or held by a permitted host
  pub holder_permitted : (p : ℕ) → free_or_permitted s.setup p (record_of s p) ≡ true
  -- document 02, L10: no tally is above the cap, and below it grants and releases tell whether the processor is held
  pub tallies-capped : (t : Tally) (p : ℕ) → tally_of t (record_of s p) ≤ cap
  pub tallies-differ : (p : ℕ) → difference_good (record_of s p) ≡ true
