-- The access memory, 129 words of 16 bits, read as the rules have it. Word 0 is not 0 once a list was accepted, alone or in a block. Then each of 32
-- rows has four words: the recovery master and the three secondaries; zeros are no entry. Any content is a state.
use Rattle.std.specs.Prelude.{ℕ, ◌+◌, ◌*◌, Bool, not, cond, List, [], get_or, eqb}
use Rattle.rules.specs.declared.Record.{Record}
use Rattle.rules.specs.Table.{table_of}
use Rattle.rules.specs.Board.{Board, rows}
use Rattle.rules.specs.AccessList.{Entry}
use Rattle.rules.specs.Outcome.{View}
use Rattle.rules.specs.State.{Source, nothing, a_list, listed, Setup}

unfoldable pub listed_in : List ℕ → Bool
listed_in m = not (eqb (get_or m 0 0) 0)

-- the place of a row's first word
abbrev pub entry_place : ℕ → ℕ
entry_place row = 1 + 4 * row

abbrev pub access_size : ℕ
access_size = 129

unfoldable pub entry_at : List ℕ → ℕ → Entry
entry_at m row =
    record {
      master = get_or m (entry_place row) 0;
      first = get_or m (entry_place row + 1) 0;
      second = get_or m (entry_place row + 2) 0;
      third = get_or m (entry_place row + 3) 0;
    }

unfoldable pub entries_in : List ℕ → List Entry
entries_in m = table_of (entry_at m) 0 rows

-- that a list was accepted, alone or in a block, without the bytes: the memory does not keep them, and no outcome, answer or record depends on
-- them
unfoldable pub some_list : Bool → Source
some_list taken = cond taken (a_list []) nothing

-- the rules' set-up on a board, read out of the memory
unfoldable pub setup_in : Board → List ℕ → Setup
setup_in b m = record { board = b; source = some_list (listed_in m); entries = entries_in m }

-- what the memory keeps of a set-up
unfoldable pub kept_setup : Setup → Setup
kept_setup setup = record { board = setup.board; source = some_list (listed setup.source); entries = setup.entries }

-- what a call about the processor at a row sees, with its record at hand
abbrev pub view_with : Board → List ℕ → ℕ → Record → View
view_with b m row state = record { board = b; listed = listed_in m; entry = entry_at m row; state = state }
