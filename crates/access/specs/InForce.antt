-- The access memory with a list in force, and how one entry is put into it.
use Rattle.std.specs.Prelude.{ℕ, cond, ◌&&◌, List, [], ◌∷◌}
use Rattle.std.proofs.lemmas.List.Edits.{sets}
use Rattle.rules.specs.Board.{Board, row_of, on_board}
use Rattle.rules.specs.Substructure.{used}
use Rattle.rules.specs.AccessList.{Entry, processor_in, master_in, secondaries_in, entries_of}
use Rattle.access.specs.Memory.{entry_place}

-- each entry's master followed by its secondaries
unfoldable pub entry_words : List Entry → List ℕ
entry_words [] = []
entry_words (e ∷ es) = e.master ∷ e.first ∷ e.second ∷ e.third ∷ entry_words es

-- the memory that a list in force leaves: 1 and the entries' words, by row
abbrev pub in_force : Board → List ℕ → List ℕ
in_force b list = 1 ∷ entry_words (entries_of b list)

-- the memory once a used entry's words are put at its row
unfoldable pub put_entry : Board → List ℕ → List ℕ → List ℕ
put_entry b part m =
    cond (used part && on_board b (processor_in part))
    (sets m (entry_place (row_of b (processor_in part))) (master_in part ∷ secondaries_in part))
    m
