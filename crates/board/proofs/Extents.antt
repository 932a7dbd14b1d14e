-- How long the tables of a board are, and so where each begins among its bytes.
use Prim.Native.Nat.{ℕ}
use mathlib.Core.Path.{◌≡◌, ◌∙◌}
use mathlib.Core.List.{List, ◌++◌}
use native.Mathlib.Omega.{arith}
use lib.ListN.{length, length-append}
use Rattle.rules.specs.Board.{Board, rows}
use Rattle.rules.specs.Description.{Description, mark_in, row_in, class_in, home_in, board_of}
use Rattle.rules.proofs.Tables.{table_length}
use Rattle.board.specs.Memory.{places_place, classes_place, homes_place}

-- the first two tables, and the first three
pub size_two : (a b : List ℕ) → length a ≡ places_place → length b ≡ 256 → length (a ++ b) ≡ classes_place
size_two a b size-a size-b = length-append a b ∙ (omega arith)

pub size_three : (a b c : List ℕ) → length a ≡ places_place → length b ≡ 256 → length c ≡ rows → length (a ++ b ++ c) ≡ homes_place
size_three a b c size-a size-b size-c = length-append (a ++ b) c ∙ omega (arith, size_two a b size-a size-b)

pub record Sized (b : Board) : Type 0 where
  pub hosts : length b.hosts ≡ places_place
  pub places : length b.places ≡ 256
  pub classes : length b.classes ≡ rows
  pub homes : length b.homes ≡ rows

pub board_sized : (d : Description) → Sized (board_of d)
unfolding board_of
board_sized d =
    record {
      hosts = table_length (mark_in d) 256 0;
      places = table_length (row_in d) 256 0;
      classes = table_length (class_in d) rows 0;
      homes = table_length (home_in d) rows 0;
    }
