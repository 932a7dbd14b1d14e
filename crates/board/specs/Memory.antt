-- The board memory: the tables of rules/specs/Board.antt one behind the other, read and written as they stand there. Any content is a
-- board.
use Rattle.std.specs.Prelude.{ℕ, ◌+◌, cond, List, ◌++◌, get_or, set, ltb}
use Rattle.rules.specs.Table.{table_of}
use Rattle.rules.specs.Board.{Board, rows}

-- how many bytes it has
abbrev pub board_size : ℕ
board_size = 576

-- where the tables begin; the hosts' is the first
abbrev pub places_place : ℕ
places_place = 256

abbrev pub classes_place : ℕ
classes_place = 512

abbrev pub homes_place : ℕ
homes_place = 544

-- the rules' board, read out of the memory
unfoldable pub board_in : List ℕ → Board
board_in m =
    record {
      hosts = table_of (λ (h : ℕ). get_or m h 0) 0 256;
      places = table_of (λ (p : ℕ). get_or m (places_place + p) 0) 0 256;
      classes = table_of (λ (row : ℕ). get_or m (classes_place + row) 0) 0 rows;
      homes = table_of (λ (row : ℕ). get_or m (homes_place + row) 0) 0 rows;
    }

-- the bytes that a board has in the memory
unfoldable pub board_bytes : Board → List ℕ
board_bytes b = b.hosts ++ b.places ++ b.classes ++ b.homes

-- the memory with the mark of host h
abbrev pub with_host_mark : List ℕ → ℕ → ℕ → List ℕ
with_host_mark m h mark = set m h mark

-- the memory with processor p at a row, and the row's class and home; a row that is not there is left alone
unfoldable pub with_processor_at : List ℕ → ℕ → ℕ → ℕ → ℕ → List ℕ
with_processor_at m p row class home =
    cond (ltb row rows) (set (set (set m (places_place + p) row) (classes_place + row) class) (homes_place + row) home) m
