-- The memory of a board with nothing listed, byte by byte.
use Rattle.std.specs.Prelude.{ℕ, ◌-◌, cond, ltb}
use Rattle.rules.specs.Board.{rows}
use Rattle.board.specs.Memory.{places_place, classes_place, homes_place}

-- the byte at place i where nothing is listed
unfoldable pub clear_byte : ℕ → ℕ
clear_byte i =
    cond (ltb i places_place) 0 (cond (ltb i classes_place) rows (cond (ltb i homes_place) 0 (i - homes_place)))
