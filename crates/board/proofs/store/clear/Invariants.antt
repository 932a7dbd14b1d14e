use mathlib.Core.Path.{◌≡◌}
use mathlib.Core.List.{◌++◌}
use lib.ListN.{length, take, drop}
use Rattle.board.specs.Memory.{board_size}
use Rattle.board.proofs.EmptyBoard.{clear_bytes}
use Rattle.board.proofs.store.clear.Given as goal

abbrev pub invariant-loop-i : goal.invariant-loop-i
invariant-loop-i l = (length l.board ≡ board_size) × (l.board ≡ take l.i clear_bytes ++ drop l.i l.initial.board)
