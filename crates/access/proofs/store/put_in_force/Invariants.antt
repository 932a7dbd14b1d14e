use mathlib.Core.Path.{◌≡◌}
use mathlib.Core.List.{◌∷◌}
use Rattle.board.specs.Memory.{board_in}
use Rattle.access.specs.InForce.{entry_words}
use Rattle.access.proofs.InForce.{entries_before}
use Rattle.access.proofs.store.put_in_force.Given as goal

abbrev pub invariant-loop-e : goal.invariant-loop-e
invariant-loop-e l = l.access ≡ 1 ∷ entry_words (entries_before (board_in l.board) l.list l.e)
