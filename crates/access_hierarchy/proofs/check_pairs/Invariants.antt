use mathlib.Core.Path.{◌≡◌}
use mathlib.Core.List.{[]}
use Rattle.rules.specs.Verdict.{Accepted}
use Rattle.rules.specs.Table.{first_of}
use Rattle.rules.specs.Substructure.{in_turn}
use Rattle.rules.specs.Hierarchy.{pairs, pair_table}
use Rattle.board.specs.Memory.{board_in}
use Rattle.access_hierarchy.proofs.Faults.{left-from}
use Rattle.access_hierarchy.proofs.check_pairs.Given as goal

abbrev pub invariant-loop-e : goal.invariant-loop-e
invariant-loop-e l = first_of Accepted (in_turn (pair_table (board_in l.board)) [] (pairs l.bytes)) ≡ left-from (board_in l.board) l.bytes l.e
