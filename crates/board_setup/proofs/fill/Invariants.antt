use mathlib.Core.List.{map}
use Rattle.rules.specs.Description.{items_in}
use Rattle.board_setup.proofs.Fills.{Filled}
use Rattle.board_setup.proofs.fill.Given as goal

abbrev pub invariant-loop-count : goal.invariant-loop-count
invariant-loop-count l =
    Filled l.description l.board (map (λ p. p.1) l.yielded) (items_in l.count-iterator.iter.0.now) l.count-iterator.count l.row
