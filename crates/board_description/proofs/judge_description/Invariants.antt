use mathlib.Core.List.{map}
use Rattle.rules.specs.Description.{items_in}
use Rattle.board_description.proofs.Verdicts.{Reached}
use Rattle.board_description.proofs.judge_description.Given as goal

abbrev pub invariant-loop-count : goal.invariant-loop-count
invariant-loop-count l =
    Reached l.description (map (λ p. p.1) l.yielded) (items_in l.count-iterator.iter.0.now) l.count-iterator.count
