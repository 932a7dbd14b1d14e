use mathlib.Core.Path.{◌≡◌}
use mathlib.Core.Bool.{false}
use lib.ListN.{length}
use Rattle.rules.specs.Table.{any_of}
use Rattle.rules.specs.Description.{nothing_listed, items_in, with_items}
use Rattle.board_description.proofs.Listed.{Walked}
use Rattle.board_setup.proofs.Rows.{has_word}
use Rattle.board_setup.proofs.home_of.Given as goal

abbrev pub invariant-loop-passed : goal.invariant-loop-passed
invariant-loop-passed l =
    Walked l.description l.count l.yielded (items_in l.passed-iterator.iter.0.now) l.passed-iterator.n
    × (l.earlier ≡ length (with_items nothing_listed l.yielded).processors)
    × (any_of (has_word l.cluster) (with_items nothing_listed l.yielded).processors ≡ false)
