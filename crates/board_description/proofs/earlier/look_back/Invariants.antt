use mathlib.Core.Path.{◌≡◌}
use Prim.Native.Nat.{◌≤◌}
use lib.ListN.{length}
use Rattle.rules.specs.Description.{nothing_listed, items_in, with_items}
use Rattle.board_description.specs.EarlierItems.{before_in}
use Rattle.board_description.proofs.Listed.{Walked}
use Rattle.board_description.proofs.earlier.look_back.Given as goal

abbrev pub invariant-loop-earlier : goal.invariant-loop-earlier
invariant-loop-earlier l =
    Walked l.description l.count l.yielded (items_in l.earlier-iterator.iter.0.now) l.earlier-iterator.n
    × (l.before.same ≤ length l.yielded)
    × (l.before ≡ before_in (with_items nothing_listed l.yielded) l.item)
