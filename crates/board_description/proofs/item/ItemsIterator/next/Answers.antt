-- `board_description::Items` gives the items that its bytes hold, one with each call.
use Rattle.std.proofs.Common.{rules, arith, ap, ◌≡◌, List, ◌∷◌, length, drop}
use Rattle.std.proofs.lemmas.Grind.{common_steps}
use Rattle.rules.specs.declared.Item.{Item}
use Rattle.rules.specs.Description.{field_size, items_in}
use Rattle.board_description.proofs.Listed.{items_first, items_none}
use Rattle.board_description.proofs.item.ItemsIterator.next.Goals as goal

pub returns-then-is_empty-clause-steps : goal.returns-then-is_empty-clause-steps
returns-then-is_empty-clause-steps c =
    let none = items_none c.args.self.now.0.now (search rules) in (none, none)

pub returns : goal.returns
returns c =
    let bytes = c.args.self.now.0.now in
    let left : c.unwrap_or-self.result.now ≡ drop (field_size c.item_in-item.result) bytes = grind (arith, common_steps) in
    let first : items_in bytes ≡ c.item_in-item.result ∷ items_in c.unwrap_or-self.result.now =
    rw (left, c.item_in-item.ensures) (items_first bytes (grind (arith, common_steps)))
    in
    let fewer = ap (λ (l : List Item). length l) first in
    record { steps = first; goes = record { on = λ _. (tt, tt, omega (arith, fewer)); keeps = tt; rests = λ _. tt } }
