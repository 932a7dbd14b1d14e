-- `access_list::named_before` meets its contract: what `any` says of the entries before, one by one, is what the rules say of them.
use mathlib.Core.Path.{refl}
use native.Mathlib.Omega.{arith}
use borrow.Author.Tests.{tests}
use Rattle.std.proofs.Common.{rules}
use Rattle.std.proofs.lemmas.Iterator.{cases_from_any, YieldsList-from_range}
use Rattle.access_list.proofs.Substructure.{Numbered, number_told}
use Rattle.access_list.proofs.entry.named_before.Goals as goal

pub returns : goal.returns
returns c =
    let own = Numbered c.args.width c.args.bytes.now c.args.number in
    number_told _ _ _ c.args.e _
    (cases_from_any _ _ _ own (λ i. own i → ⊥) c.any.ensures.ran (YieldsList-from_range 0 _ _ refl (omega arith))
    (λ x q k. search (rules, tests)) (λ x q k. search (rules, tests)))
