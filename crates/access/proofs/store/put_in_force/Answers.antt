-- `access::put_in_force` meets its contract. The loop's invariant: the memory is 1 and the words of the first e parts' entries.
use mathlib.Core.Path.{◌≡◌, ◌∙◌}
use native.Mathlib.Omega.{arith}
use Rattle.rules.specs.Substructure.{entry_count}
use Rattle.access.proofs.InForce.{none_stored, put_next, entries-all}
use Rattle.access.proofs.store.put_in_force.Goals as goal

pub loop-e-init : goal.loop-e-init
loop-e-init c = none_stored _ _

pub loop-e-preserved : goal.loop-e-preserved
loop-e-preserved c =
    let turn = c in
    c.store_entry.ensures ∙ rw turn.loop-e.invariant (put_next _ _ turn.loop-e.e)

pub returns : goal.returns
returns c =
    let all : c.loop-e.e ≡ entry_count = omega arith in
    c.loop-e.invariant ∙ rw all (entries-all _ _)
