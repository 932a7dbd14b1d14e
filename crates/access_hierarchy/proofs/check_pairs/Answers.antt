-- `access_hierarchy::check_pairs` meets its contract. The loop's invariant: the entries passed have no fault, so those from e on decide.
use mathlib.Core.Path.{◌≡◌, refl, sym, ◌∙◌}
use native.Mathlib.Omega.{arith}
use Rattle.std.proofs.Common.{rules}
use Rattle.rules.specs.Substructure.{entry_count}
use Rattle.rules.specs.Hierarchy.{pair_size, pair_table}
use Rattle.access_list.specs.Entries.{parts_before}
use Rattle.access_list.proofs.Substructure.{verdict_from, from_last}
use Rattle.access_hierarchy.proofs.Faults.{turn-bad, turn-good}
use Rattle.access_hierarchy.proofs.check_pairs.Goals as goal

pub loop-e-init : goal.loop-e-init
unfolding parts_before verdict_from
loop-e-init c = refl

pub returns-in_err-check_pair : goal.returns-in_err-check_pair
returns-in_err-check_pair c =
    let told = turn-bad _ _ c.loop-e.e (omega arith) c.check_pair.ensures c.in_err-check_pair.was in search rules

pub loop-e-preserved : goal.loop-e-preserved
loop-e-preserved c = c.loop-e.invariant ∙ turn-good _ _ c.loop-e.e (omega arith) c.check_pair.ensures c.in_ok-check_pair.was

pub returns : goal.returns
returns c =
    let all : c.loop-e.e ≡ entry_count = omega arith in
    sym (c.loop-e.invariant ∙ from_last (pair_table _) pair_size _ c.loop-e.e all)
