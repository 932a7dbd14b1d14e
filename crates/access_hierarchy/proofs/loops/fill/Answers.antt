-- `access_hierarchy::fill` meets its contract. The loop's invariant: the table has the supervisors of the entries from e on.
use Prim.Native.Nat.{ℕ, ◌-◌}
use mathlib.Core.Path.{◌≡◌, ap, ◌∙◌}
use mathlib.Core.List.{List}
use lib.ListN.{set}
use native.Mathlib.Omega.{arith}
use Rattle.rules.specs.Substructure.{parts_of}
use Rattle.access_hierarchy.specs.Supervisors.{supervisors_in}
use Rattle.access_hierarchy.proofs.Tables.{none_filled, fill_unused, fill_used}
use Rattle.access_hierarchy.proofs.loops.fill.Goals as goal

pub loop-e-init : goal.loop-e-init
unfolding parts_of
loop-e-init c = c.requires ∙ none_filled

pub loop-e-preserved-then-host-ne0 : goal.loop-e-preserved-then-host-ne0
loop-e-preserved-then-host-ne0 c =
    ap (λ (table : List ℕ). set table c.byte_at-host.result c.byte_at.result) c.loop-e.invariant
    ∙ fill_used c.args.bytes.now (c.loop-e.e - 1) c.loop-e.e (omega arith) (omega arith) c.byte_at-host.ensures c.if-host-ne0.true c.byte_at.ensures

pub loop-e-preserved : goal.loop-e-preserved
loop-e-preserved c =
    c.loop-e.invariant ∙ fill_unused c.args.bytes.now (c.loop-e.e - 1) c.loop-e.e (omega arith) (omega arith) c.byte_at-host.ensures c.if-host-ne0.false

pub returns : goal.returns
unfolding supervisors_in
returns c =
    let none : c.loop-e.e ≡ 0 = omega arith in c.loop-e.invariant ∙ rw none
