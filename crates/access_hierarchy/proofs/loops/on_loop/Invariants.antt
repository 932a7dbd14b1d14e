use Prim.Native.Nat.{◌-◌}
use mathlib.Core.Path.{◌≡◌}
use Rattle.rules.specs.Substructure.{entry_count}
use Rattle.rules.specs.Hierarchy.{meets}
use Rattle.access_hierarchy.specs.Supervisors.{read_from}
use Rattle.access_hierarchy.proofs.loops.on_loop.Given as goal

abbrev pub invariant-loop : goal.invariant-loop
invariant-loop l =
    meets (read_from l.above) l.host entry_count (read_from l.above l.host) ≡ meets (read_from l.above) l.host (entry_count - l.counter) l.x
