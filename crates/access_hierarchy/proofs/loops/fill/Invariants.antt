use Prim.Native.Nat.{◌-◌}
use mathlib.Core.Path.{◌≡◌}
use Rattle.rules.specs.Table.{table_of}
use Rattle.rules.specs.Substructure.{entry_count, parts_from}
use Rattle.rules.specs.Hierarchy.{pair_size, supervisor_of}
use Rattle.access_hierarchy.specs.Supervisors.{host_count}
use Rattle.access_hierarchy.proofs.loops.fill.Given as goal

abbrev pub invariant-loop-e : goal.invariant-loop-e
invariant-loop-e l = l.above ≡ table_of (supervisor_of (parts_from pair_size l.bytes l.e (entry_count - l.e))) 0 host_count
