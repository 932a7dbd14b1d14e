use Prim.Native.Nat.{◌≤◌, ◌-◌, min}
use mathlib.Core.Path.{◌≡◌}
use lib.ListN.{length}
use Rattle.rules.specs.Wait.{run_after, first_end, ending_check}
use Rattle.wait.proofs.ending_check.Given as goal

abbrev pub invariant-loop-checks : goal.invariant-loop-checks
invariant-loop-checks l =
    (l.checks ≤ min l.w.waits (length l.status))
    × (l.run ≡ run_after l.w l.status l.checks)
    × (first_end l.w l.status l.checks (min l.w.waits (length l.status) - l.checks) ≡ ending_check l.w l.status)

abbrev pub decreases-loop-checks : goal.decreases-loop-checks
decreases-loop-checks l = l.w.waits - l.checks
