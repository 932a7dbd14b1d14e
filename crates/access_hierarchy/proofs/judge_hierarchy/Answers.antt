-- `access_hierarchy::judge_hierarchy` meets its contract: each return is a line of the table, after those above it.
use mathlib.Core.Path.{◌≡◌, sym, ap, ◌∙◌}
use Rattle.std.proofs.Common.{rules}
use Rattle.board.specs.Memory.{board_in}
use Rattle.access_hierarchy.proofs.Faults.{of_loop, whole, pairs-bad, loop-decides}
use Rattle.access_hierarchy.proofs.judge_hierarchy.Goals as goal
use Rattle.access_hierarchy.proofs.judge_hierarchy.Goals.{After-loop_host}

pub returns-in_err-check_pairs : goal.returns-in_err-check_pairs
returns-in_err-check_pairs c =
    let told = pairs-bad _ c.args.bytes.now c.u16_at.ensures c.if-u16_at-ne-HIERARCHY_MAGIC.false c.u16_at-2.ensures c.if-u16_at.false c.check_pairs.ensures
    c.in_err-check_pairs.was in
    search rules

-- once a loop is looked for
loop_tells : (c : After-loop_host) → whole (board_in c.args.board.now) c.args.bytes.now ≡ of_loop c.loop_host.result
loop_tells c =
    loop-decides (board_in c.args.board.now) c.args.bytes.now c.u16_at.ensures c.if-u16_at-ne-HIERARCHY_MAGIC.false c.u16_at-2.ensures
    c.if-u16_at.false c.check_pairs.ensures c.in_ok-check_pairs.was c.loop_host.ensures

pub returns-in-Some : goal.returns-in-Some
returns-in-Some c = sym (loop_tells (goal.at.returns-in-Some c).After-loop_host ∙ ap of_loop c.in-Some.is)

pub returns-in-None : goal.returns-in-None
returns-in-None c = sym (loop_tells (goal.at.returns-in-None c).After-loop_host ∙ ap of_loop c.in-None.is)
