-- `recording_feed::seen` meets its contract: each arm is a line of `sight_in`, and a whole record ends within the bytes.
use mathlib.Core.Path.{sym, ◌∙◌}
use native.Mathlib.Omega.{arith}
use Rattle.recording_fields.proofs.Finds.{whole-ends}
use Rattle.recording_feed.proofs.cursor.seen.Goals as goal

pub overflow_add-start : goal.overflow_add-start
overflow_add-start c =
    let a = c.args in
    let ends = whole-ends a.bytes.now a.at _ _ (sym c.in-Whole.is ∙ c.find.ensures) in
    omega (arith, ends)

pub overflow_add-result : goal.overflow_add-result
overflow_add-result c =
    let a = c.args in
    let ends = whole-ends a.bytes.now a.at _ _ (sym c.in-Whole.is ∙ c.find.ensures) in
    omega (arith, ends)
