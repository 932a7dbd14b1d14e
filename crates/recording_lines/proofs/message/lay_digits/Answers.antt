-- `recording_lines::lay_digits` meets its contract. The loop's invariant: the digits that are left, laid over the line, make it the one that is
-- promised.
use mathlib.Core.Path.{◌≡◌, ◌∙◌}
use native.Mathlib.Omega.{arith}
use Rattle.recording_lines.proofs.Digits.{last_digits, last-all, laid-lower}
use Rattle.recording_texts.proofs.Printing.{laid_none}
use Rattle.recording_lines.proofs.message.lay_digits.Goals as goal

pub loop-i-init : goal.loop-i-init
loop-i-init c = rw (c.requires.count_value, last-all 10 c.args.number)

pub loop-i-preserved : goal.loop-i-preserved
loop-i-preserved c =
    let l = c.loop-i in
    laid-lower l.line c.args.at l.i l.rest c.loop-i-test.true (omega arith) ∙ l.invariant

pub returns : goal.returns
unfolding last_digits
returns c =
    let l = c.loop-i in
    let none : l.i ≡ 0 = omega arith in
    laid_none l.line c.args.at ∙ rw none at l.invariant
