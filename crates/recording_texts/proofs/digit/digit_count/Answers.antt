-- `recording_texts::digit_count` meets its contract: the logarithm says between which powers of ten the number lies.
use native.Mathlib.Nat.{pow-suc}
use native.Mathlib.Omega.{arith}
use Rattle.rules.specs.Text.{decimal_in}
use Rattle.recording_texts.proofs.Digits.{counted}
use Rattle.recording_texts.proofs.digit.digit_count.Goals as goal

pub returns-then-number-eq0-clause-value : goal.returns-then-number-eq0-clause-value
unfolding decimal_in
returns-then-number-eq0-clause-value c = rw c.if-number-eq0.true

pub returns-clause-value : goal.returns-clause-value
returns-clause-value c =
    let more = pow-suc 10 c.ilog10.result in
    let count = counted c.ilog10.result c.args.number (omega arith) (omega arith) (omega arith) in
    omega (arith, count.0)
