-- `recording_lines::append_number` meets its contract: one digit, or as many as there are.
use native.Mathlib.Omega.{arith}
use Rattle.recording_lines.proofs.Digits.{laid-digit}
use Rattle.recording_lines.proofs.message.append_number.Goals as goal

pub returns-then-number-lt10-clause-value : goal.returns-then-number-lt10-clause-value
returns-then-number-lt10-clause-value c = (laid-digit c.args.line.now c.args.at c.args.number (omega arith) (omega arith)).0

pub returns-then-number-lt10-clause-line_after : goal.returns-then-number-lt10-clause-line_after
returns-then-number-lt10-clause-line_after c = (laid-digit c.args.line.now c.args.at c.args.number (omega arith) (omega arith)).1
