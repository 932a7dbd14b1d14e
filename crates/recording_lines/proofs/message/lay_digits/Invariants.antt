use mathlib.Core.Path.{◌≡◌}
use Rattle.rules.specs.Text.{decimal_of}
use Rattle.recording_texts.specs.Texts.{laid}
use Rattle.recording_lines.proofs.Digits.{last_digits}
use Rattle.recording_lines.proofs.message.lay_digits.Given as goal

abbrev pub invariant-loop-i : goal.invariant-loop-i
invariant-loop-i l = laid l.line l.at (last_digits l.i l.rest) ≡ laid l.initial.line l.at (decimal_of l.number)
