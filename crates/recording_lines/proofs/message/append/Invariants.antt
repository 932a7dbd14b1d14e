use mathlib.Core.Path.{◌≡◌}
use lib.ListN.{take}
use Rattle.recording_texts.specs.Texts.{laid}
use Rattle.recording_lines.proofs.message.append.Given as goal

abbrev pub invariant-loop-i : goal.invariant-loop-i
invariant-loop-i l = l.line ≡ laid l.initial.line l.at (take l.i l.bytes)
