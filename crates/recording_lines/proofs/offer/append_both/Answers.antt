-- `recording_lines::append_both` meets its contract: the second piece is laid behind the first.
use mathlib.Core.Path.{◌∙◌}
use native.Mathlib.Nat.{zero-add}
use native.Mathlib.Omega.{arith}
use Rattle.recording_lines.proofs.Laid.{laid_both}
use Rattle.recording_lines.proofs.offer.append_both.Goals as goal

pub returns : goal.returns
returns c =
    let a = c.args in
    let first = c.append-after_word in
    let both = laid_both a.line.now first.new.line c.append.new.line 0 first.result c.append.result a.word.now a.text.now
    (omega (arith, c.requires)) first.ensures.value first.ensures.line_after c.append.ensures.value c.append.ensures.line_after in
    record { value = both.0 ∙ zero-add _; line_after = both.1 }
