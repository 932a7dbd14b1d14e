-- `recording_lines::append` meets its contract. The loop's invariant: the first i bytes are laid.
use Prim.Native.Nat.{ℕ, ◌+◌}
use mathlib.Core.Path.{sym, ap, ◌∙◌}
use mathlib.Core.List.{List}
use native.Mathlib.Numerals.{add-one}
use native.Mathlib.Omega.{arith}
use lib.ListN.{get_or, set, take}
use Rattle.recording_texts.specs.Texts.{laid}
use Rattle.recording_lines.proofs.Laid.{laid_next}
use Rattle.recording_lines.proofs.message.append.Goals as goal

pub loop-i-preserved : goal.loop-i-preserved
loop-i-preserved c =
    let a = c.args in
    let l = c.loop-i in
    let s = a.bytes.now in
    let d = a.line.now in
    ap (λ (x : List ℕ). set x (a.at + l.i) (get_or s l.i 0)) l.invariant
    ∙ laid_next d s a.at l.i (omega arith) (omega arith)
    ∙ ap (λ (n : ℕ). laid d a.at (take n s)) (sym (add-one l.i))
