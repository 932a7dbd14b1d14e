-- `recording_lines::append_hex` meets its contract. The loop's invariant: the digits of the first i bytes are laid.
use Prim.Native.Nat.{ℕ, ◌+◌}
use mathlib.Core.Path.{◌≡◌, sym, ap, ◌∙◌}
use native.Mathlib.Numerals.{add-one}
use native.Mathlib.Omega.{arith}
use lib.ListN.{length, get_or}
use lib.Seq.{take-length}
use Rattle.rules.specs.Text.{hex_of}
use Rattle.recording_texts.proofs.Printing.{laid_none}
use Rattle.recording_lines.proofs.Laid.{high_digit, laid-hex, length-hex}
use Rattle.recording_lines.proofs.message.append_hex.Goals as goal

pub loop-i-init : goal.loop-i-init
unfolding hex_of
loop-i-init c = laid_none c.args.line.now c.args.at

pub loop-i-preserved : goal.loop-i-preserved
loop-i-preserved c =
    let a = c.args in
    let l = c.loop-i in
    let s = a.bytes.now in
    rw (c.hex_digit.ensures ∙ high_digit (get_or s l.i 0) (omega (arith, c.type_inv.bytes l.i)), c.hex_digit-in-loop-i.ensures, l.invariant)
    (laid-hex a.line.now s a.at l.i (omega arith) (omega arith) ∙ rw add-one)

pub returns : goal.returns
returns c =
    let a = c.args in
    let l = c.loop-i in
    let s = a.bytes.now in
    let all : l.i ≡ length s = omega arith in
    record { value = ap (λ (n : ℕ). a.at + n) (sym (length-hex s)); line_after = rw (l.invariant, all, take-length s) }
