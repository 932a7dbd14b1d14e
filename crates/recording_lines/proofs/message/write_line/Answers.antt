-- `recording_lines::write_line` meets its contract: five pieces, each laid behind the last, and short enough for the line.
use Prim.Native.Nat.{ℕ}
use mathlib.Core.Path.{◌≡◌, refl, ap, ◌∙◌}
use mathlib.Core.Bool.{Bool, true, false}
use mathlib.Core.List.{[], ◌∷◌, ◌++◌}
use native.Mathlib.Nat.{zero-add}
use native.Mathlib.Omega.{arith}
use lib.ListN.{length, length-append}
use lib.Dec.{eqb, ltb}
use Rattle.rules.specs.Outcome.{outcome_number}
use Rattle.rules.specs.Text.{decimal_of, outcome_name, answer_text}
use Rattle.recording_lines.proofs.Digits.{number_short}
use Rattle.recording_lines.proofs.Laid.{laid_both, answer_short}
use Rattle.recording_lines.proofs.message.write_line.Goals as goal

name-three : (n : ℕ) → length (outcome_name n ++ (32 ∷ [])) ≡ 3
name-three n = go (eqb n 0) (ltb n 100) refl refl
  where
    go : (x y : Bool) → eqb n 0 ≡ x → ltb n 100 ≡ y → length (outcome_name n ++ (32 ∷ [])) ≡ 3
    go true y p q = rw p
    go false true p q = rw (p, q)
    go false false p q = rw (p, q)

pub append_number-after_micros-requires : goal.append_number-after_micros-requires
append_number-after_micros-requires c =
    let at-append = c in
    let at-outcome-name = at-append in
    let start = at-outcome-name in
    omega (
      arith,
      c.append_number-after_checks.ensures.value,
      c.append_number-after_checks.auto.line,
      number_short start.args.checks,
      at-append.append-after_name.ensures.value,
      at-append.append-after_name.auto.line,
      ap length at-outcome-name.outcome_name-name.ensures,
      name-three (outcome_number start.args.outcome),
    )

pub append_answer-after_answer-requires : goal.append_answer-after_answer-requires
append_answer-after_answer-requires c =
    let at-append-number = c in
    let at-append = at-append-number in
    let at-outcome-name = at-append in
    let start = at-outcome-name in
    omega (
      arith,
      c.append_number-after_micros.ensures.value,
      c.append_number-after_micros.auto.line,
      number_short start.args.micros,
      at-append-number.append_number-after_checks.ensures.value,
      at-append-number.append_number-after_checks.auto.line,
      number_short start.args.checks,
      at-append.append-after_name.ensures.value,
      at-append.append-after_name.auto.line,
      ap length at-outcome-name.outcome_name-name.ensures,
      name-three (outcome_number start.args.outcome),
    )

pub append-requires : goal.append-requires
append-requires c =
    let at-append-answer = c in
    let at-append-number2 = at-append-answer in
    let at-append-number = at-append-number2 in
    let at-append = at-append-number in
    let at-outcome-name = at-append in
    let start = at-outcome-name in
    omega (
      arith,
      at-append-answer.append_answer-after_answer.ensures.value,
      at-append-answer.append_answer-after_answer.auto.line,
      answer_short start.args.bytes.now start.requires.bytes_len_bound,
      at-append-number2.append_number-after_micros.ensures.value,
      at-append-number2.append_number-after_micros.auto.line,
      number_short start.args.micros,
      at-append-number.append_number-after_checks.ensures.value,
      at-append-number.append_number-after_checks.auto.line,
      number_short start.args.checks,
      at-append.append-after_name.ensures.value,
      at-append.append-after_name.auto.line,
      ap length at-outcome-name.outcome_name-name.ensures,
      name-three (outcome_number start.args.outcome),
    )

pub returns : goal.returns
returns c =
    let at-append-answer = c in
    let at-append-number2 = at-append-answer in
    let at-append-number = at-append-number2 in
    let at-append = at-append-number in
    let at-outcome-name = at-append in
    let start = at-outcome-name in
    let a = start.args in
    let held = a.line.now in
    let size = start.requires.line_size_in_bounds in
    let name = outcome_name (outcome_number a.outcome) ++ (32 ∷ []) in
    let checks = decimal_of a.checks ++ (32 ∷ []) in
    let micros = decimal_of a.micros ++ (32 ∷ []) in
    let answer = answer_text a.bytes.now in
    let l1 = name-three (outcome_number a.outcome) in
    let l2 = number_short a.checks in
    let l3 = number_short a.micros in
    let l4 = answer_short a.bytes.now start.requires.bytes_len_bound in
    let s2 = length-append name checks in
    let s3 = length-append (name ++ checks) micros in
    let s4 = length-append (name ++ checks ++ micros) answer in
    let told = at-outcome-name.outcome_name-name.ensures in
    let p2 = laid_both held _ _ 0 _ _ name checks (omega arith) (rw told at at-append.append-after_name.ensures.value) (rw told at at-append.append-after_name.ensures.line_after) at-append-number.append_number-after_checks.ensures.value at-append-number.append_number-after_checks.ensures.line_after in
    let p3 = laid_both held _ _ 0 _ _ (name ++ checks) micros (omega arith) p2.0 p2.1 at-append-number2.append_number-after_micros.ensures.value at-append-number2.append_number-after_micros.ensures.line_after in
    let p4 = laid_both held _ _ 0 _ _ (name ++ checks ++ micros) answer (omega arith) p3.0 p3.1 at-append-answer.append_answer-after_answer.ensures.value at-append-answer.append_answer-after_answer.ensures.line_after in
    let p5 = laid_both held _ _ 0 _ _ (name ++ checks ++ micros ++ answer) (10 ∷ []) (omega arith) p4.0 p4.1 c.append.ensures.value c.append.ensures.line_after in
    let s5 = length-append (name ++ checks ++ micros ++ answer) (10 ∷ []) in
    let end = p5.0 in
    record { value = p5.0 ∙ zero-add _; upper_bound = omega arith; line_after = p5.1 }
