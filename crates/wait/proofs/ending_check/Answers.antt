-- `wait::ending_check` meets its contract. The loop's invariant: the run is that of the words passed, and the search from here on
-- comes to what it comes to from the start.
use mathlib.Core.Path.{refl, sym, ap, ◌∙◌}
use native.Mathlib.Nat.{sub-zero}
use native.Mathlib.Numerals.{add-one}
use native.Mathlib.Omega.{arith}
use Rattle.rules.specs.Wait.{run_after, first_end, ending_check}
use Rattle.rules.proofs.Waits.{run-within}
use Rattle.wait.proofs.Runs.{run_step, none_left, run-ended, run-goes_on}
use Rattle.wait.proofs.ending_check.Goals as goal

pub loop-checks-init : goal.loop-checks-init
unfolding run_after ending_check
loop-checks-init c =
    let a = c.args in
    (omega arith, refl, ap (first_end a.w a.status.now 0) (sub-zero _))

pub returns-then-status-checks : goal.returns-then-status-checks
returns-then-status-checks c =
    let a = c.args in
    sym (none_left a.w a.status.now _ _ (omega arith)) ∙ c.loop-checks.invariant.2

pub run_after-run-requires : goal.run_after-run-requires
run_after-run-requires c =
    let a = c.args in
    let l = c.loop-checks in
    let within = run-within a.w a.status.now l.checks in
    omega arith

pub returns-then-matches-run : goal.returns-then-matches-run
returns-then-matches-run c =
    let turn = c in
    let a = turn.args in
    let l = turn.loop-checks in
    let run = run_step a.w a.status.now l.checks l.run _ _ c.word_matches.ensures l.invariant.1 c.run_after-run.ensures in
    add-one l.checks ∙ sym (run-ended a.w a.status.now l.checks _ _ (omega arith) run c.if-matches-run.true) ∙ l.invariant.2

pub loop-checks-preserved : goal.loop-checks-preserved
loop-checks-preserved c =
    let turn = c in
    let a = turn.args in
    let l = turn.loop-checks in
    let run = run_step a.w a.status.now l.checks l.run _ _ c.word_matches.ensures l.invariant.1 c.run_after-run.ensures in
    let more = add-one l.checks in (
      omega arith,
      rw more run,
      rw more (sym (run-goes_on a.w a.status.now l.checks _ _ (omega arith) run c.if-matches-run.false) ∙ l.invariant.2),
    )

pub returns : goal.returns
returns c =
    let a = c.args in
    sym (none_left a.w a.status.now _ _ (omega arith)) ∙ c.loop-checks.invariant.2
