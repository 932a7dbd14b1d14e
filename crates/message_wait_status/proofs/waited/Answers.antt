-- `message_wait_status::waited` meets its contract: a wait makes no more checks than it asks for, so their number is a byte.
use mathlib.Core.Path.{sym, ◌∙◌}
use native.Mathlib.Omega.{arith}
use borrow.Author.Tests.{eq-eqb, ne_eqb}
use Rattle.rules.specs.Wait.{ran_out, checks_of, micros_of}
use Rattle.wait.proofs.Runs.{ending_within}
use Rattle.message_wait_status.proofs.waited.Goals as goal

pub returns-then-ended-eq0 : goal.returns-then-ended-eq0
unfolding ran_out checks_of micros_of
returns-then-ended-eq0 c =
    let out = eq-eqb _ 0 (sym c.ending_check-ended.ensures ∙ c.if-ended-eq0.true) in
    rw (out, c.micros.ensures)

pub overflow_cast-result-2 : goal.overflow_cast-result-2
overflow_cast-result-2 c =
    let within = ending_within c.args.w c.args.status.now in
    omega (arith, c.ending_check-ended.ensures)

pub overflow_cast-ended : goal.overflow_cast-ended
overflow_cast-ended c =
    let within = ending_within c.args.w c.args.status.now in
    omega (arith, c.ending_check-ended.ensures)

pub returns : goal.returns
unfolding ran_out checks_of micros_of
returns c =
    let ended = c.ending_check-ended.ensures in
    let out = ne_eqb _ 0 c.if-ended-eq0.false in
    rw (c.micros-2.ensures, ended) (rw (rw ended at out))
