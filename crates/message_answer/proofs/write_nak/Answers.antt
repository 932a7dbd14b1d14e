-- `message_answer::write_nak` meets its contract.
use mathlib.Core.Path.{sym, ◌∙◌}
use borrow.Author.Tests.{not-true, not-false}
use Rattle.rules.proofs.Tests.{cond-true, cond-false}
use Rattle.message_answer.proofs.Answers.{puts_none, puts_given}
use Rattle.std.proofs.lemmas.Bool.{not_from_true, not_from_false}
use Rattle.message_answer.proofs.write_nak.Goals as goal

pub returns-then-not-answer_asked : goal.returns-then-not-answer_asked
returns-then-not-answer_asked c = puts_none _ _ (cond-false _ _ (sym c.answer_asked.ensures ∙ not-true _ (not_from_false _ c.if-not-answer_asked.true)))

pub returns : goal.returns
returns c =
    let built = c in
    let flag = built in
    let a = flag.args in
    let asked = sym flag.answer_asked.ensures ∙ not-false _ (not_from_true _ flag.if-not-answer_asked.false) in
    puts_given a.answer.now _ _ _ _ (built.header-bytes.ensures ∙ sym (cond-true _ _ asked)) (c.put.ensures.value, c.put.ensures.buffer_after)
