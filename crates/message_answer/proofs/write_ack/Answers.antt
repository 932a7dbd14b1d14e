-- `message_answer::write_ack` meets its contract: nothing where none is asked for, the ACK to get status, or the header.
use mathlib.Core.Path.{sym, ◌∙◌}
use borrow.Author.Tests.{not-true, not-false}
use Rattle.rules.specs.Message.{subject_of}
use Rattle.message_answer.proofs.Answers.{puts_none, puts_given, bytes-unasked, bytes-status, bytes-ack, not_status}
use Rattle.std.proofs.lemmas.Bool.{not_from_true, not_from_false}
use Rattle.message_answer.proofs.write_ack.Goals as goal

pub returns-then-not-answer_asked : goal.returns-then-not-answer_asked
returns-then-not-answer_asked c = puts_none _ _ (bytes-unasked _ _ _ (sym c.answer_asked.ensures ∙ not-true _ (not_from_false _ c.if-not-answer_asked.true)))

pub returns-in-GetStatus : goal.returns-in-GetStatus
unfolding subject_of
returns-in-GetStatus c =
    let built = c in
    let told = built in
    let flag = told in
    let a = flag.args in
    let asked = sym flag.answer_asked.ensures ∙ not-false _ (not_from_true _ flag.if-not-answer_asked.false) in
    let is = sym told.kind_in-kind.ensures ∙ told.in-GetStatus.is in
    puts_given a.answer.now _ _ _ _
    ((rw (
      built.item_or.ensures,
      built.record_at-state.ensures,
      built.row_in.ensures,
    ) at built.status_answer-bytes.ensures)
    ∙ sym (bytes-status _ _ asked is))
    (c.put.ensures.value, c.put.ensures.buffer_after)

pub returns : goal.returns
returns c =
    let built = c in
    let kind = built in
    let flag = kind in
    let a = flag.args in
    let asked = sym flag.answer_asked.ensures ∙ not-false _ (not_from_true _ flag.if-not-answer_asked.false) in
    let other = not_status kind.kind_in-kind.result c.in_default.not-GetStatus in
    puts_given a.answer.now _ _ _ _
    (built.header-bytes.ensures ∙ sym (bytes-ack _ _ asked (rw kind.kind_in-kind.ensures at other)))
    (c.put-2.ensures.value, c.put-2.ensures.buffer_after)
