-- `message_answer::write_answer` meets its contract: an ACK, nothing or a NAK.
use mathlib.Core.Path.{refl, sym, ◌∙◌}
use Rattle.rules.specs.Outcome.{carried_out}
use Rattle.message_answer.proofs.Answers.{puts_none, puts_same, bytes-silent, bytes-nak}
use Rattle.message_answer.proofs.write_answer.Goals as goal

pub returns-then-is_silent : goal.returns-then-is_silent
unfolding carried_out
returns-then-is_silent c = rw c.in-Err.is (puts_none _ _ (bytes-silent _ _ _ refl (sym c.is_silent.ensures ∙ c.if-is_silent.true)))

pub returns : goal.returns
unfolding carried_out
returns c = rw c.in-Err.is (puts_same (bytes-nak _ _ _ refl (sym c.is_silent.ensures ∙ c.if-is_silent.false)) c.write_nak.ensures)
