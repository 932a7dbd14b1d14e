-- `message_fields::answer_asked` meets its contract.
use Rattle.rules.specs.Message.{answer_asked}
use Rattle.message_fields.proofs.answer_asked.Goals as goal

pub returns : goal.returns
unfolding answer_asked
returns c = rw c.u32_at.ensures
