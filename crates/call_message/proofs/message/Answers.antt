-- `call_message::message` meets its contract: its steps, over the whole memories lent, are those of the message call.
use mathlib.Core.Path.{◌≡◌, sym, ap, ◌∙◌}
use lib.ListN.{length}
use Rattle.access.specs.Memory.{access_size}
use Rattle.record.specs.Memory.{record_size}
use Rattle.call_message.proofs.EachCall.{memory_length, message_call_lem}
use borrow.Author.Rules.{rules}
use Rattle.call_message.proofs.message.Goals as goal

pub returns : goal.returns
returns c =
    let d = c in
    let a = d.args in
    let la : length a.access.now ≡ access_size = search rules in
    let left : length d.decide-decision.new.records ≡ record_size = search rules in
    let lm : length a.records.now ≡ record_size = sym (memory_length _ _ _ a.records.now _) ∙ sym (ap length d.decide-decision.ensures.records) ∙ left in
    message_call_lem a.board.now a.access.now a.records.now a.channel a.message.now a.status.now a.answer.now la lm
    d.decide-decision.result c.write_answer-written.result _ _
    d.decide-decision.ensures
    c.write_answer-written.ensures
