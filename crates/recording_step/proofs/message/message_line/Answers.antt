-- `recording_step::message_line` meets its contract: the message call with a buffer of zeros, and its line.
use mathlib.Core.Path.{◌≡◌, sym}
use native.Mathlib.Omega.{arith}
use Rattle.std.proofs.lemmas.Grind.{common_steps}
use lib.ListN.{drop}
use lib.Seq.{length-take-le}
use Rattle.record.specs.Memory.{memories}
use Rattle.recording_step.proofs.Calls.{written_few, message_played}
use Rattle.recording_step.proofs.message.message_line.Goals as goal

pub slice_bounds-answer-end : goal.slice_bounds-answer-end
slice_bounds-answer-end c =
    let few = written_few c.message-told.ensures in
    omega (arith, c.message-told.auto.answer)

pub slice_bounds-print_message-end : goal.slice_bounds-print_message-end
slice_bounds-print_message-end c =
    let told = c.message-told in
    let few = written_few told.ensures in
    sym (length-take-le told.result.written _ (omega (arith, told.auto.answer)))

pub returns : goal.returns
returns c =
    let a = c.args in
    let told = c.message-told in
    let sent : c.unwrap_or-sent.result.now ≡ drop 1 a.body.now = grind (arith, common_steps) in
    let call = rw (c.byte_at-channel.ensures, sent) at told.ensures in
    message_played (memories a.board.now a.access.now a.records.now) a.line.now _ _ c.requires a.body.now a.status.now _ _ told.result call
    c.print_message.ensures
