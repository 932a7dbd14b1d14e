-- `recording_lines::append_answer` meets its contract: `-` where nothing was written.
use borrow.Author.Tests.{eq-eqb, ne_eqb}
use Rattle.rules.specs.Text.{answer_text}
use Rattle.recording_lines.proofs.message.append_answer.Goals as goal

pub returns-then-bytes-eq0 : goal.returns-then-bytes-eq0
unfolding answer_text
returns-then-bytes-eq0 c =
    let none = eq-eqb _ 0 c.if-bytes-eq0.true in
    record { value = rw none c.append.ensures.value; line_after = rw none c.append.ensures.line_after }

pub returns : goal.returns
unfolding answer_text
returns c =
    let some = ne_eqb _ 0 c.if-bytes-eq0.false in
    record { value = rw some c.append_hex.ensures.value; line_after = rw some c.append_hex.ensures.line_after }
