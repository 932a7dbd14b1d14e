-- `recording_lines::print_message` meets its contract: the line, or nothing.
use mathlib.Core.Path.{ap₂}
use mathlib.Core.Bool.{◌&&◌}
use lib.ListN.{length}
use borrow.Author.Tests.{le-leb}
use Rattle.rules.specs.Recording.{message_line}
use Rattle.recording_texts.proofs.Printing.{all_printed}
use Rattle.recording_texts.specs.Texts.{line_size}
use Rattle.rules.specs.Message.{largest_answer}
use Rattle.recording_lines.proofs.message.print_message.Goals as goal

pub returns : goal.returns
unfolding message_line
returns c =
    let a = c.args in
    let wrote = c.write_line.ensures in
    let all = ap₂ ◌&&◌ (le-leb line_size (length a.line.now) c.if-line-lt-LINE_BYTES.false) (le-leb (length a.bytes.now) largest_answer c.if-bytes-gt-ANSWER_BYTES.false) in
    all_printed a.line.now _ _ _ _ all wrote.value wrote.line_after wrote.upper_bound
