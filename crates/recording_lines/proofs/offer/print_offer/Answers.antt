-- `recording_lines::print_offer` meets its contract: the word, and the verdict's text behind it, or nothing.
use mathlib.Core.Path.{refl}
use borrow.Author.Rules.{rules}
use Rattle.rules.specs.Recording.{offer_line}
use Rattle.recording_lines.proofs.Offers.{offer_laid}
use Rattle.recording_lines.proofs.offer.print_offer.Goals as goal

pub returns-in-3 : goal.returns-in-3
unfolding offer_line
returns-in-3 c =
    let a = c.args in
    let text = c.verdict_text-text in
    let put = c.append_both in
    offer_laid a.line.now a.word.now _ text.result.bytes put.new.line text.result.count 3 put.result c.if-line-lt-LINE_BYTES.false
    c.requires (search rules) text.ensures.bytes_value text.ensures.count_value c.in-3.is put.ensures.value put.ensures.line_after

pub returns-in-4 : goal.returns-in-4
unfolding offer_line
returns-in-4 c =
    let a = c.args in
    let text = c.verdict_text-text in
    let put = c.append_both-in-4 in
    offer_laid a.line.now a.word.now _ text.result.bytes put.new.line text.result.count 4 put.result c.if-line-lt-LINE_BYTES.false
    c.requires (search rules) text.ensures.bytes_value text.ensures.count_value c.in-4.is put.ensures.value put.ensures.line_after

pub returns-in_default : goal.returns-in_default
unfolding offer_line
returns-in_default c =
    let a = c.args in
    let text = c.verdict_text-text in
    let put = c.append_both-in_default in
    offer_laid a.line.now a.word.now _ text.result.bytes put.new.line text.result.count _ put.result c.if-line-lt-LINE_BYTES.false
    c.requires (search rules) text.ensures.bytes_value text.ensures.count_value refl put.ensures.value put.ensures.line_after
