-- `recording_texts::verdict_text` meets its contract: by the verdict's fault.
use borrow.Author.Rules.{rules}
use Rattle.recording_texts.proofs.Lines.{ten_line, plain_line}
use Rattle.recording_texts.proofs.verdict.verdict_text.Goals as goal

pub returns-in-B10 : goal.returns-in-B10
returns-in-B10 c = let is = ten_line 0 in search (rules, is)

pub returns-in_default-fault : goal.returns-in_default-fault
returns-in_default-fault c =
    let is = plain_line _ 0 c.in_default-fault.not-B8 c.in_default-fault.not-B10 in
    search (rules, is, c.in-Err.is)
