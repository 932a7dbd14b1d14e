-- `recording_texts::loop_text` meets its contract: by how many digits the host has.
use native.Mathlib.Omega.{arith}
use borrow.Author.Rules.{rules}
use Rattle.recording_texts.proofs.Lines.{loop-one, loop-two, loop-three}
use Rattle.recording_texts.proofs.verdict.loop_text.Goals as goal

pub returns-then-host-lt10 : goal.returns-then-host-lt10
returns-then-host-lt10 c = let is = loop-one _ c.if-host-lt10.true in search (rules, is)

pub returns-then-host-lt100 : goal.returns-then-host-lt100
returns-then-host-lt100 c = let is = loop-two _ c.if-host-lt10.false c.if-host-lt100.true in search (rules, is)

pub returns : goal.returns
returns c = let is = loop-three c.args.host c.if-host-lt100.false (omega arith) in search (rules, is)
