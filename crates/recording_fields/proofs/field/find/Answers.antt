-- `recording_fields::find` meets its contract: each arm is a line of `judged`.
use mathlib.Core.Path.{sym, ◌∙◌}
use Rattle.rules.proofs.Tests.{cond-true, cond-false}
use Rattle.recording_fields.proofs.Finds.{finds}
use Rattle.recording_fields.proofs.field.find.Goals as goal

pub returns-then-tag_good : goal.returns-then-tag_good
returns-then-tag_good c =
    let d = c in
    sym (cond-true _ _ (sym c.tag_good.ensures ∙ c.if-tag_good.true)) ∙ finds _ _ d.tagged_at-tagged.ensures d.in-Tag.is

pub returns-then-length_good : goal.returns-then-length_good
returns-then-length_good c =
    let d = c in
    sym (cond-true _ _ (sym c.length_good.ensures ∙ c.if-length_good.true)) ∙ finds _ _ d.tagged_at-tagged.ensures d.in-Head.is

pub returns-then-length_good-2 : goal.returns-then-length_good-2
returns-then-length_good-2 c =
    let d = c in
    sym (cond-true _ _ (sym c.length_good-in-Field.ensures ∙ c.if-length_good-2.true)) ∙ finds _ _ d.tagged_at-tagged.ensures d.in-Field.is

pub returns-in-End : goal.returns-in-End
returns-in-End c = finds _ _ c.tagged_at-tagged.ensures c.in-End.is

pub returns-else-tag_good : goal.returns-else-tag_good
returns-else-tag_good c =
    let d = c in
    sym (cond-false _ _ (sym c.tag_good.ensures ∙ c.if-tag_good.false)) ∙ finds _ _ d.tagged_at-tagged.ensures d.in-Tag.is

pub returns-else-length_good : goal.returns-else-length_good
returns-else-length_good c =
    let d = c in
    sym (cond-false _ _ (sym c.length_good.ensures ∙ c.if-length_good.false)) ∙ finds _ _ d.tagged_at-tagged.ensures d.in-Head.is

pub returns-else-length_good-2 : goal.returns-else-length_good-2
returns-else-length_good-2 c =
    let d = c in
    sym (cond-false _ _ (sym c.length_good-in-Field.ensures ∙ c.if-length_good-2.false)) ∙ finds _ _ d.tagged_at-tagged.ensures d.in-Field.is
