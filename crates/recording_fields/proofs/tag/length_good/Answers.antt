-- `recording_fields::length_good` meets its contract: messages and status words first, and the offers have one length.
use mathlib.Core.Path.{◌≡◌, refl, sym}
use mathlib.Core.Bool.{Bool, true, false, ◌&&◌, ◌||◌}
use mathlib.Core.List.{[], ◌∷◌}
use lib.Dec.{eqb, leb}
use borrow.Author.Tests.{ne_eqb}
use Rattle.rules.specs.Table.{◌gives◌, first_of}
use Rattle.rules.specs.Recording.{length_good}
use Rattle.recording_fields.proofs.tag.length_good.Goals as goal

offers-alike : (one four six short words message : Bool)
    → first_of false ((one gives short) ∷ (false gives words) ∷ (false gives message) ∷ (four gives short) ∷ (six gives short) ∷ [])
    ≡ ((one || four || six) && short)
unfolding first_of
offers-alike true four six short words message = refl
offers-alike false true six short words message = refl
offers-alike false false true short words message = refl
offers-alike false false false short words message = refl

pub returns-then-tag-eq-TAG_MESSAGE : goal.returns-then-tag-eq-TAG_MESSAGE
unfolding length_good first_of
returns-then-tag-eq-TAG_MESSAGE c = rw c.if-tag-eq-TAG_MESSAGE.true

pub returns-then-tag-eq-TAG_STATUS : goal.returns-then-tag-eq-TAG_STATUS
unfolding length_good first_of
returns-then-tag-eq-TAG_STATUS c = rw c.if-tag-eq-TAG_STATUS.true

pub returns : goal.returns
unfolding length_good
returns c =
    let given = c.args in
    rw (ne_eqb _ 3 c.if-tag-eq-TAG_MESSAGE.false, ne_eqb _ 2 c.if-tag-eq-TAG_STATUS.false)
    (sym (offers-alike (eqb given.tag 1) (eqb given.tag 4) (eqb given.tag 6) (leb given.length 512) _ _))
