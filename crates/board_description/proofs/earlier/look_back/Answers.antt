-- `board_description::look_back` meets its contract. The loop's invariant: what was noted is what the items seen say.
use Rattle.std.proofs.Common.{arith, ◌∙◌, ap, sym, [], ◌∷◌}
use lib.ListN.{length-append}
use Rattle.rules.specs.Description.{Description}
use Rattle.board_description.specs.EarlierItems.{before_in}
use Rattle.board_description.proofs.Listed.{walk_start, walk_next, walk_end}
use Rattle.board_description.proofs.EarlierItems.{note_start, note_next, noted-few}
use Rattle.board_description.proofs.earlier.look_back.Goals as goal

pub loop-earlier-init : goal.loop-earlier-init
loop-earlier-init c =
    (rw (c.into_iter-earlier-iterator.ensures.into_iter_gives, c.take-earlier-items.ensures.source, c.take-earlier-items.ensures.count) (walk_start _ _), omega arith, note_start c.args.item)

pub loop-earlier-preserved : goal.loop-earlier-preserved
loop-earlier-preserved c =
    let l = c.loop-earlier in
    let few = noted-few c.args.item c.in-Some.earlier l.before in
    let more = length-append l.yielded (c.in-Some.earlier ∷ []) in (
      walk_next l.invariant.0 _ c.in-Some.ensures.steps.0 c.in-Some.ensures.steps.1,
      rw c.note-before.ensures (omega (arith, few, l.invariant.1, more)),
      c.note-before.ensures ∙ note_next c.args.item l.yielded c.in-Some.earlier l.invariant.2,
    )

pub returns : goal.returns
returns c =
    let l = c.loop-earlier in
    l.invariant.2
    ∙ ap (λ (d : Description). before_in d c.args.item) (sym (walk_end l.invariant.0 (λ some. (c.in-None.ensures.steps some).0)))
