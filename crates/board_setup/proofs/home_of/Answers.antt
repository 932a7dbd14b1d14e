-- `board_setup::home_of` meets its contract. The loop's invariant: `earlier` is the first row behind the processors passed, and none of those
-- has the cluster's word.
use mathlib.Core.Path.{sym, ap, ◌∙◌}
use mathlib.Core.List.{[], ◌∷◌, ◌++◌}
use native.Mathlib.Omega.{arith}
use lib.ListN.{length, take}
use Rattle.rules.specs.Table.{any_of, place_of}
use Rattle.rules.specs.Description.{Description, nothing_listed, items_in, item_processor, with_items}
use Rattle.board_description.proofs.Listed.{with_items-last, walk_start, walk_next, walk_listed, walk_here, walk_end}
use Rattle.board_setup.proofs.Rows.{has_word, rows-order, row_start, row_next, word_start, word_none, word-found, home_alone, home_first, home_own}
use Rattle.board_setup.proofs.home_of.Goals as goal

pub returns-then-cluster-eq0 : goal.returns-then-cluster-eq0
returns-then-cluster-eq0 c =
    home_alone _ _ c.requires.item_value.0 c.requires.behind c.shared_cluster-cluster.ensures c.if-cluster-eq0.true

pub loop-passed-init : goal.loop-passed-init
loop-passed-init c = (
  rw (c.into_iter-passed-iterator.ensures.into_iter_gives, c.take-passed-items.ensures.source, c.take-passed-items.ensures.count) (walk_start _ _),
  row_start,
  word_start c.shared_cluster-cluster.result,
)

-- the item passed is the first that has the cluster's word

pub returns-then-shares : goal.returns-then-shares
returns-then-shares c =
    let l = c.loop-passed in
    let seen = with_items nothing_listed l.yielded in
    let own = item_processor c.args.item in
    let word = c.shared_cluster-cluster.result in
    let next = c.in-Some.ensures.steps in
    home_first _ _ c.requires.item_value.0 c.requires.behind c.shared_cluster-cluster.ensures c.if-cluster-eq0.false
    (ap (λ (d : Description). place_of (has_word word) (d.processors ++ (own ∷ []))) (walk_here l.invariant.0 _ next.0 next.1)
    ∙ word-found seen c.in-Some.passed l.invariant.1 word _ own l.invariant.2 (sym c.shares.ensures ∙ c.if-shares.true))

pub row_after-earlier-requires : goal.row_after-earlier-requires
row_after-earlier-requires c =
    let l = c.loop-passed in
    let seen = with_items nothing_listed l.yielded in
    let order = rows-order seen (take l.passed-iterator.n (items_in l.passed-iterator.iter.0.now)) in
    let all = ap (λ (d : Description). length d.processors) (walk_listed l.invariant.0) in
    omega (arith, order, all, l.invariant.1, c.requires.behind, c.requires.item_value.1)

pub loop-passed-preserved : goal.loop-passed-preserved
loop-passed-preserved c =
    let l = c.loop-passed in
    let seen = with_items nothing_listed l.yielded in
    let last = with_items-last nothing_listed l.yielded c.in-Some.passed in
    let next = c.in-Some.ensures.steps in
    let word = c.shared_cluster-cluster.result in (
      walk_next l.invariant.0 _ next.0 next.1,
      rw last (c.row_after-earlier.ensures ∙ row_next seen c.in-Some.passed l.invariant.1),
      rw last (word_none seen c.in-Some.passed word (sym c.shares.ensures ∙ c.if-shares.false) l.invariant.2),
    )

-- none before has it

pub returns : goal.returns
returns c =
    let l = c.loop-passed in
    let word = c.shared_cluster-cluster.result in
    let all = walk_end l.invariant.0 (λ some. (c.in-None.ensures.steps some).0) in
    home_own _ _ c.requires.item_value.0 c.requires.behind c.shared_cluster-cluster.ensures c.if-cluster-eq0.false
    (ap (λ (d : Description). any_of (has_word word) d.processors) all ∙ l.invariant.2)
