-- `board_setup::fill` meets its contract. The loop's invariant: the memory has the board that the items seen list, and `row` is the first free one.
use Rattle.std.proofs.Common.{rules, arith, sym, ◌≡◌, inl}
use Rattle.std.proofs.lemmas.List.{map-append}
use Rattle.board_description.specs.EarlierItems.{listed_before}
use Rattle.board_description.proofs.Listed.{items_few}
use Rattle.board_setup.specs.Setup.{put_item}
use Rattle.board_setup.proofs.Fills.{filled_start, fill_ready, fill_next, fill_end}
use Rattle.board_setup.proofs.fill.Goals as goal

pub loop-count-init : goal.loop-count-init
loop-count-init c =
    rw (c.into_iter-count-iterator.ensures.into_iter_gives, c.enumerate-count-items.ensures.source, c.enumerate-count-items.ensures.count) (filled_start _ c.clear.ensures)

pub loop-count-init-derived : goal.loop-count-init-derived
loop-count-init-derived c =
    let few = items_few c.args.description.now in
    ((tt, tt, inl (rw (c.into_iter-count-iterator.ensures.into_iter_gives, c.enumerate-count-items.ensures.source, c.enumerate-count-items.ensures.count) (omega (arith, few)))), tt)

pub put-requires-clause-behind : goal.put-requires-clause-behind
put-requires-clause-behind c = rw c.in-Some.ensures.steps.1 c.loop-count.invariant.free

pub put-requires-clause-mark_bound : goal.put-requires-clause-mark_bound
put-requires-clause-mark_bound c = fill_ready c.loop-count.invariant c.in-Some.ensures.steps.0 c.requires

pub loop-count-preserved : goal.loop-count-preserved
loop-count-preserved c =
    let l = c.loop-count in
    let next = c.in-Some.ensures.steps in
    let put : c.put.new.board ≡ put_item l.board (listed_before c.args.description.now l.count-iterator.count) c.in-Some.item l.row =
    rw (sym next.1) c.put.ensures
    in
    rw (map-append (λ p. p.1) l.yielded _, next.2)
    (fill_next l.invariant next.0 c.requires (search rules) put c.row_after-row.ensures)

pub returns : goal.returns
returns c = fill_end c.loop-count.invariant (c.in-None.ensures.steps.0).0
