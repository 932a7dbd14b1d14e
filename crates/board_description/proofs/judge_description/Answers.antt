-- `board_description::judge_description` meets its contract. The loop's invariant: none of the items seen has a fault.
use Rattle.std.proofs.Common.{rules, arith, sym, ap, ◌∙◌, ◌≡◌, Bool, inl}
use Rattle.std.proofs.lemmas.List.{map-append}
use Rattle.rules.specs.Table.{first_of}
use Rattle.rules.specs.Verdict.{Accepted}
use Rattle.rules.specs.Description.{board_verdict, item_table}
use Rattle.board_description.specs.EarlierItems.{listed_before}
use Rattle.board_description.proofs.Listed.{items_few}
use Rattle.board_description.proofs.Verdicts.{reached_start, turn-bad, turn-good, end_verdict}
use Rattle.board_description.proofs.judge_description.Goals as goal

pub loop-count-init : goal.loop-count-init
loop-count-init c =
    rw (c.into_iter-count-iterator.ensures.into_iter_gives, c.enumerate-count-items.ensures.source, c.enumerate-count-items.ensures.count) (reached_start _)

pub loop-count-init-derived : goal.loop-count-init-derived
loop-count-init-derived c =
    let few = items_few c.args.description.now in
    ((tt, tt, inl (rw (c.into_iter-count-iterator.ensures.into_iter_gives, c.enumerate-count-items.ensures.source, c.enumerate-count-items.ensures.count) (omega (arith, few)))), tt)

pub returns-in_err-fault_of : goal.returns-in_err-fault_of
returns-in_err-fault_of c =
    let next = c.in-Some.ensures.steps in
    let told : c.fault_of.result ≡ first_of Accepted (item_table (listed_before c.args.description.now c.loop-count.count-iterator.count) c.in-Some.item) =
    rw (sym next.1) c.fault_of.ensures
    in
    let bad = turn-bad c.loop-count.invariant next.0 (sym c.in_err-fault_of.was ∙ told) (λ e. cc) in
    rw c.if-listed.false (search rules)

pub loop-count-preserved : goal.loop-count-preserved
loop-count-preserved c =
    let next = c.in-Some.ensures.steps in
    rw (map-append (λ p. p.1) c.loop-count.yielded _, next.2)
    (turn-good c.loop-count.invariant next.0 (rw (sym next.1) (sym c.fault_of.ensures ∙ c.in_ok-fault_of.was)))

pub returns : goal.returns
returns c =
    sym
    (ap (λ (b : Bool). board_verdict b c.args.description.now) c.if-listed.false
    ∙ end_verdict c.loop-count.invariant (c.in-None.ensures.steps.0).0)
