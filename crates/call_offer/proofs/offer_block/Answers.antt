-- `call_offer::offer_block` meets its contract: a refused block leaves the memory, of an accepted one the list is in force.
use borrow.Author.Rules.{rules}
use mathlib.Core.Path.{◌≡◌, refl, sym, ap, ◌∙◌}
use mathlib.Core.Bool.{Bool}
use native.Mathlib.Omega.{arith}
use Rattle.rules.specs.Block.{list_part, block_verdict}
use Rattle.board.specs.Memory.{board_in}
use Rattle.access.specs.Memory.{listed_in}
use Rattle.access_block.proofs.Tables.{accepted-size}
use Rattle.call_offer.specs.AccessAfter.{access_after_block}
use Rattle.call_offer.proofs.EachCall.{block_call_lem}
use Rattle.call_offer.proofs.Verdicts.{refused, taken}
use Rattle.call_offer.proofs.offer_block.Goals.{After-judge_block}
use Rattle.call_offer.proofs.offer_block.Goals as goal

told : (c : After-judge_block)
    → c.judge_block.result ≡ block_verdict (board_in c.args.board.now) (listed_in c.args.access.now) c.args.major c.args.minor c.args.block.now
told c =
    c.judge_block.ensures
    ∙ ap (λ (x : Bool). block_verdict (board_in c.args.board.now) x c.args.major c.args.minor c.args.block.now) c.is_listed.ensures

pub returns-in_err-judge_block : goal.returns-in_err-judge_block
unfolding access_after_block
returns-in_err-judge_block c =
    let a = c.args in
    let is = told (goal.at.returns-in_err-judge_block c).After-judge_block in
    block_call_lem a.board.now a.access.now a.block.now refl a.major a.minor (search rules)
    (refused _ a.access.now (list_part a.block.now) is c.in_err-judge_block.was)

pub slice_bounds-put_in_force-end : goal.slice_bounds-put_in_force-end
slice_bounds-put_in_force-end c =
    let size = accepted-size _ _ c.args.major c.args.minor c.args.block.now c.judge_block.ensures c.in_ok-judge_block.was in omega arith

pub returns : goal.returns
unfolding access_after_block
returns c =
    let a = c.args in
    let is = told (goal.at.returns c).After-judge_block in
    block_call_lem a.board.now a.access.now a.block.now refl a.major a.minor (sym c.in_ok-judge_block.was ∙ is)
    (c.put_in_force.ensures ∙ taken _ a.access.now (list_part a.block.now) is c.in_ok-judge_block.was)
