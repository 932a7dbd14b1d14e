-- `call_offer::offer_list` meets its contract: a refused list leaves the memory, an accepted one is in force.
use Rattle.std.proofs.Common.{rules}
use mathlib.Core.Path.{◌≡◌, refl, sym, ap, ◌∙◌}
use mathlib.Core.Bool.{Bool}
use Rattle.rules.specs.AccessList.{verdict_of}
use Rattle.board.specs.Memory.{board_in}
use Rattle.access.specs.Memory.{listed_in}
use Rattle.call_offer.specs.AccessAfter.{access_after}
use Rattle.call_offer.proofs.EachCall.{list_call_lem}
use Rattle.call_offer.proofs.Verdicts.{refused, taken}
use Rattle.call_offer.proofs.offer_list.Goals.{After-judge_list}
use Rattle.call_offer.proofs.offer_list.Goals as goal

told : (c : After-judge_list) → c.judge_list.result ≡ verdict_of (board_in c.args.board.now) (listed_in c.args.access.now) c.args.list.now
told c =
    c.judge_list.ensures ∙ ap (λ (x : Bool). verdict_of (board_in c.args.board.now) x c.args.list.now) c.is_listed.ensures

pub returns-in_err-judge_list : goal.returns-in_err-judge_list
unfolding access_after
returns-in_err-judge_list c =
    let is = told (goal.at.returns-in_err-judge_list c).After-judge_list in
    list_call_lem c.args.board.now c.args.access.now c.args.list.now refl (search rules) (refused _ c.args.access.now c.args.list.now is c.in_err-judge_list.was)

pub returns : goal.returns
unfolding access_after
returns c =
    let is = told (goal.at.returns c).After-judge_list in
    list_call_lem c.args.board.now c.args.access.now c.args.list.now refl (sym c.in_ok-judge_list.was ∙ is)
    (c.put_in_force.ensures ∙ taken _ c.args.access.now c.args.list.now is c.in_ok-judge_list.was)
