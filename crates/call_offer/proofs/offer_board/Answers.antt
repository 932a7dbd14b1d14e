-- `call_offer::offer_board` meets its contract: what crate board_setup leaves, read as the rules' state.
use Rattle.call_offer.proofs.EachCall.{board_call_lem}
use Rattle.call_offer.proofs.offer_board.Goals as goal

pub returns : goal.returns
returns c =
    let a = c.args in
    board_call_lem a.board.now a.access.now a.description.now _ c.is_listed.ensures c.set_board.ensures.verdict c.set_board.ensures.memory
