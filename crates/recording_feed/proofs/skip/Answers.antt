-- `recording_feed::skip` meets its contract.
use Rattle.recording_feed.proofs.Stops.{carry_passed, piece_passed}
use Rattle.recording_feed.proofs.skip.Goals as goal

pub returns-then-carried : goal.returns-then-carried
returns-then-carried c =
    let told = c.move_down-left in
    let a = c.args in
    carry_passed a.carry.now _ a.held a.at a.end _ c.if-carried.true c.requires told.ensures.value told.ensures.buffer_after

pub returns : goal.returns
returns c = let a = c.args in piece_passed a.carry.now a.held a.at a.end c.if-carried.false
