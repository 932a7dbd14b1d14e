-- `recording_feed::settle` meets its contract: tag and length first, then the body.
use native.Mathlib.Omega.{arith}
use Rattle.recording_feed.proofs.Moves.{settled_later, filled}
use Rattle.recording_feed.proofs.carry.settle.Goals as goal

pub returns : goal.returns
returns c =
    let told = c.fill-first in
    let a = c.args in
    let moved = filled a.carry.now a.piece.now _ a.held 3 a.at _ c.requires.0 (omega arith) c.requires.1 told.ensures.value told.ensures.carry_after in
    settled_later a.carry.now a.piece.now _ _ a.held a.at _ _ moved c.settle_body.ensures
