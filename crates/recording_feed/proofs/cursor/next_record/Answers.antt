-- `recording_feed::next_record` meets its contract.
use native.Mathlib.Omega.{arith}
use Rattle.recording_feed.proofs.Moves.{piece_comes, carry_comes}
use Rattle.recording_feed.proofs.cursor.next_record.Goals as goal

pub returns-then-held-eq0 : goal.returns-then-held-eq0
returns-then-held-eq0 c =
    let a = c.args in
    piece_comes a.carry.now a.piece.now a.held a.at c.if-held-eq0.true c.requires.1 c.seen-sight.ensures

pub returns : goal.returns
returns c =
    let a = c.args in
    carry_comes a.carry.now a.piece.now _ a.held a.at _ (omega (arith, c.if-held-eq0.false)) c.settle-moved.ensures c.seen-sight-2.ensures
