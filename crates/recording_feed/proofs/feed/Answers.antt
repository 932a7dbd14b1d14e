-- `recording_feed::feed` meets its contract: of the carry and of the piece no more is taken than there is.
use mathlib.Core.Path.{◌≡◌}
use lib.ListN.{length}
use borrow.Author.Rules.{rules}
use Rattle.recording_stream.specs.Stream.{carry_size}
use Rattle.recording_step.specs.SessionMemory.{memories_in}
use Rattle.recording_feed.proofs.Stops.{over_told, pending-min, same_bytes}
use Rattle.recording_feed.proofs.feed.Goals as goal

pub returns-then-over-clause-fed : goal.returns-then-over-clause-fed
returns-then-over-clause-fed c =
    let a = c.args in
    over_told (memories_in a.session.now) a.carry.now a.piece.now a.out.now a.held a.at c.if-over.true

pub returns-clause-fed : goal.returns-clause-fed
returns-clause-fed c =
    let a = c.args in
    let m = memories_in a.session.now in
    let size : length a.carry.now ≡ carry_size = search rules in
    same_bytes m _ a.carry.now a.piece.now a.out.now _ _ a.held a.at _ _ _ c.if-over.false
    (pending-min a.carry.now a.piece.now a.held a.at _ _ size c.min-kept.ensures c.min-next.ensures) c.feed_all.ensures.fed
