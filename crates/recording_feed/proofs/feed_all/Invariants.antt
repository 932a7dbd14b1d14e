use Prim.Native.Nat.{◌+◌, ◌-◌}
use lib.ListN.{length}
use Rattle.recording_step.specs.SessionMemory.{session_in, memories_in, SameMemory}
use Rattle.recording_feed.specs.Pending.{pending}
use Rattle.recording_feed.specs.Carry.{InBounds}
use Rattle.recording_feed.proofs.Reach.{Reached}
use Rattle.recording_feed.proofs.feed_all.Given as goal

abbrev pub invariant-loop-tag : goal.invariant-loop-tag
invariant-loop-tag l =
    Reached (session_in (memories_in l.initial.session)) (pending l.initial.carry l.held l.piece l.at) l.initial.out
    (memories_in l.session) (pending l.carry l.kept l.piece l.next) l.out l.used
    × SameMemory l.initial.session l.session × InBounds l.carry l.kept l.piece l.next

abbrev pub decreases-loop-tag : goal.decreases-loop-tag
decreases-loop-tag l =
    l.kept + (length l.piece - l.next)
