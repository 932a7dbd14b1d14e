-- `recording_feed::feed_all` meets its contract. The loop's invariant: what is printed stands at the start of the output, and the rest of the call is a
-- turn of its own. The measure is the number of bytes that are there.
use Prim.Native.Nat.{◌+◌, ◌-◌, ◌≤◌}
use mathlib.Core.Path.{◌≡◌, refl, sym, ap, ◌∙◌, subst⁻¹}
use native.Mathlib.Omega.{arith}
use borrow.Author.Rules.{rules}
use lib.ListN.{length}
use Rattle.rules.specs.Recording.{field_of}
use Rattle.rules.proofs.Tests.{or_left}
use Rattle.recording_stream.specs.Stream.{carry_size}
use Rattle.recording_step.specs.SessionMemory.{session_in, memories_in}
use Rattle.recording_feed.specs.Pending.{broken_in}
use Rattle.recording_feed.proofs.Sights.{NoRecord, record_seen_lem, none_seen}
use Rattle.recording_feed.proofs.Stops.{pending-length, told_stops}
use Rattle.recording_feed.proofs.Reach.{reach_start, reach_same, reach_step, reach_told, passed_shorter}
use Rattle.recording_feed.proofs.feed_all.Goals as goal

pub loop-tag-init : goal.loop-tag-init
loop-tag-init c =
    let a = c.args in
    (reach_start (memories_in a.session.now) _ a.out.now, (refl, refl, refl, refl), c.requires)

pub stop-requires : goal.stop-requires
stop-requires c =
    let l = c.loop-tag in
    let a = c.args in
    let piece = a.piece.now in
    let comes = c.next_record-comes.ensures in
    let reached = reach_same _ comes.same l.invariant.0 in
    let place = c.next_record-comes.result in
    let none = none_seen _ piece place.held place.at comes.alone (subst⁻¹ NoRecord (sym comes.seen) c.in_default.not-Record) in
    let bad : c.match-matches.matches ≡ broken_in place.sight = search rules in
    record { held_in_bounds = (omega (arith, reached.within, reached.sized), (omega (arith, comes.fits, comes.sized), comes.there)); at_value = (none.0, bad ∙ ap broken_in comes.seen ∙ none.1) }

pub returns-in_default-clause-fed : goal.returns-in_default-clause-fed
returns-in_default-clause-fed c =
    let l = c.loop-tag in
    let a = c.args in
    let piece = a.piece.now in
    let comes = c.next_record-comes.ensures in
    let reached = reach_same _ comes.same l.invariant.0 in
    let m = memories_in l.session in
    let m₀ = memories_in a.session.now in
    reach_told m₀ m a.carry.now a.held piece a.at a.out.now _ l.out l.used _ _ _ reached (c.stop.ensures (session_in m))

pub returns-then-out-used-lt-LINE_BYTES-clause-fed : goal.returns-then-out-used-lt-LINE_BYTES-clause-fed
returns-then-out-used-lt-LINE_BYTES-clause-fed c =
    let l = c.loop-tag in
    let a = c.args in
    let piece = a.piece.now in
    let comes = c.next_record-comes.ensures in
    let reached = reach_same _ comes.same l.invariant.0 in
    let place = c.next_record-comes.result in
    let seen = record_seen_lem _ piece place.held place.at _ _ (omega (arith, comes.fits, comes.sized)) comes.there comes.alone (sym c.in-Record.is ∙ comes.seen) in
    let m = memories_in l.session in
    let m₀ = memories_in a.session.now in
    let held : place.held ≤ carry_size = omega (arith, comes.fits) in
    let stopped = told_stops _ piece l.out place.held place.at l.used (session_in m) (or_left _ seen.is_whole_lem) c.if-out-used-lt-LINE_BYTES.true held comes.there in
    reach_told m₀ m a.carry.now a.held piece a.at a.out.now _ l.out l.used _ _ _ reached stopped

pub loop-tag-smaller : goal.loop-tag-smaller
loop-tag-smaller c =
    let l = c.loop-tag in
    let a = c.args in
    let piece = a.piece.now in
    let comes = c.next_record-comes.ensures in
    let reached = reach_same _ comes.same l.invariant.0 in
    let place = c.next_record-comes.result in
    let seen = record_seen_lem _ piece place.held place.at _ _ (omega (arith, comes.fits, comes.sized)) comes.there comes.alone (sym c.in-Record.is ∙ comes.seen) in
    let shorter = passed_shorter _ _ piece place.held place.at _ _ _ comes.there seen c.skip-place.ensures in
    let before : place.held + (length piece - place.at) ≡ l.kept + (length piece - l.next) =
    sym (pending-length _ piece place.held place.at (omega (arith, comes.fits, comes.sized))) ∙ ap length comes.same ∙ pending-length _ piece l.kept l.next l.invariant.2.0
    in
    omega (arith, shorter.fewer, before)

pub loop-tag-preserved : goal.loop-tag-preserved
loop-tag-preserved c =
    let l = c.loop-tag in
    let a = c.args in
    let piece = a.piece.now in
    let comes = c.next_record-comes.ensures in
    let reached = reach_same _ comes.same l.invariant.0 in
    let place = c.next_record-comes.result in
    let seen = record_seen_lem _ piece place.held place.at _ _ (omega (arith, comes.fits, comes.sized)) comes.there comes.alone (sym c.in-Record.is ∙ comes.seen) in
    let passed = c.skip-place.ensures in
    let shorter = passed_shorter _ _ piece place.held place.at _ _ _ comes.there seen passed in
    let is = seen.field ∙ ap (field_of _) (sym c.part-body.ensures) in
    let room = c.if-out-used-lt-LINE_BYTES.false in
    let step = reach_step _ _ _ _ _ _ l.out l.used _ reached room _ _ is c.play_field-used.ensures.played seen.is_whole_lem in (
      reach_same _ (passed.bytes piece ∙ seen.passed) step,
      search rules,
      (omega (arith, shorter.held_in_lem, comes.fits, comes.sized), shorter.place_in),
    )
