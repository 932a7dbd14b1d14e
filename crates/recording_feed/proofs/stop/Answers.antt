-- `recording_feed::stop` meets its contract: it waits for more, for room, or the recording is over.
use Prim.Native.Nat.{◌+◌, ◌≤◌}
use mathlib.Core.Path.{◌≡◌, sym, ap, ◌∙◌}
use native.Mathlib.Omega.{arith}
use lib.ListN.{length}
use borrow.Author.Rules.{rules}
use borrow.Author.Tests.{not-true, not-false}
use Rattle.rules.specs.Recording.{found, is_whole}
use Rattle.rules.proofs.Tests.{or_right}
use Rattle.rules.proofs.Recording.{partial_short}
use Rattle.recording_texts.specs.Texts.{laid}
use Rattle.recording_feed.specs.Pending.{pending}
use Rattle.recording_feed.proofs.Buffers.{laid-count, laid-over}
use Rattle.recording_feed.proofs.Stops.{pending-length, told_waits, told_stops, told_breaks}
use Rattle.std.proofs.lemmas.Bool.{not_from_true, not_from_false}
use Rattle.recording_feed.proofs.stop.Goals as goal

pub keep-moved-requires : goal.keep-moved-requires
keep-moved-requires c =
    let a = c.args in
    let b = pending a.carry.now a.held a.piece.now a.at in
    let fine = sym c.requires.at_value.1 ∙ not-true _ (not_from_false _ c.if-not-bad.true) in
    let short = partial_short b c.requires.at_value.0 fine in
    let size = pending-length a.carry.now a.piece.now a.held a.at c.requires.held_in_bounds.1.0 in
    (c.requires.held_in_bounds.1.1, omega (arith, short, size))

pub returns-then-not-bad : goal.returns-then-not-bad
returns-then-not-bad c =
    let a = c.args in
    let fine = sym c.requires.at_value.1 ∙ not-true _ (not_from_false _ c.if-not-bad.true) in
    λ s. told_waits a.carry.now a.piece.now a.out.now a.held a.at a.used s _ _ (search rules) c.requires.at_value.0 fine c.keep-moved.ensures

pub returns-then-out-used-lt-LINE_BYTES : goal.returns-then-out-used-lt-LINE_BYTES
returns-then-out-used-lt-LINE_BYTES c =
    let a = c.args in
    let b = pending a.carry.now a.held a.piece.now a.at in
    let bad = sym c.requires.at_value.1 ∙ not-false _ (not_from_true _ c.if-not-bad.false) in
    λ s. told_stops a.carry.now a.piece.now a.out.now a.held a.at a.used s (or_right (is_whole (found b)) bad) c.if-out-used-lt-LINE_BYTES.true
    (omega arith) c.requires.held_in_bounds.1.1

pub returns : goal.returns
returns c =
    let told = c.put-printed.ensures in
    let a = c.args in
    let out = a.out.now in
    let bad = sym c.requires.at_value.1 ∙ not-false _ (not_from_true _ c.if-not-bad.false) in
    let eleven : length c.bad_line.result ≡ 11 = ap length c.bad_line.ensures in
    let room = c.if-out-used-lt-LINE_BYTES.false in
    let fits : a.used + length c.bad_line.result ≤ length out = omega (arith, eleven, room, c.requires.held_in_bounds.0) in
    λ s. told_breaks a.carry.now a.piece.now out a.held a.at a.used s _ _ bad room
    (laid-count out a.used c.requires.held_in_bounds.0 c.bad_line.result _ _ fits told.value told.buffer_after ∙ ap length c.bad_line.ensures)
    (laid-over out a.used c.requires.held_in_bounds.0 c.bad_line.result _ _ fits told.value told.buffer_after ∙ ap (laid out a.used) c.bad_line.ensures)
