-- `recording_feed::finish` meets its contract: the carry says how the recording ends.
use mathlib.Core.Path.{◌≡◌}
use lib.ListN.{length}
use borrow.Author.Rules.{rules}
use Rattle.recording_stream.specs.Stream.{carry_size}
use Rattle.recording_feed.proofs.Stops.{end_over, end_full, end_line_lem}
use Rattle.recording_feed.proofs.finish.Goals as goal

pub returns-then-over : goal.returns-then-over
returns-then-over c =
    let a = c.args in
    end_over a.carry.now a.out.now a.held c.if-over.true

pub returns-then-out-lt-LINE_BYTES : goal.returns-then-out-lt-LINE_BYTES
returns-then-out-lt-LINE_BYTES c =
    let a = c.args in
    end_full a.carry.now a.out.now a.held c.if-over.false c.if-out-lt-LINE_BYTES.true

pub returns : goal.returns
returns c =
    let a = c.args in
    let size : length a.carry.now ≡ carry_size = search rules in
    end_line_lem a.carry.now a.out.now a.held c.if-over.false _ _ _ _ size c.min-kept.ensures c.if-out-lt-LINE_BYTES.false c.find.ensures c.last_line-used.ensures.value c.last_line-used.ensures.out_after
