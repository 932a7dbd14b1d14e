-- `recording_feed::settle_body` meets its contract: a body of a good length is completed.
use Prim.Native.Nat.{ℕ, ◌+◌}
use mathlib.Core.Path.{sym, ap, ◌∙◌}
use native.Mathlib.Omega.{arith}
use borrow.Author.Tests.{not-true, not-false}
use Rattle.rules.specs.Bytes.{byte_at}
use Rattle.rules.specs.Recording.{length_good}
use Rattle.rules.proofs.Recording.{length-limit}
use Rattle.recording_feed.proofs.Moves.{left-bad, filled_body}
use Rattle.std.proofs.lemmas.Bool.{not_from_true, not_from_false}
use Rattle.recording_feed.proofs.carry.settle_body.Goals as goal

pub returns-then-not-length_good : goal.returns-then-not-length_good
returns-then-not-length_good c =
    let a = c.args in
    let held = a.carry.now in
    left-bad held a.piece.now a.held a.at c.requires.0 c.requires.1.0 c.requires.1.1
    (sym (c.length_good.ensures ∙ ap (length_good (byte_at held 0)) c.u16_at-length.ensures) ∙ not-true _ (not_from_false _ c.if-not-length_good.true))

pub fill-requires : goal.fill-requires
fill-requires c =
    let held = c.args.carry.now in
    let good = sym c.length_good.ensures ∙ not-false _ (not_from_true _ c.if-not-length_good.false) in
    let few = length-limit (byte_at held 0) _ good in
    (omega (arith, few), c.requires.1)

pub returns : goal.returns
returns c =
    let a = c.args in
    let held = a.carry.now in
    let read = c.u16_at-length.ensures in
    let good = sym c.length_good.ensures ∙ not-false _ (not_from_true _ c.if-not-length_good.false) in
    let few = length-limit (byte_at held 0) _ good in
    filled_body held a.piece.now _ a.held _ a.at _ c.requires.1.0 (omega (arith, few)) c.requires.1.1 c.fill.ensures.value c.fill.ensures.carry_after
    c.requires.0 (sym (ap (length_good (byte_at held 0)) read) ∙ good) (ap (λ (n : ℕ). 3 + n) read)
