-- `call_message::before_type` meets its contract: each test is a row of the outcome table up to the sender.
use mathlib.Core.Path.{sym, ◌∙◌}
use borrow.Author.Tests.{lt-ltb, le-ltb, not-true, not-false}
use Rattle.rules.specs.Table.{first_of}
use Rattle.rules.specs.Outcome.{sender_wrong, before_type}
use Rattle.std.proofs.lemmas.Bool.{not_from_true, not_from_false}
use Rattle.call_message.proofs.screen.before_type.Goals as goal

pub returns-then-room-lt-ANSWER_BYTES : goal.returns-then-room-lt-ANSWER_BYTES
unfolding before_type first_of
returns-then-room-lt-ANSWER_BYTES c status = rw (lt-ltb _ _ c.if-room-lt-ANSWER_BYTES.true)

pub returns-then-length : goal.returns-then-length
unfolding before_type first_of
returns-then-length c status = rw (le-ltb _ _ c.if-room-lt-ANSWER_BYTES.false, c.if-length.true)

pub returns-then-not-is_listed : goal.returns-then-not-is_listed
unfolding before_type first_of
returns-then-not-is_listed c status =
    let unlisted = sym c.is_listed.ensures ∙ not-true _ (not_from_false _ c.if-not-is_listed.true) in
    rw (le-ltb _ _ c.if-room-lt-ANSWER_BYTES.false, c.if-length.false, unlisted)

pub returns-then-sender_wrong : goal.returns-then-sender_wrong
unfolding before_type first_of sender_wrong
returns-then-sender_wrong c status =
    let listed = sym c.is_listed.ensures ∙ not-false _ (not_from_true _ c.if-not-is_listed.false) in
    let sender = sym (c.sender_wrong.ensures status 0) ∙ c.if-sender_wrong.true in
    rw (le-ltb _ _ c.if-room-lt-ANSWER_BYTES.false, c.if-length.false, listed, sender)

pub returns : goal.returns
unfolding before_type first_of sender_wrong
returns c status =
    let listed = sym c.is_listed.ensures ∙ not-false _ (not_from_true _ c.if-not-is_listed.false) in
    let sender = sym (c.sender_wrong.ensures status 0) ∙ c.if-sender_wrong.false in
    rw (le-ltb _ _ c.if-room-lt-ANSWER_BYTES.false, c.if-length.false, listed, sender)
