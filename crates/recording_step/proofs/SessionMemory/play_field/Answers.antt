-- `recording_step::SessionMemory::play_field` meets its contract: each tag has its call, with the words that stand, and no more.
use Prim.Native.Nat.{ℕ}
use mathlib.Core.Path.{ap, ◌∙◌}
use Rattle.rules.specs.Recording.{field_of, message_call, carry_out}
use Rattle.recording_step.specs.SessionMemory.{session_in, memories_in}
use Rattle.recording_step.proofs.Fields.{carry_message, carry_status, from_call, from_words}
use Rattle.recording_step.proofs.SessionMemory.play_field.Goals as goal

pub returns-then-tag-eq-TAG_MESSAGE-clause-played : goal.returns-then-tag-eq-TAG_MESSAGE-clause-played
returns-then-tag-eq-TAG_MESSAGE-clause-played c =
    let a = c.args in
    let m = memories_in a.self.now in
    let s = session_in m in
    from_call m.board m.access m.records m.words a.line.now m.stand (field_of a.tag a.body.now) c.if-line-lt-LINE_BYTES.false
    _ _ _ _ _ (message_call a.body.now s.words)
    (ap (λ (t : ℕ). carry_out s (field_of t a.body.now)) c.if-tag-eq-TAG_MESSAGE.true ∙ carry_message s a.body.now) c.message_line.ensures

pub returns-then-tag-eq-TAG_STATUS-clause-played : goal.returns-then-tag-eq-TAG_STATUS-clause-played
returns-then-tag-eq-TAG_STATUS-clause-played c =
    let a = c.args in
    let m = memories_in a.self.now in
    let s = session_in m in
    let taken = c.take_words-taken.ensures in
    from_words m.board m.access m.records m.words a.line.now m.stand (field_of a.tag a.body.now) c.if-line-lt-LINE_BYTES.false
    a.body.now _ _ (ap (λ (t : ℕ). carry_out s (field_of t a.body.now)) c.if-tag-eq-TAG_STATUS.true ∙ carry_status s a.body.now) taken.value taken.words_after

pub returns-clause-played : goal.returns-clause-played
returns-clause-played c =
    let m = memories_in c.args.self.now in
    c.play_offer.ensures m.records m.words m.stand
