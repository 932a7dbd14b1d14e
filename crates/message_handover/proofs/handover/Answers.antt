-- `message_handover::handover` meets its contract: N4 to N8, and the new host controls, which is counted.
use mathlib.Core.Path.{◌≡◌, refl, ap, ◌∙◌}
use Rattle.std.proofs.lemmas.Result.{err_from_is_err_and}
use Rattle.rules.specs.declared.Kind.TheVariants.{Handover}
use Rattle.rules.specs.Role.{permitted}
use Rattle.rules.specs.Message.{query, new_host_of}
use Rattle.access.specs.Memory.{entry_at}
use Rattle.board.specs.Memory.{board_in}
use Rattle.message_operation.proofs.Rows.{loaded-is, loaded-row, wrong-operands, admitted, refuses, carries_own, plainly}
use Rattle.message_operation.proofs.Told.{held, not_held}
use Rattle.record.specs.Memory.{memories}
use Rattle.record.specs.Holder.{with_holder}
use Rattle.record.proofs.Counted.{holder_is}
use Rattle.message_handover.proofs.handover.Goals.{After-is_permitted}
use Rattle.message_handover.proofs.handover.Goals as goal

-- the host that is asked about is the new host
new_host : (c : After-is_permitted)
    → c.is_permitted.result
    ≡ permitted (board_in c.args.board.now) (entry_at c.args.access.now c.in_ok-named.named.row) (new_host_of c.args.message.now)
new_host c = c.is_permitted.ensures ∙ ap (permitted _ _) (c.from.ensures ∙ c.byte_at-host.ensures)

pub returns-in_err-named : goal.returns-in_err-named
returns-in_err-named c status room =
    let p = err_from_is_err_and c.from_residual.result c.from_residual.ensures.1 in
    rw (p.1, p.2)
    (not_held Handover _ _ refl (λ row state. refl) c.controlled.ensures refl refl c.in_err-named.was)

pub returns-then-not-is_permitted : goal.returns-then-not-is_permitted
returns-then-not-is_permitted c status room =
    let h = held Handover (memories c.args.board.now c.args.access.now c.args.records.now) (query c.args.channel c.args.message.now status room) refl (λ row state. refl) c.controlled.ensures c.in_ok-named.was in
    plainly refl refl
    (refuses (wrong-operands h.0.reached refl h.1 (new_host (goal.at.returns-then-not-is_permitted c).After-is_permitted) c.if-not-is_permitted.true))

pub returns : goal.returns
returns c status room =
    let h = held Handover (memories c.args.board.now c.args.access.now c.args.records.now) (query c.args.channel c.args.message.now status room) refl (λ row state. refl) c.controlled.ensures c.in_ok-named.was in
    plainly refl refl
    (carries_own refl refl h.0
    (admitted h.0.reached refl h.1 (new_host (goal.at.returns c).After-is_permitted) c.if-not-is_permitted.false)
    refl
    (λ r. refl)
    (c.on_handover.ensures ∙ ap (with_holder Handover _ _) c.byte_at-host.ensures ∙ holder_is _ Handover _ _ _ _ (loaded-is h.0) (loaded-row h.0)))
