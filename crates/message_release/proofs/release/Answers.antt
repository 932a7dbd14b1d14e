-- `message_release::release` meets its contract: N4, N6 and N7, and nobody controls, which is counted.
use mathlib.Core.Path.{refl, ◌∙◌}
use Rattle.std.proofs.lemmas.Result.{err_from_is_err_and}
use Rattle.rules.specs.declared.Kind.TheVariants.{Release}
use Rattle.rules.specs.Message.{query}
use Rattle.record.specs.Memory.{memories}
use Rattle.message_operation.proofs.Rows.{loaded-is, loaded-row, admitted, carries_own, plainly}
use Rattle.message_operation.proofs.Told.{held, not_held}
use Rattle.record.proofs.Counted.{holder_is}
use Rattle.message_release.proofs.release.Goals as goal

pub returns-in_err-named : goal.returns-in_err-named
returns-in_err-named c access status room =
    let p = err_from_is_err_and c.from_residual.result c.from_residual.ensures.1 in
    rw (p.1, p.2)
    (not_held Release _ _ refl (λ row state. refl) c.controlled.ensures refl refl c.in_err-named.was)

pub returns : goal.returns
returns c access status room =
    let h = held Release (memories c.args.board.now access c.args.records.now) (query c.args.channel c.args.message.now status room) refl (λ row state. refl) c.controlled.ensures c.in_ok-named.was in
    plainly refl refl
    (carries_own refl refl h.0 (admitted h.0.reached refl h.1 refl refl) refl (λ r. refl) (c.on_release.ensures ∙ holder_is _ Release _ _ _ _ (loaded-is h.0) (loaded-row h.0)))
