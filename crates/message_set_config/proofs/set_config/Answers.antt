-- `message_set_config::set_config` meets its contract: N4 to N8, and the config word changes.
use mathlib.Core.Path.{◌≡◌, refl, ◌∙◌}
use Prim.Native.Nat.{ℕ}
use mathlib.Core.List.{List, []}
use Rattle.std.proofs.lemmas.Result.{err_from_is_err_and}
use Rattle.rules.specs.declared.Kind.TheVariants.{SetConfig}
use Rattle.rules.specs.Board.{class_of}
use Rattle.rules.specs.Message.{query, vector_low_of, config_set_of, config_clear_of, subject_of}
use Rattle.rules.specs.Flags.{config_good}
use Rattle.rules.specs.Effect.{with_config}
use Rattle.board.specs.Memory.{board_in}
use Rattle.record.specs.Memory.{memories}
use Rattle.message_operation.proofs.Rows.{by_class, wrong-operands, admitted, refuses, carries_own, plainly}
use Rattle.message_operation.proofs.Told.{held, not_held}
use Rattle.message_set_config.proofs.set_config.Goals.{After-config_good}
use Rattle.message_set_config.proofs.set_config.Goals as goal

-- what the code finds of the operands, by the class of the row
operands : (c : After-config_good) (status : List ℕ) (room : ℕ)
    → c.config_good.result
    ≡ config_good (class_of (board_in c.args.board.now) (subject_of (query c.args.channel c.args.message.now status room)))
    (vector_low_of c.args.message.now) (config_set_of c.args.message.now) (config_clear_of c.args.message.now)
operands c status room =
    let h = held SetConfig (memories c.args.board.now [] c.args.records.now) (query c.args.channel c.args.message.now status room) refl (λ row state. refl) c.controlled.ensures c.in_ok-named.was in
    c.config_good.ensures
    ∙ (λ t.
    config_good (by_class h.0.reached c.class_at.ensures t) (c.u32_at-low.ensures t) (c.u32_at-set.ensures t) (c.u32_at-clear.ensures t))

pub returns-in_err-named : goal.returns-in_err-named
returns-in_err-named c access status room =
    let p = err_from_is_err_and c.from_residual.result c.from_residual.ensures.1 in
    rw (p.1, p.2)
    (not_held SetConfig _ _ refl (λ row state. refl) c.controlled.ensures refl refl c.in_err-named.was)

pub returns-then-not-config_good : goal.returns-then-not-config_good
returns-then-not-config_good c access status room =
    let h = held SetConfig (memories c.args.board.now access c.args.records.now) (query c.args.channel c.args.message.now status room) refl (λ row state. refl) c.controlled.ensures c.in_ok-named.was in
    plainly refl refl
    (refuses (wrong-operands h.0.reached refl h.1 (operands (goal.at.returns-then-not-config_good c).After-config_good status room) c.if-not-config_good.true))

pub returns : goal.returns
returns c access status room =
    let h = held SetConfig (memories c.args.board.now access c.args.records.now) (query c.args.channel c.args.message.now status room) refl (λ row state. refl) c.controlled.ensures c.in_ok-named.was in
    plainly refl refl
    (carries_own refl refl h.0
    (admitted h.0.reached refl h.1 (operands (goal.at.returns c).After-config_good status room) c.if-not-config_good.false)
    (c.with_config.ensures
    ∙ (λ t.
    with_config (c.u32_at-low.ensures t) (c.u32_at-high.ensures t)
    (c.u32_at-set.ensures t)
    (c.u32_at-clear.ensures t)
    c.in_ok-named.named.state))
    (λ r. refl)
    c.store_own.ensures)
