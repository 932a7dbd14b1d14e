-- `message_set_control::set_control` meets its contract: N4 to N8, and the control word changes.
use Prim.Native.Nat.{ℕ}
use mathlib.Core.Path.{◌≡◌, refl, ap, ◌∙◌}
use mathlib.Core.List.{List, []}
use Rattle.std.proofs.lemmas.Result.{err_from_is_err_and}
use Rattle.rules.specs.declared.Kind.TheVariants.{SetControl}
use Rattle.rules.specs.Board.{class_of, home_at, control_word}
use Rattle.rules.specs.Message.{query, control_set_of, control_clear_of, subject_of}
use Rattle.rules.specs.Flags.{flags_good, new_word}
use Rattle.rules.specs.Effect.{with_control}
use Rattle.board.specs.Memory.{board_in}
use Rattle.record.specs.Memory.{memories, with_control_word}
use Rattle.message_operation.proofs.Rows.{by_class, wrong-operands, admitted, refuses, carries_control, plainly}
use Rattle.message_operation.proofs.Told.{held, not_held}
use Rattle.message_set_control.proofs.set_control.Goals.{After-flags_good}
use Rattle.message_set_control.proofs.set_control.Goals as goal

-- what the code finds of the operands, by the class of the row
operands : (c : After-flags_good) (status : List ℕ) (room : ℕ)
    → c.flags_good.result
    ≡ flags_good (class_of (board_in c.args.board.now) (subject_of (query c.args.channel c.args.message.now status room))) control_word
    (control_set_of c.args.message.now) (control_clear_of c.args.message.now)
operands c status room =
    let h = held SetControl (memories c.args.board.now [] c.args.records.now) (query c.args.channel c.args.message.now status room) refl (λ row state. refl) c.controlled.ensures c.in_ok-named.was in
    c.flags_good.ensures
    ∙ (λ t. flags_good (by_class h.0.reached c.class_at.ensures t) control_word (c.u32_at-set.ensures t) (c.u32_at-clear.ensures t))

pub returns-in_err-named : goal.returns-in_err-named
returns-in_err-named c access status room =
    let p = err_from_is_err_and c.from_residual.result c.from_residual.ensures.1 in
    rw (p.1, p.2)
    (not_held SetControl _ _ refl (λ row state. refl) c.controlled.ensures refl refl c.in_err-named.was)

pub returns-then-not-flags_good : goal.returns-then-not-flags_good
returns-then-not-flags_good c access status room =
    let h = held SetControl (memories c.args.board.now access c.args.records.now) (query c.args.channel c.args.message.now status room) refl (λ row state. refl) c.controlled.ensures c.in_ok-named.was in
    plainly refl refl
    (refuses (wrong-operands h.0.reached refl h.1 (operands (goal.at.returns-then-not-flags_good c).After-flags_good status room) c.if-not-flags_good.true))

pub returns : goal.returns
returns c access status room =
    let h = held SetControl (memories c.args.board.now access c.args.records.now) (query c.args.channel c.args.message.now status room) refl (λ row state. refl) c.controlled.ensures c.in_ok-named.was in
    let m = c.args.message.now in
    let s = c.in_ok-named.named in
    plainly refl refl
    (carries_control {next = with_control (control_set_of m) (control_clear_of m) s.state} refl refl h.0
    (admitted h.0.reached refl h.1 (operands (goal.at.returns c).After-flags_good status room) c.if-not-flags_good.false)
    refl
    (λ r. refl)
    (c.store_control.ensures
    ∙ ap (with_control_word c.args.records.now (home_at (board_in c.args.board.now) s.row))
    (c.new_word-control.ensures ∙ (λ t. new_word s.state.control (c.u32_at-set.ensures t) (c.u32_at-clear.ensures t)))))
