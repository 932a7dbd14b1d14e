-- `message_request::request` meets its contract: N4, N6 and N7, and the sender controls, which is counted; from N7 on with its role.
use mathlib.Core.Path.{◌≡◌, refl, ap, ◌∙◌}
use Rattle.std.specs.Prelude.{Option}
use Rattle.rules.specs.declared.Kind.TheVariants.{Request}
use Rattle.rules.specs.declared.Role.{Role}
use Rattle.rules.specs.Role.{role_of}
use Rattle.rules.specs.Message.{query}
use Rattle.rules.specs.Outcome.{may_request, carried_out}
use Rattle.access.specs.Memory.{entry_at}
use Rattle.board.specs.Memory.{board_in}
use Rattle.record.specs.Memory.{memories}
use Rattle.message_operation.proofs.Rows.{loaded-is, loaded-row, lacks_right, admitted, refuses, carries_own, requests-late}
use Rattle.message_operation.proofs.Told.{named, not_named}
use Rattle.record.proofs.Counted.{holder_is}
use Rattle.message_request.proofs.request.Goals.{After-may_request}
use Rattle.message_request.proofs.request.Goals as goal

-- the role is the channel's, and the right is found by it
role : (c : After-may_request) → c.role_of-role.result ≡ role_of (board_in c.args.board.now) (entry_at c.args.access.now c.in-Ok.row) c.args.channel
role c = c.role_of-role.ensures ∙ ap (role_of _ _) c.from.ensures

right : (c : After-may_request)
    → c.may_request.result
    ≡ may_request (role_of (board_in c.args.board.now) (entry_at c.args.access.now c.in-Ok.row) c.args.channel) c.record_at-state.result
right c = c.may_request.ensures ∙ ap (λ (role : Option Role). may_request role c.record_at-state.result) (role c)

pub returns-in-Err : goal.returns-in-Err
returns-in-Err c status room = not_named _ _ c.row_named.ensures c.in-Err.is c.with_role.ensures

pub returns-then-not-may_request : goal.returns-then-not-may_request
unfolding carried_out
returns-then-not-may_request c status room =
    let w = (goal.at.returns-then-not-may_request c).After-may_request in
    let l = named (memories c.args.board.now c.args.access.now c.args.records.now) (query c.args.channel c.args.message.now status room) c.row_named.ensures c.in-Ok.is c.record_at-state.ensures in
    requests-late l (refuses (lacks_right l.reached (right w) c.if-not-may_request.true)) refl (role w)
    c.with_role-then-not-may_request.ensures

pub returns : goal.returns
unfolding carried_out
returns c status room =
    let w = (goal.at.returns c).After-may_request in
    let l = named (memories c.args.board.now c.args.access.now c.args.records.now) (query c.args.channel c.args.message.now status room) c.row_named.ensures c.in-Ok.is c.record_at-state.ensures in
    requests-late l
    (carries_own refl refl l (admitted l.reached (right w) c.if-not-may_request.false refl refl) refl (λ r. refl)
    (c.on_request.ensures ∙ holder_is _ Request _ _ _ _ (loaded-is l) (loaded-row l)))
    refl
    (role w)
    c.with_role-2.ensures
