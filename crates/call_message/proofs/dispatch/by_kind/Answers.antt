-- `call_message::by_kind` meets its contract: each arm is what the function of its type decides and leaves.
use mathlib.Core.Path.{◌≡◌, refl, sym, ◌∙◌}
use Rattle.rules.specs.declared.Kind.{Kind}
use Rattle.rules.specs.Message.{kind_in}
use Rattle.call_message.proofs.Types.{by_type, unknown}
use Rattle.call_message.proofs.dispatch.by_kind.Goals.{After-kind_in-kind}
use Rattle.call_message.proofs.dispatch.by_kind.Goals as goal

-- the type that the code found

found : (c : After-kind_in-kind) {k : Kind} → c.kind_in-kind.result ≡ k → kind_in c.args.message.now ≡ k
found c is = sym c.kind_in-kind.ensures ∙ is

pub returns-in-Request : goal.returns-in-Request
returns-in-Request c room =
    let a = c.args in
    by_type (found (goal.at.returns-in-Request c).After-kind_in-kind c.in-Request.is) refl refl (c.request.ensures a.status.now room)

pub returns-in-Release : goal.returns-in-Release
returns-in-Release c room =
    let a = c.args in
    by_type (found (goal.at.returns-in-Release c).After-kind_in-kind c.in-Release.is) refl c.outcome_alone.ensures (c.release.ensures a.access.now a.status.now room)

pub returns-in-Handover : goal.returns-in-Handover
returns-in-Handover c room =
    let a = c.args in
    by_type (found (goal.at.returns-in-Handover c).After-kind_in-kind c.in-Handover.is) refl c.outcome_alone-in-Handover.ensures (c.handover.ensures a.status.now room)

pub returns-in-SetConfig : goal.returns-in-SetConfig
returns-in-SetConfig c room =
    let a = c.args in
    by_type (found (goal.at.returns-in-SetConfig c).After-kind_in-kind c.in-SetConfig.is) refl c.outcome_alone-in-SetConfig.ensures (c.set_config.ensures a.access.now a.status.now room)

pub returns-in-SetControl : goal.returns-in-SetControl
returns-in-SetControl c room =
    let a = c.args in
    by_type (found (goal.at.returns-in-SetControl c).After-kind_in-kind c.in-SetControl.is) refl c.outcome_alone-in-SetControl.ensures (c.set_control.ensures a.access.now a.status.now room)

pub returns-in-AuthBoot : goal.returns-in-AuthBoot
returns-in-AuthBoot c room =
    let a = c.args in
    by_type (found (goal.at.returns-in-AuthBoot c).After-kind_in-kind c.in-AuthBoot.is) refl c.outcome_alone-in-AuthBoot.ensures (c.authenticated_boot.ensures _ a.channel a.status.now room)

pub returns-in-GetStatus : goal.returns-in-GetStatus
returns-in-GetStatus c room =
    let a = c.args in
    by_type (found (goal.at.returns-in-GetStatus c).After-kind_in-kind c.in-GetStatus.is) refl c.outcome_alone-in-GetStatus.ensures (c.get_status.ensures a.records.now room)

pub returns-in-WaitStatus : goal.returns-in-WaitStatus
returns-in-WaitStatus c room =
    let a = c.args in
    by_type (found (goal.at.returns-in-WaitStatus c).After-kind_in-kind c.in-WaitStatus.is) refl refl (c.wait_status.ensures a.records.now room)

pub returns-in-Other : goal.returns-in-Other
returns-in-Other c room =
    unknown (found (goal.at.returns-in-Other c).After-kind_in-kind c.in-Other.is) c.outcome_alone-in-Other.ensures
