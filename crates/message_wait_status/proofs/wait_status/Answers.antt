-- `message_wait_status::wait_status` meets its contract: a law for each row, and what the wait reports.
use Prim.Native.Nat.{ℕ, ◌<◌, ◌≤◌}
use mathlib.Core.Path.{◌≡◌, refl, subst}
use mathlib.Core.Bool.{true}
use mathlib.Core.List.{List}
use lib.ListN.{length}
use Rattle.rules.specs.declared.Kind.TheVariants.{WaitStatus}
use Rattle.rules.specs.declared.Record.{Record}
use Rattle.rules.specs.Message.{query}
use Rattle.board.specs.Memory.{board_in}
use Rattle.record.specs.Memory.{memories}
use Rattle.message_operation.proofs.Rows.{Admitted, record_seen, wrong-operands, admitted}
use Rattle.message_operation.proofs.StatusWords.{few_words, enough_words, unwaits, waits}
use Rattle.message_operation.proofs.Told.{Passed, passed_N7, stopped}
use Rattle.message_wait_status.proofs.wait_status.Goals.{After-wait_good}
use Rattle.message_wait_status.proofs.wait_status.Goals as goal

-- the record that the rules see
abbrev seen : After-wait_good → List ℕ → ℕ → Record
seen c records room =
    record_seen (memories c.args.board.now c.args.access.now records) (query c.args.channel c.args.message.now c.args.status.now room)

pub returns-in-Err : goal.returns-in-Err
returns-in-Err c records room = unwaits (stopped WaitStatus _ _ refl (λ row. refl) c.permitted_row.ensures c.in-Err.is) c.outcome_alone.ensures

-- past N7
at_N8 : (c : After-wait_good) (records : List ℕ) (room : ℕ)
    → Passed WaitStatus (memories c.args.board.now c.args.access.now records) (query c.args.channel c.args.message.now c.args.status.now room) c.in_default.field-0
at_N8 c records room =
    passed_N7 WaitStatus (memories c.args.board.now c.args.access.now records) (query c.args.channel c.args.message.now c.args.status.now room) refl (λ row. refl) c.permitted_row.ensures c.in_default.is

-- and past N8
at_R3 : (c : After-wait_good) (records : List ℕ) (room : ℕ) → c.wait_good.result ≡ true
    → Admitted (board_in c.args.board.now) WaitStatus (query c.args.channel c.args.message.now c.args.status.now room) c.args.access.now (seen c records room)
at_R3 c records room good =
    let past = at_N8 c records room in admitted past.reached refl past.right (rw c.wait_in-w.ensures at c.wait_good.ensures) good

pub returns-then-not-wait_good : goal.returns-then-not-wait_good
returns-then-not-wait_good c records room =
    let past = at_N8 (goal.at.returns-then-not-wait_good c).After-wait_good records room in
    unwaits (wrong-operands past.reached refl past.right (rw c.wait_in-w.ensures at c.wait_good.ensures) c.if-not-wait_good.true)
    c.outcome_alone-then-not-wait_good.ensures

pub returns-then-status-from : goal.returns-then-status-from
returns-then-status-from c records room =
    let past = at_R3 (goal.at.returns-then-status-from c).After-wait_good records room c.if-not-wait_good.false in
    unwaits (few_words past c.wait_in-w.ensures (subst (λ (n : ℕ). length c.args.status.now < n) c.from.ensures c.if-status-from.true)) c.outcome_alone-then-status-from.ensures

pub returns : goal.returns
returns c records room =
    let past = at_R3 (goal.at.returns c).After-wait_good records room c.if-not-wait_good.false in
    waits c.wait_in-w.ensures (enough_words past c.wait_in-w.ensures (subst (λ (n : ℕ). n ≤ length c.args.status.now) c.from.ensures c.if-status-from.false)) c.waited.ensures
