-- `message_get_status::get_status` meets its contract: a law for each row.
use mathlib.Core.Path.{refl, sym, ◌∙◌}
use Prim.Native.Nat.{ℕ}
use mathlib.Core.List.{List}
use Rattle.std.proofs.lemmas.Result.{err_from_is_err_and}
use Rattle.rules.specs.declared.Kind.TheVariants.{GetStatus}
use Rattle.rules.specs.Message.{query}
use Rattle.board.specs.Memory.{board_in}
use Rattle.record.specs.Memory.{memories}
use Rattle.message_operation.proofs.Rows.{Admitted, record_seen, admitted}
use Rattle.message_operation.proofs.StatusWords.{no_word, a_word, reads}
use Rattle.message_operation.proofs.Told.{passed_N7, stopped}
use Rattle.message_get_status.proofs.get_status.Goals.{After-is_empty}
use Rattle.message_get_status.proofs.get_status.Goals as goal

pub returns-in_err-permitted_row : goal.returns-in_err-permitted_row
returns-in_err-permitted_row c records room =
    let p = err_from_is_err_and c.from_residual.result c.from_residual.ensures.1 in
    rw (p.1, p.2) (reads (stopped GetStatus _ _ refl (λ row. refl) c.permitted_row.ensures c.in_err-permitted_row.was).comes)

-- past N8
at_R3 : (c : After-is_empty) (records : List ℕ) (room : ℕ)
    → Admitted (board_in c.args.board.now) GetStatus (query c.args.channel c.args.message.now c.args.status.now room) c.args.access.now
    (record_seen (memories c.args.board.now c.args.access.now records) (query c.args.channel c.args.message.now c.args.status.now room))
at_R3 c records room =
    let past = passed_N7 GetStatus (memories c.args.board.now c.args.access.now records) (query c.args.channel c.args.message.now c.args.status.now room) refl (λ row. refl) c.permitted_row.ensures c.in_ok-permitted_row.was in
    admitted past.reached refl past.right refl refl

pub returns-then-is_empty : goal.returns-then-is_empty
returns-then-is_empty c records room =
    reads (no_word (at_R3 (goal.at.returns-then-is_empty c).After-is_empty records room) (sym c.is_empty.ensures ∙ c.if-is_empty.true)).comes

pub returns : goal.returns
returns c records room = reads (a_word (at_R3 (goal.at.returns c).After-is_empty records room) (sym c.is_empty.ensures ∙ c.if-is_empty.false))
