-- `pomrozek_message` meets its contract: the message call, with the outcome's number and the rest of the report as words.
use Prim.Native.Nat.{ℕ, ◌≤◌}
use mathlib.Core.Path.{ap₂, subst⁻¹}
use mathlib.Core.List.{[], ◌∷◌}
use Rattle.rules.specs.declared.Report.{Report}
use Rattle.rules.specs.Message.{largest_answer}
use Rattle.call_message.proofs.EachCall.{written_short}
use Rattle.pomrozek.proofs.pomrozek_message.Goals as goal

pub narrow-requires : goal.narrow-requires
narrow-requires c =
    subst⁻¹ (λ (r : Report). r.written ≤ largest_answer) c.message-told.ensures.report (written_short _ _)

pub returns : goal.returns
returns c =
    record {
      told = c.message-told.result;
      meets = c.message-told.ensures;
      number = c.outcome_number.ensures;
      words = ap₂ (λ (n k : ℕ). c.message-told.result.checks ∷ c.message-told.result.micros ∷ n ∷ k ∷ []) c.narrow.ensures c.role_number.ensures;
    }
