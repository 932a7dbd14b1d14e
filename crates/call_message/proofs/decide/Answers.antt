-- `call_message::decide` meets its contract: the rows before the type refuse, or those from the type on decide.
use mathlib.Core.Path.{refl, sym, ◌∙◌}
use Rattle.rules.specs.Outcome.{carried_out}
use Rattle.call_message.proofs.Tables.{passed_on, refused_first}
use Rattle.call_message.proofs.decide.Goals as goal

pub returns-in-Err : goal.returns-in-Err
unfolding carried_out
returns-in-Err c =
    refused_first (sym c.in-Err.is ∙ c.before_type.ensures c.args.status.now) refl c.outcome_alone.ensures

pub returns : goal.returns
returns c = passed_on (c.before_type.ensures c.args.status.now) c.in_default.is (c.by_kind.ensures _)
