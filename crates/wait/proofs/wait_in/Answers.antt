-- `wait::wait_in` meets its contract, field by field.
use Rattle.rules.specs.Message.{wait_in}
use Rattle.wait.proofs.wait_in.Goals as goal

pub returns : goal.returns
unfolding wait_in
returns c =
    rw (
      c.byte_at.ensures,
      c.byte_at-2.ensures,
      c.byte_at-3.ensures,
      c.byte_at-4.ensures,
      c.u32_at.ensures,
      c.u32_at-2.ensures,
      c.u32_at-3.ensures,
      c.u32_at-4.ensures,
    )
