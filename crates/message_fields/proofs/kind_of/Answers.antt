-- `message_fields::kind_of` meets its contract: each arm is a line of the table of types, and the rest is none of them.
use borrow.Author.Tests.{ne_eqb}
use Rattle.rules.specs.Table.{first_of}
use Rattle.rules.specs.Message.{kind_of}
use Rattle.message_fields.proofs.kind_of.Goals as goal

pub returns-in-49152 : goal.returns-in-49152
unfolding kind_of first_of
returns-in-49152 c = rw c.in-49152.is

pub returns-in-49153 : goal.returns-in-49153
unfolding kind_of first_of
returns-in-49153 c = rw c.in-49153.is

pub returns-in-49157 : goal.returns-in-49157
unfolding kind_of first_of
returns-in-49157 c = rw c.in-49157.is

pub returns-in-49408 : goal.returns-in-49408
unfolding kind_of first_of
returns-in-49408 c = rw c.in-49408.is

pub returns-in-49409 : goal.returns-in-49409
unfolding kind_of first_of
returns-in-49409 c = rw c.in-49409.is

pub returns-in-49440 : goal.returns-in-49440
unfolding kind_of first_of
returns-in-49440 c = rw c.in-49440.is

pub returns-in-50176 : goal.returns-in-50176
unfolding kind_of first_of
returns-in-50176 c = rw c.in-50176.is

pub returns-in-50177 : goal.returns-in-50177
unfolding kind_of first_of
returns-in-50177 c = rw c.in-50177.is

pub returns-in_default : goal.returns-in_default
unfolding kind_of first_of
returns-in_default c =
    let rest = c.in_default.in_default-own.rest in
    simp (
      ne_eqb _ 0xC000 rest.0.0.0.0.0.0.0.1,
      ne_eqb _ 0xC001 rest.0.0.0.0.0.0.1,
      ne_eqb _ 0xC005 rest.0.0.0.0.0.1,
      ne_eqb _ 0xC100 rest.0.0.0.0.1,
      ne_eqb _ 0xC101 rest.0.0.0.1,
      ne_eqb _ 0xC120 rest.0.0.1,
      ne_eqb _ 0xC400 rest.0.1,
      ne_eqb _ 0xC401 rest.1,
    )
