-- What a message that changes the controller leaves at a row of the record memory: the controller and the tallies of the effect of OK (document 02, L10).
use Rattle.std.specs.Prelude.{ℕ, List}
use Rattle.rules.specs.declared.Kind.{Kind}
use Rattle.rules.specs.Tally.{tallies_after}
use Rattle.rules.specs.Effect.{held_by}
use Rattle.rules.specs.State.{Own, own_of, joined}
use Rattle.record.specs.Memory.{own_at, with_own}

-- what is a processor's own after a message of type k that leaves host h as the controller, 0 for none
unfoldable pub held_own : Kind → ℕ → Own → Own
held_own k h o = own_of (held_by h (tallies_after k h (joined o 0)) (joined o 0))

-- the record memory with that put at a row; a row that is not there is left alone
abbrev pub with_holder : Kind → List ℕ → ℕ → ℕ → List ℕ
with_holder k m row h = with_own m row (held_own k h (own_at m row))
