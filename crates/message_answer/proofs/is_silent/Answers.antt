-- `message_answer::is_silent` meets its contract: R1 to R3 and no other.
use mathlib.Core.Path.{◌≡◌, refl, sym}
use mathlib.Core.Bool.{false}
use mathlib.Core.Logic.{⊎_elim}
use Rattle.std.specs.Prelude.{Err}
use Rattle.rules.specs.declared.Refusal.{Refusal}
use Rattle.rules.specs.declared.Refusal.TheVariants.{R1, R2, R3, N1, N2, N3, N4, N5, N6, N7, N8, N9}
use Rattle.rules.specs.Outcome.{silent}
use Rattle.message_answer.proofs.is_silent.Goals as goal

loud : (r : Refusal) → (r ≡ R1 → ⊥) → (r ≡ R2 → ⊥) → (r ≡ R3 → ⊥) → silent (Err r) ≡ false
unfolding silent
loud R1 r1 r2 r3 = absurd (r1 refl)
loud R2 r1 r2 r3 = absurd (r2 refl)
loud R3 r1 r2 r3 = absurd (r3 refl)
loud N1 r1 r2 r3 = refl
loud N2 r1 r2 r3 = refl
loud N3 r1 r2 r3 = refl
loud N4 r1 r2 r3 = refl
loud N5 r1 r2 r3 = refl
loud N6 r1 r2 r3 = refl
loud N7 r1 r2 r3 = refl
loud N8 r1 r2 r3 = refl
loud N9 r1 r2 r3 = refl

pub returns-in-R1 : goal.returns-in-R1
unfolding silent
returns-in-R1 c = ⊎_elim (λ r1. rw r1 refl) (λ rest. ⊎_elim (λ r2. rw r2 refl) (λ r3. rw r3 refl) rest) c.in-R1.is

pub returns-in_default : goal.returns-in_default
returns-in_default c = sym (loud _ c.in_default.not-R1 c.in_default.not-R2 c.in_default.not-R3)
