-- An outcome by its number: 0 is that of OK alone.
use mathlib.Core.Path.{◌≡◌, refl}
use lib.Dec.{eqb}
use Rattle.std.specs.Prelude.{Ok, Err}
use Rattle.rules.specs.declared.Refusal.TheVariants.{R1, R2, N1, N2, N3, N4, N5, N6, N7, N8, R3, N9}
use Rattle.rules.specs.Outcome.{Outcome, outcome_number, carried_out}

pub number_carried : (o : Outcome) → eqb (outcome_number o) 0 ≡ carried_out o
unfolding carried_out
number_carried (Ok _) = refl
number_carried (Err R1) = refl
number_carried (Err R2) = refl
number_carried (Err N1) = refl
number_carried (Err N2) = refl
number_carried (Err N3) = refl
number_carried (Err N4) = refl
number_carried (Err N5) = refl
number_carried (Err N6) = refl
number_carried (Err N7) = refl
number_carried (Err N8) = refl
number_carried (Err R3) = refl
number_carried (Err N9) = refl
