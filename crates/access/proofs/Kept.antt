-- That a list was accepted is kept in the memory.
use mathlib.Core.Path.{◌≡◌, refl}
use mathlib.Core.Bool.{Bool, true, false}
use Rattle.rules.specs.State.{listed, Setup}
use Rattle.access.specs.Memory.{some_list, kept_setup}

-- that a list was accepted is told without its bytes
pub listed-some : (b : Bool) → listed (some_list b) ≡ b
unfolding listed some_list
listed-some true = refl
listed-some false = refl

pub keeps_listed : (setup : Setup) → listed (kept_setup setup).source ≡ listed setup.source
unfolding kept_setup
keeps_listed setup = listed-some (listed setup.source)
