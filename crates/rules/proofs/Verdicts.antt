-- Verdicts as the code matches on them: one that is not `Accepted` is a refusal, and its number is not 0.
use Prim.Native.Nat.{◌<◌}
use mathlib.Core.Path.{◌≡◌, refl}
use mathlib.Core.Bool.{true, false}
use native.Mathlib.Omega.{arith}
use lib.Dec.{lit<}
use Rattle.std.specs.Prelude.{Ok, Err}
use Rattle.rules.specs.declared.Fault.{Fault}
use Rattle.rules.specs.declared.Fault.TheVariants.{A1, A2, A3, A4, A5, A6, A7, A8, B1, B2, B3, B4, B5, B6, B7, B8, B9, B10, D1, D2, D3, D4, D5, D6}
use Rattle.rules.specs.Verdict.{Verdict, Accepted, accepted, fault_number, verdict_number}

pub not_accepted : (v : Verdict) → (v ≡ Accepted → ⊥) → accepted v ≡ false
unfolding accepted
not_accepted (Ok tt) bad = absurd (bad refl)
not_accepted (Err fault) bad = refl

fault_numbered : (fault : Fault) → 0 < fault_number fault
fault_numbered A1 = lit< tt
fault_numbered A2 = lit< tt
fault_numbered A3 = lit< tt
fault_numbered A4 = lit< tt
fault_numbered A5 = lit< tt
fault_numbered A6 = lit< tt
fault_numbered A7 = lit< tt
fault_numbered A8 = lit< tt
fault_numbered B1 = lit< tt
fault_numbered B2 = lit< tt
fault_numbered B3 = lit< tt
fault_numbered B4 = lit< tt
fault_numbered B5 = lit< tt
fault_numbered B6 = lit< tt
fault_numbered B7 = lit< tt
fault_numbered (B8 host) = lit< tt
fault_numbered B9 = lit< tt
fault_numbered B10 = lit< tt
fault_numbered D1 = lit< tt
fault_numbered D2 = lit< tt
fault_numbered D3 = lit< tt
fault_numbered D4 = lit< tt
fault_numbered D5 = lit< tt
fault_numbered D6 = lit< tt

-- the number of `Accepted` is none of the refusals' numbers
pub no_fault : (fault : Fault) → verdict_number (Err fault) ≡ verdict_number Accepted → ⊥
no_fault fault none = let some = fault_numbered fault in omega (arith, none, some)

-- 0 is the number of what was accepted alone
pub number_accepts : (v : Verdict) → verdict_number v ≡ 0 → accepted v ≡ true
unfolding accepted
number_accepts (Ok _) none = refl
number_accepts (Err fault) none = absurd (no_fault fault none)
