-- Laws of an offer by its verdict: what the memory holds afterwards.
use Prim.Native.Nat.{ℕ}
use mathlib.Core.Path.{◌≡◌, sym, ap, ◌∙◌}
use mathlib.Core.List.{List}
use Rattle.std.specs.Prelude.{Err}
use Rattle.rules.specs.declared.Fault.{Fault}
use Rattle.rules.specs.Verdict.{Verdict, Accepted, accepted}
use Rattle.rules.specs.Board.{Board}
use Rattle.rules.proofs.Tests.{cond-true, cond-false}
use Rattle.access.specs.InForce.{in_force}
use Rattle.call_offer.specs.AccessAfter.{access_by}

-- one that is refused leaves the memory, and of one that is accepted the list is in force
module _ {v told : Verdict} (b : Board) (m list : List ℕ) (is : v ≡ told) where
  pub refused : {x : Fault} → v ≡ Err x → m ≡ access_by told b m list
  unfolding access_by accepted
  refused bad = sym (cond-false (in_force b list) m (ap accepted (sym is ∙ bad)))

  pub taken : v ≡ Accepted → in_force b list ≡ access_by told b m list
  unfolding access_by accepted
  taken good = sym (cond-true (in_force b list) m (ap accepted (sym is ∙ good)))
