-- One more check of a wait, over plain numbers: how the run goes on, and what the search for its end comes to.
use Prim.Native.Nat.{ℕ, zero, suc, ◌+◌, ◌≤◌, ◌<◌, ◌-◌, min}
use mathlib.Core.Path.{◌≡◌, ◌∙◌, subst}
use mathlib.Core.Bool.{Bool, cond}
use mathlib.Core.List.{List}
use mathlib.Core.Logic.{⊎_elim}
use native.Mathlib.Omega.{arith}
use lib.ListN.{length, get_or}
use borrow.Author.Tests.{le-leb, lt-leb}
use Rattle.rules.specs.declared.Wait.{Wait}
use Rattle.rules.specs.Wait.{word_matches, run_after, ends_run, first_end, ending_check}
use Rattle.rules.proofs.Tests.{decide, cond-true, cond-false}

module _ (w : Wait) (words : List ℕ) where
  -- the run after one more check
  pub run_step : (k run r : ℕ) (matching : Bool) → matching ≡ word_matches w (get_or words k 0) → run ≡ run_after w words k
      → r ≡ cond matching (suc run) 0 → r ≡ run_after w words (suc k)
  unfolding run_after
  run_step k run r matching m p e = e ∙ rw (m, p)

  -- no check is left
  pub none_left : (k total : ℕ) → total ≤ k → first_end w words k (total - k) ≡ 0
  unfolding first_end
  none_left k total h = let z : total - k ≡ 0 = omega arith in rw z

  -- one check of those that are left
  one_check : (k total : ℕ) → k < total
      → first_end w words k (total - k) ≡ cond (ends_run w words (suc k)) (suc k) (first_end w words (suc k) (total - suc k))
  unfolding first_end
  one_check k total h = let z : total - k ≡ suc (total - suc k) = omega arith in rw z

  module _ (k total r : ℕ) (h : k < total) (run : r ≡ run_after w words (suc k)) where
    pub run-ended : w.matches ≤ r → first_end w words k (total - k) ≡ suc k
    unfolding ends_run
    run-ended e = one_check k total h ∙ cond-true _ _ (le-leb w.matches (run_after w words (suc k)) (subst (λ (n : ℕ). w.matches ≤ n) run e))

    pub run-goes_on : r < w.matches → first_end w words k (total - k) ≡ first_end w words (suc k) (total - suc k)
    unfolding ends_run
    run-goes_on e = one_check k total h ∙ cond-false _ _ (lt-leb w.matches (run_after w words (suc k)) (subst (λ (n : ℕ). n < w.matches) run e))

-- ---- a wait makes no more checks than it asks for

first_within : (w : Wait) (words : List ℕ) (n left : ℕ) → first_end w words n left ≤ n + left
unfolding first_end
first_within w words n zero = omega arith
first_within w words n (suc left) =
    ⊎_elim (λ e. rw e (omega arith)) (λ e. rw e (let later = first_within w words (suc n) left in omega arith))
    (decide (ends_run w words (suc n)))

pub ending_within : (w : Wait) (words : List ℕ) → ending_check w words ≤ w.waits
unfolding ending_check
ending_within w words = let within = first_within w words 0 (min w.waits (length words)) in omega arith
