-- Laws of lists that get one element more: a search in them, and a look-up; and of a store in a table. For any type.
use Prim.Native.Nat.{ℕ, zero, suc}
use native.Mathlib.Nat.{zero-add}
use mathlib.Core.Path.{◌≡◌, refl, sym, ap, ◌∙◌}
use mathlib.Core.Bool.{Bool, true, false}
use mathlib.Core.List.{List, [], ◌∷◌, ◌++◌, map}
use mathlib.Core.Logic.{⊎_elim}
use lib.ListN.{length, get_or, set}
use Rattle.rules.specs.Table.{any_of, place_of, table_of}
use Rattle.rules.proofs.Tests.{decide, clash, or_false_left}
use Rattle.rules.proofs.Tables.{table_set}

-- ---- a search

module _ {A : Type 0} (test : A → Bool) where
  -- what is found stays found
  pub place_kept : (xs ys : List A) → any_of test xs ≡ true → place_of test (xs ++ ys) ≡ place_of test xs
  unfolding any_of place_of
  place_kept [] ys some = clash {x = false} some refl
  place_kept (x ∷ xs) ys some =
      ⊎_elim
      (λ (t : test x ≡ true). rw t)
      (λ (f : test x ≡ false). rw f (ap suc (place_kept xs ys (rw f at some))))
      (decide (test x))

  -- behind those that fail the first that passes is found
  pub place_first : (xs : List A) (y : A) (ys : List A) → any_of test xs ≡ false → test y ≡ true
      → place_of test (xs ++ y ∷ ys) ≡ length xs
  unfolding any_of place_of
  place_first [] y ys none passes = rw passes
  place_first (x ∷ xs) y ys none passes =
      let f = or_false_left (test x) (any_of test xs) none in
      rw f (ap suc (place_first xs y ys (rw f at none) passes))

-- ---- a look-up

module _ {A B : Type 0} (f : A → B) (e : B) where
  pub get_or-last : (xs : List A) (y : A) → get_or (map f (xs ++ (y ∷ []))) (length xs) e ≡ f y
  get_or-last [] y = refl
  get_or-last (x ∷ xs) y = get_or-last xs y

  pub get_or-before : (xs : List A) (y : A) (k : ℕ) → (k ≡ length xs → ⊥) → get_or (map f (xs ++ (y ∷ []))) k e ≡ get_or (map f xs) k e
  get_or-before [] y zero other = absurd (other refl)
  get_or-before [] y (suc k) other = refl
  get_or-before (x ∷ xs) y zero other = refl
  get_or-before (x ∷ xs) y (suc k) other = get_or-before xs y k (λ same. other (ap suc same))

-- ---- a store

-- a table that another function fills but at one place
pub table_put : {A : Type 0} (f g : ℕ → A) (x : A) (n j : ℕ) → g j ≡ x → ((k : ℕ) → (k ≡ j → ⊥) → g k ≡ f k)
    → set (table_of f 0 n) j x ≡ table_of g 0 n
table_put f g x n j here there =
    table_set f g x n 0 j (ap g (zero-add j) ∙ here) (λ k other. there k (λ same. other (same ∙ sym (zero-add j))))
