-- Laws of tables that a function fills: what stands at each place, and what a store leaves. For any type.
use Prim.Native.Nat.{ℕ, zero, suc, ◌+◌, ◌≤◌, ◌<◌}
use mathlib.Core.Path.{◌≡◌, refl, sym, ◌∙◌, ap}
use mathlib.Core.Bool.{true}
use mathlib.Core.List.{List, [], ◌∷◌}
use native.Mathlib.Nat.{add-zero, zero-add, add-suc, suc-add, le_of_suc-le-suc, not-suc-le-zero}
use native.Mathlib.Omega.{arith}
use lib.ListN.{length, get_or, set}
use lib.Dec.{eqb}
use borrow.Author.Tests.{eq-eqb}
use Rattle.rules.specs.Table.{all_from, table_of}
use Rattle.rules.proofs.Tests.{and_both}

module _ {A : Type 0} (f : ℕ → A) where
  pub table_length : (n i : ℕ) → length (table_of f i n) ≡ n
  unfolding table_of
  table_length zero i = refl
  table_length (suc n) i = ap suc (table_length n (suc i))

module _ {A : Type 0} (f : ℕ → A) (d : A) where
  -- a place that is there, and one that is not
  table_at : (n i j : ℕ) → j < n → get_or (table_of f i n) j d ≡ f (i + j)
  unfolding table_of
  table_at zero i j h = absurd (not-suc-le-zero h)
  table_at (suc n) i zero h = ap f (sym (add-zero i))
  table_at (suc n) i (suc j) h = table_at n (suc i) j (le_of_suc-le-suc h) ∙ ap f (suc-add i j ∙ sym (add-suc i j))

  pub table_past : (n i j : ℕ) → n ≤ j → get_or (table_of f i n) j d ≡ d
  unfolding table_of
  table_past zero i j h = refl
  table_past (suc n) i zero h = absurd (not-suc-le-zero h)
  table_past (suc n) i (suc j) h = table_past n (suc i) j (le_of_suc-le-suc h)

  -- a place that is there, of all of them
  pub table_here : (n j : ℕ) → j < n → get_or (table_of f 0 n) j d ≡ f j
  table_here n j h = table_at n 0 j h ∙ ap f (zero-add j)

-- two functions fill a table alike where they agree at its places
pub table_below : {A : Type 0} (f g : ℕ → A) (n i : ℕ) → ((k : ℕ) → i ≤ k → k < i + n → f k ≡ g k) → table_of f i n ≡ table_of g i n
unfolding table_of
table_below f g zero i e = refl
table_below f g (suc n) i e = λ t. e i (omega arith) (omega arith) t ∷ table_below f g n (suc i) (λ k low high. e k (omega arith) (omega arith)) t

-- what g says is what f says
table_same : {A : Type 0} (f g : ℕ → A) (n i : ℕ) → ((k : ℕ) → i ≤ k → g k ≡ f k) → table_of f i n ≡ table_of g i n
unfolding table_of
table_same f g zero i e = refl
table_same f g (suc n) i e = λ t. sym (e i (omega arith)) t ∷ table_same f g n (suc i) (λ k h. e k (omega arith)) t

-- but at one place
pub table_set : {A : Type 0} (f g : ℕ → A) (x : A) (n i j : ℕ) → g (i + j) ≡ x → ((k : ℕ) → (k ≡ i + j → ⊥) → g k ≡ f k)
    → set (table_of f i n) j x ≡ table_of g i n
unfolding table_of
table_set f g x zero i j here there = refl
table_set f g x (suc n) i zero here there =
    λ t. (sym here ∙ ap g (add-zero i)) t ∷ table_same f g n (suc i) (λ k h. there k (λ e. omega (arith, add-zero i))) t
table_set f g x (suc n) i (suc j) here there =
    λ t.
    sym (there i (λ e. omega arith)) t
    ∷ table_set f g x n (suc i) j (ap g (suc-add i j ∙ sym (add-suc i j)) ∙ here) (λ k h. there k (λ e. h (omega arith))) t

-- a table that f fills gives what f says at each of its places
pub table_gives : (f : ℕ → ℕ) (n i : ℕ) → all_from (λ (k x : ℕ). eqb x (f k)) i (table_of f i n) ≡ true
unfolding table_of all_from
table_gives f zero i = refl
table_gives f (suc n) i = and_both (eq-eqb (f i) (f i) refl) (table_gives f n (suc i))

-- a list is the table of what stands at its places
pub table_is : {A : Type 0} (f : ℕ → A) (d : A) (xs : List A) (i : ℕ) → ((k : ℕ) → k < length xs → f (i + k) ≡ get_or xs k d) → table_of f i (length xs) ≡ xs
unfolding table_of
table_is f d [] i e = refl
table_is f d (x ∷ xs) i e =
    λ t.
    (ap f (sym (add-zero i)) ∙ e 0 (omega arith)) t
    ∷ table_is f d xs (suc i) (λ k h. ap f (suc-add i k ∙ sym (add-suc i k)) ∙ e (suc k) (omega arith)) t
