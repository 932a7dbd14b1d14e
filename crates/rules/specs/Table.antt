-- A table of a paper, read from top to bottom: the first line whose test holds decides. Document 01's outcomes and its reasons to
-- refuse a list are such tables.
use Rattle.std.specs.Prelude.{ℕ, zero, suc, Bool, true, false, cond, ◌&&◌, ◌||◌, List, [], ◌∷◌}

infix 20 ◌gives◌
-- a line: where the test holds, this is the answer
pub data Line (A : Type 0) : Type 0 where
  ◌gives◌ : Bool → A → Line A

-- the answer of the first line whose test holds, and `other` where none does
unfoldable pub first_of : {A : Type 0} → A → List (Line A) → A
first_of other [] = other
first_of other ((test gives answer) ∷ below) = cond test answer (first_of other below)

-- some element passes the test
unfoldable pub any_of : {A : Type 0} → (A → Bool) → List A → Bool
any_of test [] = false
any_of test (x ∷ xs) = test x || any_of test xs

-- the place of the first element that passes the test, or the list's length where none does
unfoldable pub place_of : {A : Type 0} → (A → Bool) → List A → ℕ
place_of test [] = 0
place_of test (x ∷ xs) = cond (test x) 0 (suc (place_of test xs))

-- every element passes the test
unfoldable pub all_of : {A : Type 0} → (A → Bool) → List A → Bool
all_of test [] = true
all_of test (x ∷ xs) = test x && all_of test xs

-- every element passes the test together with its place; the places are counted from i
unfoldable pub all_from : {A : Type 0} → (ℕ → A → Bool) → ℕ → List A → Bool
all_from test i [] = true
all_from test i (x ∷ xs) = test i x && all_from test (suc i) xs

-- a table of n places, counted from i, in which f says what stands at each
unfoldable pub table_of : {A : Type 0} → (ℕ → A) → ℕ → ℕ → List A
table_of f i zero = []
table_of f i (suc n) = f i ∷ table_of f (suc i) n
