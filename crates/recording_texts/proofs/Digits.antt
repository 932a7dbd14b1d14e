-- The decimal digits of a number, and how many they are.
use Prim.Native.Nat.{ℕ, zero, suc, ◌+◌, ◌/◌, ◌%◌, ◌^◌, ◌≤◌, ◌<◌}
use mathlib.Core.Path.{◌≡◌, sym, ap, ◌∙◌}
use mathlib.Core.List.{List, [], ◌∷◌, ◌++◌}
use native.Mathlib.Nat.{one-le-pow, pow-suc}
use native.Mathlib.Omega.{arith}
use lib.ListN.{length, length-append}
use borrow.Author.Tests.{lt-ltb, le-ltb}
use Rattle.rules.specs.Text.{decimal_in}

-- a digit taken off the end of a number that has more
pub decimal_digit : (k n : ℕ) → 10 ≤ n → decimal_in (suc k) n ≡ decimal_in k (n / 10) ++ ((48 + n % 10) ∷ [])
unfolding decimal_in
decimal_digit k n h = rw (le-ltb n 10 h)

-- a number of one digit
pub decimal_last : (k n : ℕ) → n < 10 → decimal_in (suc k) n ≡ (48 + n) ∷ []
unfolding decimal_in
decimal_last k n h = rw (lt-ltb n 10 h)

-- of two, and of three
pub decimal_two : (k n : ℕ) → 10 ≤ n → n < 100 → decimal_in (suc (suc k)) n ≡ (48 + n / 10) ∷ (48 + n % 10) ∷ []
decimal_two k n low high =
    decimal_digit (suc k) n low ∙ ap (λ (l : List ℕ). l ++ ((48 + n % 10) ∷ [])) (decimal_last k (n / 10) (omega arith))

pub decimal_three : (k n : ℕ) → 100 ≤ n → n < 1000 → decimal_in (suc (suc (suc k))) n ≡ (48 + n / 100) ∷ (48 + n / 10 % 10) ∷ (48 + n % 10) ∷ []
decimal_three k n low high =
    let high_digit : n / 10 / 10 ≡ n / 100 = omega arith in
    decimal_digit (suc (suc k)) n (omega arith)
    ∙ ap (λ (l : List ℕ). l ++ ((48 + n % 10) ∷ [])) (decimal_two k (n / 10) (omega arith) (omega arith))
    ∙ ap (λ (d : ℕ). (48 + d) ∷ (48 + n / 10 % 10) ∷ (48 + n % 10) ∷ []) high_digit

-- a number of k + 1 digits, where there are places for them
length-places : (p k n : ℕ) → k < p → 10 ^ k ≤ n → n < 10 ^ suc k → length (decimal_in p n) ≡ suc k
length-places zero k n fits low high = absurd (omega arith)
length-places (suc p) zero n fits low high = ap length (decimal_last p n high)
length-places (suc p) (suc k) n fits low high =
    let tens = pow-suc 10 k in
    let more = pow-suc 10 (suc k) in
    let one : 1 ≤ 10 ^ k = one-le-pow k 10 (omega arith) in
    let ih : length (decimal_in p (n / 10)) ≡ suc k = length-places p k (n / 10) (omega arith) (omega arith) (omega arith) in
    ap length (decimal_digit p n (omega arith)) ∙ length-append (decimal_in p (n / 10)) ((48 + n % 10) ∷ []) ∙ omega arith

-- how many digits a number between two powers of ten has
pub counted : (k n : ℕ) → k < 10 → 10 ^ k ≤ n → n < 10 ^ suc k → (suc k ≡ length (decimal_in 10 n)) × (suc k ≤ 10)
counted k n fits low high = (sym (length-places 10 k n fits low high), omega arith)
