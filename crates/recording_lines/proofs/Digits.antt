-- The decimal digits of a number: how many there are at most, and how they are laid over a line from the last on.
use Prim.Native.Nat.{ℕ, zero, suc, ◌+◌, ◌-◌, ◌/◌, ◌%◌, ◌≤◌, ◌<◌}
use mathlib.Core.Path.{◌≡◌, refl, sym, ap, ap₂, ◌∙◌}
use mathlib.Core.List.{List, [], ◌∷◌, ◌++◌}
use mathlib.Core.Logic.{⊎_elim}
use native.Mathlib.Nat.{add-zero, mod-eq_of_lt}
use native.Mathlib.Numerals.{add-one}
use native.Mathlib.Omega.{arith}
use lib.Dec.{ltb}
use lib.ListN.{length, set, length-append}
use borrow.Author.Tests.{ltb-true}
use Rattle.rules.proofs.Tests.{decide}
use Rattle.rules.specs.Text.{decimal_in}
use Rattle.recording_texts.proofs.Digits.{decimal_last}
use Rattle.recording_texts.specs.Texts.{laid}
use Rattle.recording_texts.proofs.Printing.{laid_none}
use Rattle.recording_lines.proofs.Laid.{laid_more, laid-last}

-- ---- how many there are at most

-- no more digits than places
length-decimal : (k n : ℕ) → length (decimal_in k n) ≤ k
unfolding decimal_in
length-decimal zero n = omega arith
length-decimal (suc k) n =
    ⊎_elim (λ t. rw t (omega arith))
    (λ f.
    rw f
    (let ih = length-decimal k (n / 10) in omega (arith, length-append (decimal_in k (n / 10)) ((48 + n % 10) ∷ []))))
    (decide (ltb n 10))

-- a number and the space behind it take at most eleven bytes
pub number_short : (n : ℕ) → length (decimal_in 10 n ++ (32 ∷ [])) ≤ 11
number_short n = let few = length-decimal 10 n in omega (arith, length-append (decimal_in 10 n) (32 ∷ []))

-- ---- laid over a line, from the last on

-- a number of one digit, and the space behind it
pub laid-digit : (d : List ℕ) (at n : ℕ) → at + 2 ≤ length d → n < 10
    → (at + 2 ≡ at + length (decimal_in 10 n ++ (32 ∷ [])))
    × (set (set d at (48 + n)) (at + 1) 32 ≡ laid d at (decimal_in 10 n ++ (32 ∷ [])))
laid-digit d at n fits small =
    rw (decimal_last 9 n small) (
      refl,
      ap₂ (λ (l : List ℕ) (k : ℕ). set (set l k (48 + n)) (at + 1) 32) (laid_none d at) (sym (add-zero at))
          ∙ ap (λ (l : List ℕ). set l (at + 1) 32) (laid_more d at [] (48 + n) (omega arith))
          ∙ laid_more d at ((48 + n) ∷ []) 32 (omega arith),
    )

-- the last k digits of a number
unfoldable pub last_digits : ℕ → ℕ → List ℕ
last_digits zero n = []
last_digits (suc k) n = last_digits k (n / 10) ++ ((48 + n % 10) ∷ [])

length_last : (k n : ℕ) → length (last_digits k n) ≡ k
unfolding last_digits
length_last zero n = refl
length_last (suc k) n = length-append (last_digits k (n / 10)) ((48 + n % 10) ∷ []) ∙ (let ih = length_last k (n / 10) in omega arith)

-- all digits of a number are its last ones, as many as there are
pub last-all : (k n : ℕ) → last_digits (length (decimal_in k n)) n ≡ decimal_in k n
unfolding decimal_in last_digits
last-all zero n = refl
last-all (suc k) n =
    ⊎_elim (λ t. rw t (ap (λ (m : ℕ). (48 + m) ∷ []) (mod-eq_of_lt (ltb-true n 10 t))))
    (λ f.
    rw f
    (ap (λ (m : ℕ). last_digits m n) (length-append (decimal_in k (n / 10)) ((48 + n % 10) ∷ []) ∙ add-one _)
    ∙ ap (λ (l : List ℕ). l ++ ((48 + n % 10) ∷ [])) (last-all k (n / 10))))
    (decide (ltb n 10))

-- one turn of the loop that lays digits: the others, laid over a line that has the last
pub laid-lower : (d : List ℕ) (at i n : ℕ) → 0 < i → at + i ≤ length d
    → laid (set d (at + (i - 1)) (48 + n % 10)) at (last_digits (i - 1) (n / 10)) ≡ laid d at (last_digits i n)
unfolding last_digits
laid-lower d at i n h fits =
    let x = 48 + n % 10 in
    let t = last_digits (i - 1) (n / 10) in
    let size : length t ≡ i - 1 = length_last (i - 1) (n / 10) in
    let count : suc (i - 1) ≡ i = omega arith in
    ap (λ (m : ℕ). laid (set d (at + m) x) at t) (sym size)
    ∙ laid-last d at t x (omega arith)
    ∙ ap (λ (m : ℕ). laid d at (last_digits m n)) count
