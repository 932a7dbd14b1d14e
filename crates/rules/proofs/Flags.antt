-- The flag rules, once for every class and word: what an accepted pair of set and clear words leaves.
use Prim.Native.Nat.{ℕ, zero, suc, ◌*◌, ◌-◌, ◌/◌, ◌%◌, ◌^◌, ◌<◌, min, max}
use mathlib.Core.Path.{◌≡◌, refl, sym, ◌∙◌, ap, ap₂}
use mathlib.Core.Bool.{true, ◌&&◌}
use native.Mathlib.Nat.{div-div-eq-div-mul, pow-suc, mul_comm, le_of_suc-le-suc, not-suc-le-zero, zero-div}
use native.Mathlib.Omega.{arith}
use lib.Bits.{bit_and, bit_or, and_step, or_step, and_shr, or_shr}
use lib.Dec.{eqb, lit<}
use borrow.Author.Tests.{eqb-true}
use Rattle.rules.specs.Bytes.{bit_of}
use Rattle.rules.specs.Board.{mask_of}
use Rattle.rules.specs.Flags.{within, clear_mask_of, flags_good, new_word}
use Rattle.rules.proofs.Tests.{and_left, and_right}

-- what a set message leaves in a word, bit by bit
pub record FlagRules (class word old set clear : ℕ) : Type 0 where
  -- a bit outside the class mask that was 0 is 0
  pub only_mask : (k : ℕ) → k < 32 → bit_of k (mask_of class word) ≡ 0 → bit_of k old ≡ 0 → bit_of k (new_word old set clear) ≡ 0
  -- a bit that is named gets what was asked
  pub set-bits : (k : ℕ) → k < 32 → bit_of k set ≡ 1 → bit_of k (new_word old set clear) ≡ 1
  pub clear_bits : (k : ℕ) → k < 32 → bit_of k clear ≡ 1 → bit_of k (new_word old set clear) ≡ 0
  -- any other keeps its value
  pub others-kept : (k : ℕ) → k < 32 → bit_of k set ≡ 0 → bit_of k clear ≡ 0 → bit_of k (new_word old set clear) ≡ bit_of k old
  -- bit 28 is never stored
  pub no_bit_28 : bit_of 28 old ≡ 0 → bit_of 28 (new_word old set clear) ≡ 0

-- ---- single bits

bit_of-bit_and : (k a b : ℕ) → bit_of k (bit_and a b) ≡ min (bit_of k a) (bit_of k b)
bit_of-bit_and k a b = ap (λ (n : ℕ). n % 2) (and_shr a b k ∙ and_step (a / 2 ^ k) (b / 2 ^ k)) ∙ omega arith

bit_of-bit_or : (k a b : ℕ) → bit_of k (bit_or a b) ≡ max (bit_of k a) (bit_of k b)
bit_of-bit_or k a b = ap (λ (n : ℕ). n % 2) (or_shr a b k ∙ or_step (a / 2 ^ k) (b / 2 ^ k)) ∙ omega arith

-- a higher bit is a bit of the half
bit_half : (k x : ℕ) → bit_of (suc k) x ≡ bit_of k (x / 2)
bit_half k x =
    ap (λ (n : ℕ). n % 2) (ap (λ (d : ℕ). x / d) (pow-suc 2 k ∙ mul_comm (2 ^ k) 2) ∙ sym (div-div-eq-div-mul x 2 (2 ^ k)))

-- the complement, at any width
bit_not : (k n x : ℕ) → k < n → x < 2 ^ n → bit_of k (2 ^ n - 1 - x) ≡ 1 - bit_of k x
bit_not k zero x h f = absurd (not-suc-le-zero h)
bit_not zero (suc n) x h f = let p : 2 ^ suc n ≡ 2 ^ n * 2 = pow-suc 2 n in omega arith
bit_not (suc k) (suc n) x h f =
    let p : 2 ^ suc n ≡ 2 ^ n * 2 = pow-suc 2 n in
    let half : (2 ^ suc n - 1 - x) / 2 ≡ 2 ^ n - 1 - x / 2 = omega arith in
    let small : x / 2 < 2 ^ n = omega arith in
    bit_half k (2 ^ suc n - 1 - x) ∙ ap (bit_of k) half ∙ bit_not k n (x / 2) (le_of_suc-le-suc h) small
    ∙ ap (λ (b : ℕ). 1 - b) (sym (bit_half k x))

bit_zero : (k : ℕ) → bit_of k 0 ≡ 0
bit_zero k = ap (λ (n : ℕ). n % 2) (zero-div (2 ^ k))

-- a bit of the new word
new_bit : (k old set clear : ℕ) → k < 32 → clear < 2 ^ 32
    → bit_of k (new_word old set clear) ≡ min (max (bit_of k old) (bit_of k set)) (1 - bit_of k clear)
new_bit k old set clear h f =
    bit_of-bit_and k (bit_or old set) (4294967295 - clear)
    ∙ ap₂ min (bit_of-bit_or k old set) (bit_not k 32 clear h f)

-- bit 28 is in no mask
mask_no_28 : (class word : ℕ) → bit_of 28 (mask_of class word) ≡ 0
unfolding mask_of
mask_no_28 zero zero = refl
mask_no_28 zero (suc zero) = refl
mask_no_28 zero (suc (suc word)) = refl
mask_no_28 (suc zero) zero = refl
mask_no_28 (suc zero) (suc zero) = refl
mask_no_28 (suc zero) (suc (suc word)) = refl
mask_no_28 (suc (suc class)) word = refl

-- whatever the class and the word
pub flag_rules : (class word old set clear : ℕ) → clear < 2 ^ 32 → flags_good class word set clear ≡ true → FlagRules class word old set clear
flag_rules class word old set clear f good =
    let pair = and_left (within (mask_of class word) set && within (clear_mask_of class word) clear) (eqb (bit_and set clear) 0) good in
    let apart = eqb-true (bit_and set clear) 0 (and_right (within (mask_of class word) set && within (clear_mask_of class word) clear) (eqb (bit_and set clear) 0) good) in
    let inside = eqb-true (bit_and set (mask_of class word)) set (and_left (within (mask_of class word) set) (within (clear_mask_of class word) clear) pair) in
    let masked : (k : ℕ) → bit_of k set ≡ min (bit_of k set) (bit_of k (mask_of class word)) =
    λ k. ap (bit_of k) (sym inside) ∙ bit_of-bit_and k set (mask_of class word)
    in
    let one_only : (k : ℕ) → min (bit_of k set) (bit_of k clear) ≡ 0 = λ k. sym (bit_of-bit_and k set clear) ∙ ap (bit_of k) apart ∙ bit_zero k in
    let new : (k : ℕ) → k < 32 → bit_of k (new_word old set clear) ≡ min (max (bit_of k old) (bit_of k set)) (1 - bit_of k clear) =
    λ k h. new_bit k old set clear h f
    in
    record {
      only_mask = λ k h m o. let n = new k h in let i = masked k in omega arith;
      set-bits = λ k h s. let n = new k h in let d = one_only k in omega arith;
      clear_bits = λ k h c. let n = new k h in omega arith;
      others-kept = λ k h s c. let n = new k h in omega arith;
      no_bit_28 = λ o. let n = new 28 (lit< tt) in let i = masked 28 in let m = mask_no_28 class word in omega arith;
    }
