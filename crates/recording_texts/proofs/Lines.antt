-- The lines of verdicts, byte by byte.
use Prim.Native.Nat.{ℕ, ◌+◌, ◌-◌, ◌/◌, ◌%◌, ◌≤◌, ◌<◌}
use mathlib.Core.Path.{◌≡◌, refl, sym, ap, ap₂, ◌∙◌}
use mathlib.Core.List.{List, [], ◌∷◌, ◌++◌}
use native.Mathlib.Omega.{arith}
use lib.ListN.{length, take, replicate, length-append, length-replicate}
use lib.Seq.{take-append_seam}
use Rattle.rules.specs.declared.Fault.{Fault}
use Rattle.rules.specs.declared.Fault.TheVariants.{A1, A2, A3, A4, A5, A6, A7, A8, B1, B2, B3, B4, B5, B6, B7, B8, B9, B10, D1, D2, D3, D4, D5, D6}
use Rattle.rules.specs.Verdict.{fault_number}
use Rattle.rules.specs.Text.{decimal_in, decimal_of, verdict_letter, verdict_line}
use Rattle.recording_texts.proofs.Digits.{decimal_last, decimal_two, decimal_three}
use Rattle.recording_texts.specs.Names.{loop_line, padded}

-- ---- B8, by the digits of its host

loop-digits : (host : ℕ) (digits : List ℕ) → decimal_of host ≡ digits → loop_line host ≡ 66 ∷ 56 ∷ 32 ∷ (digits ++ (10 ∷ []))
unfolding decimal_in
loop-digits host digits is = ap (λ (l : List ℕ). 66 ∷ 56 ∷ 32 ∷ (l ++ (10 ∷ []))) is

pub loop-one : (host : ℕ) → host < 10 → loop_line host ≡ 66 ∷ 56 ∷ 32 ∷ (48 + host % 10) ∷ 10 ∷ []
loop-one host small =
    let own : host ≡ host % 10 = omega arith in
    loop-digits host ((48 + host % 10) ∷ []) (decimal_last 9 host small ∙ ap (λ (d : ℕ). (48 + d) ∷ []) own)

pub loop-two : (host : ℕ) → 10 ≤ host → host < 100 → loop_line host ≡ 66 ∷ 56 ∷ 32 ∷ (48 + host / 10 % 10) ∷ (48 + host % 10) ∷ 10 ∷ []
loop-two host low high =
    let tens : host / 10 ≡ host / 10 % 10 = omega arith in
    loop-digits host ((48 + host / 10 % 10) ∷ (48 + host % 10) ∷ [])
    (decimal_two 8 host low high ∙ ap (λ (d : ℕ). (48 + d) ∷ (48 + host % 10) ∷ []) tens)

pub loop-three : (host : ℕ) → 100 ≤ host → host < 256
    → loop_line host ≡ 66 ∷ 56 ∷ 32 ∷ (48 + host / 100) ∷ (48 + host / 10 % 10) ∷ (48 + host % 10) ∷ 10 ∷ []
loop-three host low high =
    loop-digits host ((48 + host / 100) ∷ (48 + host / 10 % 10) ∷ (48 + host % 10) ∷ []) (decimal_three 7 host low (omega arith))

-- ---- any other

pub ten_line : (host : ℕ) → verdict_line 110 host ≡ 66 ∷ 49 ∷ 48 ∷ 10 ∷ []
unfolding decimal_in
ten_line host = refl

pub plain_line : (fault : Fault) (host : ℕ) → ((h : ℕ) → fault ≡ B8 h → ⊥) → (fault ≡ B10 → ⊥)
    → verdict_line (fault_number fault) host ≡ verdict_letter (fault_number fault) ∷ (48 + fault_number fault % 10) ∷ 10 ∷ []
unfolding decimal_in
plain_line A1 host no_loop no-ten = refl
plain_line A2 host no_loop no-ten = refl
plain_line A3 host no_loop no-ten = refl
plain_line A4 host no_loop no-ten = refl
plain_line A5 host no_loop no-ten = refl
plain_line A6 host no_loop no-ten = refl
plain_line A7 host no_loop no-ten = refl
plain_line A8 host no_loop no-ten = refl
plain_line B1 host no_loop no-ten = refl
plain_line B2 host no_loop no-ten = refl
plain_line B3 host no_loop no-ten = refl
plain_line B4 host no_loop no-ten = refl
plain_line B5 host no_loop no-ten = refl
plain_line B6 host no_loop no-ten = refl
plain_line B7 host no_loop no-ten = refl
plain_line (B8 h) host no_loop no-ten = absurd (no_loop h refl)
plain_line B9 host no_loop no-ten = refl
plain_line B10 host no_loop no-ten = absurd (no-ten refl)
plain_line D1 host no_loop no-ten = refl
plain_line D2 host no_loop no-ten = refl
plain_line D3 host no_loop no-ten = refl
plain_line D4 host no_loop no-ten = refl
plain_line D5 host no_loop no-ten = refl
plain_line D6 host no_loop no-ten = refl

-- a text told as its eight bytes and their number
pub told : {line bytes : List ℕ} {count : ℕ} (text : List ℕ) → line ≡ text → bytes ≡ padded text → count ≡ length text → (bytes ≡ padded line) × (count ≡ length line)
told text is bytes count = (bytes ∙ ap padded (sym is), count ∙ ap length (sym is))

-- ---- read back: of the eight bytes as many as there are

module _ (line : List ℕ) {bytes : List ℕ} {count : ℕ} (all : bytes ≡ padded line) (size : count ≡ length line) where
  pub text-short : length bytes ≡ 8 → count ≤ 8
  text-short whole =
      let sum = ap length all ∙ length-append line (replicate (8 - length line) 0) in
      let rest = length-replicate {A = ℕ} (8 - length line) 0 in
      omega arith

  pub text-is : take count bytes ≡ line
  text-is = ap₂ take size all ∙ take-append_seam line (replicate (8 - length line) 0)
