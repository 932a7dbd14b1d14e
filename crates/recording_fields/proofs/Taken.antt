-- The status words of a body: how many, and which.
use Prim.Native.Nat.{ℕ, zero, suc, ◌+◌, ◌*◌, ◌/◌, ◌≤◌, ◌<◌, min}
use mathlib.Core.Path.{◌≡◌, refl, sym, ap, ap₂, ◌∙◌}
use mathlib.Core.List.{List, ◌++◌}
use native.Mathlib.Nat.{add-zero, add-suc, suc-add, zero-add, not-suc-le-zero, le_of_suc-le-suc}
use native.Mathlib.Omega.{arith}
use lib.ListN.{length, get_or, set, take, drop, length-take, length-drop, length-append, get_or-append}
use lib.Seq.{take-length, get_or-take, paste-suc, drop-drop, drop-append_seam}
use Rattle.std.proofs.lemmas.List.{get_or-drop}
use Rattle.rules.specs.Bytes.{u32_at}
use Rattle.rules.specs.Answer.{buffer_after}
use Rattle.rules.specs.Recording.{word_limit, words_from, words_in}

words_length : (body : List ℕ) (i n : ℕ) → length (words_from body i n) ≡ n
unfolding words_from
words_length body i zero = refl
words_length body i (suc n) = ap suc (words_length body (suc i) n)

words_from_at : (body : List ℕ) (i n j : ℕ) → j < n → get_or (words_from body i n) j 0 ≡ u32_at body (4 * (i + j))
unfolding words_from
words_from_at body i zero j h = absurd (not-suc-le-zero h)
words_from_at body i (suc n) zero h = ap (λ (k : ℕ). u32_at body (4 * k)) (sym (add-zero i))
words_from_at body i (suc n) (suc j) h =
    words_from_at body (suc i) n j (le_of_suc-le-suc h) ∙ ap (λ (k : ℕ). u32_at body (4 * k)) (suc-add i j ∙ sym (add-suc i j))

-- no more are taken than there is room for
pub taken-length : (body : List ℕ) → length (words_in body) ≡ min word_limit (length body / 4)
unfolding words_in
taken-length body = length-take word_limit (words_from body 0 (length body / 4)) ∙ ap (min word_limit) (words_length body 0 (length body / 4))

pub taken_at : (body : List ℕ) (i : ℕ) → i < word_limit → i < length body / 4 → get_or (words_in body) i 0 ≡ u32_at body (4 * i)
unfolding words_in
taken_at body i few h =
    get_or-take word_limit (words_from body 0 (length body / 4)) i 0 few
    ∙ words_from_at body 0 (length body / 4) i h
    ∙ ap (λ (k : ℕ). u32_at body (4 * k)) (zero-add i)

-- the four bytes that come are the word at its place, and those behind them are left
pub word_at : (body rest bytes more : List ℕ) (k : ℕ) → rest ≡ drop (4 * k) body → rest ≡ bytes ++ more → length bytes ≡ 4
    → (4 * k + 4 ≤ length body) × (u32_at bytes 0 ≡ u32_at body (4 * k)) × (more ≡ drop (4 * suc k) body)
word_at body rest bytes more k from is size = (
  omega (arith, ap length (sym from ∙ is), length-drop (4 * k) body, length-append bytes more),
  rw (at 0 (omega arith), at 1 (omega arith), at 2 (omega arith), at 3 (omega arith), add-zero),
  sym (drop-append_seam bytes more) ∙ ap₂ drop size (sym is ∙ from) ∙ drop-drop 4 (4 * k) body ∙ ap (λ (n : ℕ). drop n body) (omega arith),
)
  where
    at : (j : ℕ) → j < 4 → get_or bytes j 0 ≡ get_or body (4 * k + j) 0
    at j h = sym (get_or-append bytes more 0 j (omega arith)) ∙ ap (λ (l : List ℕ). get_or l j 0) (sym is ∙ from) ∙ get_or-drop (4 * k) body j 0

-- a word is put behind those that stand at the start of the memory
pub next_word : (held s : List ℕ) (i : ℕ) → suc i ≤ length held → suc i ≤ length s
    → set (take i s ++ drop i held) i (get_or s i 0) ≡ take (suc i) s ++ drop (suc i) held
next_word held s i h more = simp zero-add at (paste-suc held 0 s i 0 (simp zero-add h) more)

-- all are put
pub all_words : (held s : List ℕ) (i : ℕ) → i ≡ length s → take i s ++ drop i held ≡ buffer_after s held
all_words held s i all = rw all (ap (λ (l : List ℕ). l ++ drop (length s) held) (take-length s))
