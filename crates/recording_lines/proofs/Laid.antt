-- Text laid over a buffer: one more byte, and one more piece.
use Prim.Native.Nat.{ℕ, suc, ◌+◌, ◌*◌, ◌/◌, ◌%◌, ◌≤◌, ◌<◌}
use mathlib.Core.Path.{◌≡◌, refl, sym, ap, ap₂, ◌∙◌}
use mathlib.Core.List.{List, [], ◌∷◌, ◌++◌, append_assoc}
use native.Mathlib.Nat.{add_assoc, mod-eq_of_lt}
use native.Mathlib.Omega.{arith}
use lib.ListN.{length, get_or, set, take, drop, length-append, length-set}
use lib.Seq.{get_or-set_same, drop-set-lt, take-set-le, set_at, drop-cons, drop-drop, take_at, take-suc, append_snoc, length-take-le, drop-append-add}
use mathlib.Core.Logic.{⊎_elim}
use lib.Dec.{eqb}
use Rattle.rules.proofs.Tests.{decide}
use Rattle.rules.specs.Text.{hex_of, glyph, answer_text}
use Rattle.recording_texts.specs.Texts.{laid}
use Rattle.rules.specs.Message.{largest_answer}

-- a piece before the laid text, as long as the place
head_length : (d : List ℕ) (at : ℕ) (t : List ℕ) → at + length t ≤ length d → length (take at d ++ t) ≡ at + length t
head_length d at t h =
    length-append (take at d) t ∙ ap (λ (n : ℕ). n + length t) (length-take-le at d (omega arith))

-- a text with one more byte, and what was held behind it
laid-snoc : (d : List ℕ) (at : ℕ) (t : List ℕ) (x : ℕ)
    → take at d ++ t ++ (x ∷ drop (suc (at + length t)) d) ≡ laid d at (t ++ (x ∷ []))
laid-snoc d at t x =
    sym (append_snoc (take at d ++ t) x (drop (suc (at + length t)) d))
    ∙ ap (λ (r : List ℕ). r ++ drop (suc (at + length t)) d) (append_assoc (take at d) t (x ∷ []))
    ∙ ap (λ (n : ℕ). take at d ++ (t ++ (x ∷ [])) ++ drop n d) (size ∙ sym (ap (λ (n : ℕ). at + n) (length-append t (x ∷ []))))
  where
    size : suc (at + length t) ≡ at + (length t + 1)
    size = omega arith

-- one more byte behind the text
pub laid_more : (d : List ℕ) (at : ℕ) (t : List ℕ) (x : ℕ) → at + length t < length d
    → set (laid d at t) (at + length t) x ≡ laid d at (t ++ (x ∷ []))
laid_more d at t x h =
    ap (λ (r : List ℕ). set (take at d ++ t ++ r) (at + length t) x) (drop-cons d (at + length t) 0 h)
    ∙ set_at (take at d ++ t) (get_or d (at + length t) 0) (drop (suc (at + length t)) d) x (at + length t) (head_length d at t (omega arith))
    ∙ laid-snoc d at t x

-- the same, of a line that is known to hold the text, and the place behind the byte
pub laid_end : (held once : List ℕ) (at n : ℕ) (t : List ℕ) (x : ℕ) → at + length t < length held
    → n ≡ length t → once ≡ laid held at t
    → (at + n + 1 ≡ at + length (t ++ (x ∷ []))) × (set once (at + n) x ≡ laid held at (t ++ (x ∷ [])))
laid_end held once at n t x fits size o =
    let long = length-append t (x ∷ []) in (
      omega arith,
      ap₂ (λ (l : List ℕ) (k : ℕ). set l (at + k) x) o size ∙ laid_more held at t x fits,
    )

-- a byte put at place j heads what stands from there on
drop-set : (l : List ℕ) (j x : ℕ) → j < length l → drop j (set l j x) ≡ x ∷ drop (suc j) l
drop-set l j x h =
    drop-cons (set l j x) j 0 (simp length-set h)
    ∙ ap (λ (y : ℕ). y ∷ drop (suc j) (set l j x)) (get_or-set_same l j x 0 h)
    ∙ ap (λ (r : List ℕ). x ∷ r) (drop-set-lt (suc j) l j x (omega arith))

-- the last byte of a text, put before the others
pub laid-last : (d : List ℕ) (at : ℕ) (t : List ℕ) (x : ℕ) → at + length t < length d
    → laid (set d (at + length t) x) at t ≡ laid d at (t ++ (x ∷ []))
laid-last d at t x h =
    ap₂ (λ (l r : List ℕ). l ++ t ++ r) (take-set-le at d (at + length t) x (omega arith)) (drop-set d (at + length t) x h)
    ∙ laid-snoc d at t x

-- a second piece, laid behind the first
pub laid-twice : (d : List ℕ) (at : ℕ) (t u : List ℕ) → at + length t + length u ≤ length d
    → laid (laid d at t) (at + length t) u ≡ laid d at (t ++ u)
laid-twice d at t u h =
    let head = take at d ++ t in
    let long = head_length d at t (omega arith) in
    let rest = drop (at + length t) d in
    ap (λ (l : List ℕ). l ++ u ++ drop (at + length t + length u) (head ++ rest)) (take_at head rest (at + length t) long)
    ∙ ap (λ (n : ℕ). head ++ u ++ drop (n + length u) (head ++ rest)) (sym long)
    ∙ ap (λ (l : List ℕ). head ++ u ++ l) (drop-append-add head rest (length u) ∙ drop-drop (length u) (at + length t) d)
    ∙ ap (λ (l : List ℕ). l ++ drop (at + length t + length u) d) (append_assoc (take at d) t u)
    ∙ ap (λ (n : ℕ). take at d ++ (t ++ u) ++ drop n d) (add_assoc at (length t) (length u) ∙ ap (λ (n : ℕ). at + n) (sym (length-append t u)))

-- one more byte of a list that is copied
pub laid_next : (d s : List ℕ) (at i : ℕ) → at + length s ≤ length d → i < length s
    → set (laid d at (take i s)) (at + i) (get_or s i 0) ≡ laid d at (take (suc i) s)
laid_next d s at i h more =
    let long : length (take i s) ≡ i = length-take-le i s (omega arith) in
    ap (λ (n : ℕ). set (laid d at (take i s)) (at + n) (get_or s i 0)) (sym long)
    ∙ laid_more d at (take i s) (get_or s i 0) (rw long (omega arith))
    ∙ ap (laid d at) (sym (take-suc s i 0 more))

-- ---- hexadecimal

pub length-hex : (s : List ℕ) → length (hex_of s) ≡ 2 * length s
unfolding hex_of
length-hex [] = refl
length-hex (b ∷ s) = let ih = length-hex s in omega arith

hex_append : (s t : List ℕ) → hex_of (s ++ t) ≡ hex_of s ++ hex_of t
unfolding hex_of
hex_append [] t = refl
hex_append (b ∷ s) t = ap (λ (l : List ℕ). glyph (b / 16) ∷ glyph (b % 16) ∷ l) (hex_append s t)

-- the high digit of a byte is the last digit of its sixteenth
pub high_digit : (b : ℕ) → b < 256 → glyph (b / 16 % 16) ≡ glyph (b / 16)
high_digit b small = let below : b / 16 < 16 = omega arith in ap (λ (n : ℕ). glyph n) (mod-eq_of_lt below)

-- the two digits of one more byte
pub laid-hex : (d s : List ℕ) (at i : ℕ) → at + 2 * length s ≤ length d → i < length s
    → set (set (laid d at (hex_of (take i s))) (at + 2 * i) (glyph (get_or s i 0 / 16))) (at + 2 * i + 1) (glyph (get_or s i 0 % 16))
    ≡ laid d at (hex_of (take (suc i) s))
unfolding hex_of
laid-hex d s at i h more =
    let b = get_or s i 0 in
    let t = hex_of (take i s) in
    let size : length t ≡ 2 * i = length-hex (take i s) ∙ ap (λ (n : ℕ). 2 * n) (length-take-le i s (omega arith)) in
    let size2 : length (t ++ (glyph (b / 16) ∷ [])) ≡ 2 * i + 1 = length-append t (glyph (b / 16) ∷ []) ∙ ap (λ (n : ℕ). n + 1) size in
    ap (λ (n : ℕ). set (set (laid d at t) (at + n) (glyph (b / 16))) (at + 2 * i + 1) (glyph (b % 16))) (sym size)
    ∙ ap (λ (l : List ℕ). set l (at + 2 * i + 1) (glyph (b % 16))) (laid_more d at t (glyph (b / 16)) (omega arith))
    ∙ ap (λ (n : ℕ). set (laid d at (t ++ (glyph (b / 16) ∷ []))) n (glyph (b % 16))) (add_assoc at (2 * i) 1 ∙ ap (λ (n : ℕ). at + n) (sym size2))
    ∙ laid_more d at (t ++ (glyph (b / 16) ∷ [])) (glyph (b % 16)) (omega arith)
    ∙ ap (laid d at)
    (append_assoc t (glyph (b / 16) ∷ []) (glyph (b % 16) ∷ [])
    ∙ sym (hex_append (take i s) (b ∷ []))
    ∙ ap hex_of (sym (take-suc s i 0 more)))

-- ---- two pieces laid one behind the other

pub laid_both : (held once after : List ℕ) (at next end : ℕ) (t u : List ℕ) → at + length t + length u ≤ length held
    → next ≡ at + length t → once ≡ laid held at t → end ≡ next + length u → after ≡ laid once next u
    → (end ≡ at + length (t ++ u)) × (after ≡ laid held at (t ++ u))
laid_both held once after at next end t u fits n o e a = (
  e
      ∙ ap (λ (k : ℕ). k + length u) n
      ∙ add_assoc at (length t) (length u)
      ∙ ap (λ (k : ℕ). at + k) (sym (length-append t u)),
  a ∙ ap₂ (λ (l : List ℕ) (k : ℕ). laid l k u) o n ∙ laid-twice held at t u fits,
)

-- ---- how long an answer is

pub answer_short : (bytes : List ℕ) → length bytes ≤ largest_answer → length (answer_text bytes) ≤ 58
unfolding answer_text
answer_short bytes h =
    ⊎_elim (λ t. rw t (omega arith)) (λ f. rw f (let size = length-hex bytes in omega arith)) (decide (eqb (length bytes) 0))
