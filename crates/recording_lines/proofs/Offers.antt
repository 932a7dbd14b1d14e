-- The line of an offer: a word at the start of a line, and a name behind it, put into the part of the line that begins there, or laid over the line.
use Prim.Native.Nat.{ℕ, ◌+◌, ◌-◌, ◌≤◌}
use mathlib.Core.Path.{◌≡◌, sym, ap, ap₂, ◌∙◌, subst}
use mathlib.Core.Bool.{cond}
use mathlib.Core.List.{List, ◌++◌, append_assoc, append-nil}
use native.Mathlib.Nat.{zero-add}
use native.Mathlib.Omega.{arith}
use lib.ListN.{length, take, drop, length-append, length-drop, drop_of_length-le}
use lib.Seq.{take_all, take-append_seam, drop-append_seam, drop-drop}
use lib.Dec.{leb}
use borrow.Author.Tests.{le-leb}
use borrow.Rule.Slice.PartMut.{mid_of, put_mid}
use Rattle.rules.specs.Answer.{buffer_after}
use Rattle.recording_texts.specs.Names.{padded}
use Rattle.recording_texts.specs.Texts.{line_size, laid, has_room, printed, Printed}
use Rattle.wire.proofs.Puts.{put_over}
use Rattle.recording_texts.proofs.Lines.{text-short, text-is}
use Rattle.recording_texts.proofs.Printing.{all_printed}

module _ (line word once : List ℕ) (at : ℕ) (short : length word ≤ length line) (here : at ≡ length word) (put : once ≡ buffer_after word line) where
  long : length once ≡ length line
  long = ap length put ∙ length-append word (drop (length word) line) ∙ (let rest = length-drop (length word) line in omega arith)

  behind : drop at once ≡ drop (length word) line
  behind = ap₂ drop here put ∙ drop-append_seam word (drop (length word) line)

  few : length (drop at once) ≤ length once - at
  few = rw length-drop (omega arith)

  -- the part has all that the line held behind the word
  pub part-is : mid_of at (length once - at) once ≡ drop (length word) line
  part-is = take_all (length once - at) (drop at once) few ∙ behind

  pub put_behind : (name : List ℕ)
      → put_mid at (length once - at) once (buffer_after name (drop (length word) line)) ≡ buffer_after (word ++ name) line
  put_behind name =
      let rest = drop (length name) (drop (length word) line) in
      ap₂ (λ (l r : List ℕ). l ++ ((name ++ rest) ++ r)) (ap₂ take here put ∙ take-append_seam word (drop (length word) line))
      (drop_of_length-le (drop at once) few)
      ∙ ap (λ (l : List ℕ). word ++ l) (append-nil (name ++ rest))
      ∙ sym (append_assoc word name rest)
      ∙ ap (λ (l : List ℕ). (word ++ name) ++ l) (drop-drop (length name) (length word) line)
      ∙ ap (λ (k : ℕ). (word ++ name) ++ drop k line) (sym (length-append word name))

  pub offer_printed : (name text part' : List ℕ) (n : ℕ) → name ≡ text → length name ≡ n → line_size ≤ length line → length word + n ≤ line_size
      → part' ≡ cond (leb (length name) (length (mid_of at (length once - at) once))) (buffer_after name (mid_of at (length once - at) once)) (mid_of at (length once - at) once)
      → Printed line (printed (has_room line) (word ++ text)) (put_mid at (length once - at) once part') (at + n)
  offer_printed name text part' n is size room both over =
      let fits : length name ≤ length (drop (length word) line) = rw length-drop (omega arith) in
      let wrote = put_over name (drop (length word) line) fits part' (rw part-is at over) in
      let end : at + n ≡ length (word ++ name) = (let all = length-append word name in omega arith) in
      subst (λ (t : List ℕ). Printed line (printed (has_room line) (word ++ t)) (put_mid at (length once - at) once part') (at + n)) is
      (all_printed line (word ++ name) (has_room line) _ (at + n) (le-leb line_size (length line) room) end
      (ap (put_mid at (length once - at) once) wrote
      ∙ put_behind name
      ∙ ap (λ (k : ℕ). (word ++ name) ++ drop k line) (sym (zero-add (length (word ++ name)))))
      (omega arith))

-- as many of the text's eight bytes as it has, however that number is written
pub offer_laid : (line word name bytes after : List ℕ) (count size end : ℕ) → line_size ≤ length line → length word + 8 ≤ line_size
    → length bytes ≡ 8 → bytes ≡ padded name → count ≡ length name → count ≡ size
    → end ≡ length (word ++ take size bytes) → after ≡ laid line 0 (word ++ take size bytes)
    → Printed line (printed (has_room line) (word ++ name)) after end
offer_laid line word name bytes after count size end room short eight all long same e a =
    let few = text-short name all long eight in
    let is : take size bytes ≡ name = rw same at (text-is name all long) in
    let sum = length-append word name in
    let here : end ≡ length (word ++ name) = rw is at e in
    all_printed line (word ++ name) (has_room line) after end (le-leb line_size (length line) room) here (rw is at a) (omega arith)
