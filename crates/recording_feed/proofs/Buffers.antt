-- Parts of lent buffers: what a part of a buffer holds, and what is put at the start of one is laid over the whole.
use Prim.Native.Nat.{ℕ, ◌+◌, ◌-◌, ◌≤◌, ◌<◌}
use mathlib.Core.Path.{◌≡◌, sym, ap, ap₂, ◌∙◌}
use mathlib.Core.Bool.{cond}
use mathlib.Core.List.{List, [], ◌++◌, append-nil, append_assoc}
use native.Mathlib.Nat.{add-sub_cancel_left}
use native.Mathlib.Omega.{arith}
use lib.ListN.{length, take, drop, length-drop, drop_of_length-le}
use lib.Seq.{take_all, take-nil, drop-drop, length-take-le}
use lib.Dec.{leb}
use borrow.Rule.Slice.PartMut.{mid_of, put_mid}
use Rattle.rules.specs.Answer.{buffer_after}
use Rattle.wire.proofs.Puts.{put_count, put_over}
use Rattle.recording_texts.specs.Texts.{laid}

-- what is past the end of the bytes is not there
pub past_start : (bytes : List ℕ) (start count : ℕ) → length bytes < start → [] ≡ take count (drop start bytes)
past_start bytes start count h = sym (ap (take count) (drop_of_length-le bytes {i = start} (omega arith)) ∙ take-nil count)

pub past_end : (bytes : List ℕ) (start end : ℕ) → length bytes < end → take (length bytes - start) (drop start bytes) ≡ take (end - start) (drop start bytes)
past_end bytes start end h =
    take_all (length bytes - start) (drop start bytes) (rw length-drop (omega arith)) ∙ sym (take_all (end - start) (drop start bytes) (rw length-drop (omega arith)))

module _ (held : List ℕ) (at : ℕ) (there : at ≤ length held) where
  -- the part from a place on
  pub part-is : mid_of at (length held - at) held ≡ drop at held
  part-is = take_all (length held - at) (drop at held) (rw length-drop (omega arith))

  -- a text over the start of that part
  pub laid-part : (text : List ℕ) → put_mid at (length held - at) held (buffer_after text (mid_of at (length held - at) held)) ≡ laid held at text
  laid-part text =
      ap (λ (l : List ℕ). take at held ++ l)
      (ap₂ (λ (l m : List ℕ). (text ++ drop (length text) l) ++ m) part-is (drop_of_length-le (drop at held) {i = length held - at} (rw length-drop (omega arith)))
      ∙ append-nil (text ++ drop (length text) (drop at held))
      ∙ ap (λ (l : List ℕ). text ++ l) (drop-drop (length text) at held))
      ∙ sym (append_assoc (take at held) text (drop (at + length text) held))

  -- bytes that fit are put there
  module _ (text part' : List ℕ) (n : ℕ) (fits : at + length text ≤ length held)
      (count : n ≡ cond (leb (length text) (length (mid_of at (length held - at) held))) (length text) 0)
      (over : part' ≡ cond (leb (length text) (length (mid_of at (length held - at) held))) (buffer_after text (mid_of at (length held - at) held)) (mid_of at (length held - at) held)) where
    enough : length text ≤ length (mid_of at (length held - at) held)
    enough = rw (part-is, length-drop) (omega arith)

    pub laid-count : n ≡ length text
    laid-count = put_count text (mid_of at (length held - at) held) enough n count

    pub laid-over : put_mid at (length held - at) held part' ≡ laid held at text
    laid-over = ap (put_mid at (length held - at) held) (put_over text (mid_of at (length held - at) held) enough part' over) ∙ laid-part text

-- a part of other bytes put there
module _ (held other part' : List ℕ) (at from count n : ℕ) (fits : at + count ≤ length held) (there : from + count ≤ length other)
    (put : n ≡ cond (leb (length (take (from + count - from) (drop from other))) (length (mid_of at (length held - at) held))) (length (take (from + count - from) (drop from other))) 0)
    (over : part' ≡ cond (leb (length (take (from + count - from) (drop from other))) (length (mid_of at (length held - at) held)))
    (buffer_after (take (from + count - from) (drop from other)) (mid_of at (length held - at) held)) (mid_of at (length held - at) held)) where
  text-length : length (take (from + count - from) (drop from other)) ≡ count
  text-length = ap (λ (k : ℕ). length (take k (drop from other))) (add-sub_cancel_left from count) ∙ length-take-le count (drop from other) (rw length-drop (omega arith))

  pub part_count : n ≡ count
  part_count = laid-count held at (omega arith) (take (from + count - from) (drop from other)) part' n (omega (arith, text-length)) put over ∙ text-length

  pub part-laid : put_mid at (length held - at) held part' ≡ laid held at (take n (drop from other))
  part-laid =
      laid-over held at (omega arith) (take (from + count - from) (drop from other)) part' n (omega (arith, text-length)) put over
      ∙ ap (λ (k : ℕ). laid held at (take k (drop from other))) (add-sub_cancel_left from count ∙ sym part_count)
