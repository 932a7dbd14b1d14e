-- What is told of a tagged field is what the rules find there.
use Prim.Native.Nat.{ℕ, ◌+◌, ◌*◌, ◌-◌, ◌≤◌}
use mathlib.Core.Path.{◌≡◌, refl, sym, ap, ap₂, ◌∙◌}
use mathlib.Core.Bool.{true, false, cond}
use mathlib.Core.List.{List}
use mathlib.Core.Logic.{⊎_elim}
use native.Mathlib.Nat.{add-zero}
use native.Mathlib.Omega.{arith}
use lib.ListN.{length, get_or, drop, length-drop}
use lib.Seq.{get_or-drop}
use Rattle.rules.specs.declared.Found.{Found}
use Rattle.rules.specs.declared.Found.TheVariants.{Whole, Bad, Partial, Nothing}
use Rattle.rules.specs.Bytes.{byte_at, u16_at}
use Rattle.rules.specs.Recording.{tag_good, length_good, found, is_whole}
use Rattle.rules.proofs.Tests.{decide, clash, cond-true, cond-false}
use Rattle.rules.proofs.Recording.{found_nothing, found-bad_tag, found-tag, found-bad_length, found-head, found-whole, Finding, nothing, bad_tag, bad_length, tag_alone, head_alone, whole, finding}
use Rattle.wire.specs.declared.tagged.Tagged.{Tagged}
use Rattle.wire.specs.declared.tagged.Tagged.TheVariants.{End, Tag, Head, Field}
use Rattle.wire.specs.Tagged.{length_at, tagged_at}
use Rattle.wire.proofs.Fields.{tagged_cases}

-- a tagged field, its tag and length judged
abbrev pub judged : Tagged → Found
judged End = Nothing
judged (Tag tag) = cond (tag_good tag) Partial Bad
judged (Head tag n) = cond (length_good tag n) Partial Bad
judged (Field tag n) = cond (length_good tag n) (Whole tag n) Bad

module _ (bytes : List ℕ) (at : ℕ) where
  abbrev there : List ℕ
  there = drop at bytes

  left : length there ≡ length bytes - at
  left = length-drop at bytes

  tag_is : byte_at there 0 ≡ byte_at bytes at
  tag_is = get_or-drop at bytes 0 0 ∙ ap (λ (i : ℕ). get_or bytes i 0) (add-zero at)

  length-is : u16_at there 1 ≡ length_at bytes at
  length-is = ap₂ (λ (x y : ℕ). x + 256 * y) (get_or-drop at bytes 1 0) (get_or-drop at bytes 2 0 ∙ ap (λ (i : ℕ). get_or bytes i 0) (omega arith))

  -- the rules find at a place what its tagged field comes to
  pub judged-found : judged (tagged_at bytes at) ≡ found there
  judged-found =
      tagged_cases bytes at (λ (x : Tagged). judged x ≡ found there)
      (λ h. sym (found_nothing there (left ∙ omega arith)))
      (λ some short. ⊎_elim
      (λ t. cond-true _ _ t ∙ sym (found-tag there (rw left (omega arith)) (ap tag_good tag_is ∙ t) (rw left (omega arith))))
      (λ f. cond-false _ _ f ∙ sym (found-bad_tag there (rw left (omega arith)) (ap tag_good tag_is ∙ f))) (decide (tag_good (byte_at bytes at))))
      (λ three cut. ⊎_elim
      (λ t. cond-true _ _ t ∙ sym (found-head there (rw left (omega arith)) (good ∙ t) (rw (left, length-is) (omega arith))))
      (λ f. cond-false _ _ f ∙ sym (found-bad_length there (rw left (omega arith)) (good ∙ f))) (decide (length_good (byte_at bytes at) (length_at bytes at))))
      (λ fits. ⊎_elim
      (λ t. cond-true _ _ t ∙ sym (found-whole there (rw left (omega arith)) (good ∙ t) (rw (left, length-is) (omega arith)) ∙ ap₂ (λ (x y : ℕ). Whole x y) tag_is length-is))
      (λ f. cond-false _ _ f ∙ sym (found-bad_length there (rw left (omega arith)) (good ∙ f))) (decide (length_good (byte_at bytes at) (length_at bytes at))))
    where
      good : length_good (byte_at there 0) (u16_at there 1) ≡ length_good (byte_at bytes at) (length_at bytes at)
      good = ap₂ length_good tag_is length-is

  -- as `find` tells it
  pub finds : {told is : Tagged} → told ≡ tagged_at bytes at → told ≡ is → judged is ≡ found there
  finds read same = ap judged (sym same ∙ read) ∙ judged-found

  -- a field that is found whole ends within the bytes
  pub whole-ends : (tag n : ℕ) → Whole tag n ≡ found there → at + 3 + n ≤ length bytes
  whole-ends tag n is = ends (found there) (finding there) is
    where
      other : {f : Found} → is_whole f ≡ false → Whole tag n ≡ f → ⊥
      other no_field e = clash {x = true} refl (ap is_whole e ∙ no_field)

      ends : (f : Found) → Finding there f → Whole tag n ≡ f → at + 3 + n ≤ length bytes
      ends f (nothing none) e = absurd (other refl e)
      ends f (bad_tag some bad) e = absurd (other refl e)
      ends f (bad_length three bad) e = absurd (other refl e)
      ends f (tag_alone some good short) e = absurd (other refl e)
      ends f (head_alone three good cut) e = absurd (other refl e)
      ends f (whole three good fits) e = let size : n ≡ u16_at there 1 = cc in omega (arith, left)
