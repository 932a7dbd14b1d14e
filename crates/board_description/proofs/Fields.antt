-- Laws of one field: what the code's tests say of it, and the item that it holds.
use Prim.Native.Nat.{ℕ, ◌+◌, ◌-◌, ◌*◌, ◌≤◌, ◌<◌}
use native.Mathlib.Nat.{add-zero}
use native.Mathlib.Omega.{arith}
use mathlib.Core.Path.{◌≡◌, refl, sym, ap, ap₂, ◌∙◌}
use mathlib.Core.Bool.{Bool, true, false, cond, ◌&&◌}
use mathlib.Core.List.{List}
use mathlib.Core.Logic.{⊎_elim}
use lib.ListN.{length, take, drop, length-drop}
use lib.Seq.{take_all, get_or-drop, drop-drop}
use lib.Dec.{eqb, ltb, leb}
use borrow.Author.Tests.{ltb-false, le-leb, lt-leb, eq-eqb, ne_eqb, eqb-true, leb-true}
use Rattle.rules.specs.declared.Item.{Item}
use Rattle.rules.specs.Bytes.{byte_at, u16_at}
use Rattle.rules.specs.Description.{processor_tag, body_size, field_good, no_item, item_in, field_size}
use Rattle.rules.proofs.Tests.{decide, clash, cond-true, cond-false, and_right}
use Rattle.wire.specs.declared.tagged.Tagged.{Tagged}
use Rattle.wire.specs.declared.tagged.Tagged.TheVariants.{End, Tag, Head, Field}
use Rattle.wire.specs.Tagged.{length_at, tagged_at}
use Rattle.wire.proofs.Fields.{tagged_cases, field_at}

-- ---- a good field, as it is told: its tag is good, and so is its length

abbrev good_size : ℕ → ℕ → Bool
good_size tag n = ltb 0 (body_size tag) && eqb n (body_size tag)

abbrev good_in : Tagged → Bool
good_in End = false
good_in (Tag tag) = false
good_in (Head tag n) = false
good_in (Field tag n) = good_size tag n

cut : (g x : Bool) → (g ≡ true → x ≡ false) → (g && x) ≡ false
cut true x h = h refl
cut false x h = refl

fits : (g x : Bool) → (g ≡ true → x ≡ true) → (g && x) ≡ g
fits true x h = h refl
fits false x h = refl

module _ (bytes : List ℕ) (at : ℕ) where
  tag_there : byte_at (drop at bytes) 0 ≡ byte_at bytes at
  tag_there = get_or-drop at bytes 0 0 ∙ ap (byte_at bytes) (add-zero at)

  length-there : u16_at (drop at bytes) 1 ≡ length_at bytes at
  length-there =
      let next : at + 2 ≡ at + 1 + 1 = omega arith in
      ap₂ (λ (x y : ℕ). x + 256 * y) (get_or-drop at bytes 1 0) (get_or-drop at bytes 2 0 ∙ ap (byte_at bytes) next)

  module _ (tag n : ℕ) (tagged : tag ≡ byte_at bytes at) (sized : n ≡ length_at bytes at) where
    seen : field_good (drop at bytes) ≡ (good_size tag n && leb (3 + body_size tag) (length bytes - at))
    unfolding field_good
    seen = rw (tagged, sized, tag_there, length-there, length-drop at bytes)

    same_size : good_size tag n ≡ true → n ≡ body_size tag
    same_size g = eqb-true n (body_size tag) (and_right (ltb 0 (body_size tag)) _ g)

    -- a field that is cut is not good, and a whole one is where its tag and length are
    cut_field : length bytes < at + 3 + n → field_good (drop at bytes) ≡ false
    cut_field h = seen ∙ cut _ _ (λ g. let same = same_size g in lt-leb (3 + body_size tag) (length bytes - at) (omega arith))

    whole-field : at + 3 + n ≤ length bytes → field_good (drop at bytes) ≡ good_size tag n
    whole-field h = seen ∙ fits _ _ (λ g. let same = same_size g in le-leb (3 + body_size tag) (length bytes - at) (omega arith))

  field_judged : field_good (drop at bytes) ≡ good_in (tagged_at bytes at)
  field_judged =
      tagged_cases bytes at (λ (x : Tagged). field_good (drop at bytes) ≡ good_in x) (λ h. cut_field _ _ refl refl (omega arith))
      (λ some h. cut_field _ _ refl refl (omega arith)) (λ three h. cut_field _ _ refl refl h) (whole-field _ _ refl refl)

  -- the body, as the code cuts it out
  body_there : (k : ℕ) → byte_at (take (length bytes - (at + 3)) (drop (at + 3) bytes)) k ≡ byte_at (drop at bytes) (3 + k)
  body_there k =
      ap (λ (l : List ℕ). byte_at l k)
      (take_all (length bytes - (at + 3)) (drop (at + 3) bytes) (omega (arith, length-drop (at + 3) bytes)) ∙ sym (drop-drop 3 at bytes))
      ∙ get_or-drop 3 (drop at bytes) k 0

-- ---- what the code's tests say

not_field : (told : Tagged) → ((tag n : ℕ) → told ≡ Field tag n → ⊥) → good_in told ≡ false
not_field End other = refl
not_field (Tag tag) other = refl
not_field (Head tag n) other = refl
not_field (Field tag n) other = absurd (other tag n refl)

module _ (bytes : List ℕ) (at : ℕ) {told : Tagged} (read : told ≡ tagged_at bytes at) where
  no_item_lem : good_in told ≡ false → no_item ≡ item_in (drop at bytes)
  unfolding item_in
  no_item_lem bad = sym (cond-false _ _ (field_judged bytes at ∙ ap good_in (sym read) ∙ bad))

  pub none_whole : ((tag n : ℕ) → told ≡ Field tag n → ⊥) → no_item ≡ item_in (drop at bytes)
  none_whole other = no_item_lem (not_field told other)

  module _ {tag n : ℕ} (is : told ≡ Field tag n) where
    pub field_ends : at + 3 + n ≤ length bytes
    field_ends = (field_at bytes at tag n (sym is ∙ read)).ends

    module _ {size : ℕ} (sized : size ≡ body_size tag) where
      pub none-tag : size ≡ 0 → no_item ≡ item_in (drop at bytes)
      none-tag none = no_item_lem (ap good_in is ∙ rw (sym sized ∙ none))

      pub none-length : (n ≡ size → ⊥) → no_item ≡ item_in (drop at bytes)
      none-length other = no_item_lem (ap good_in is ∙ cut (ltb 0 (body_size tag)) _ (λ _. ne_eqb n (body_size tag) (λ e. other (e ∙ sym sized))))

      module _ (some : size ≡ 0 → ⊥) (same : n ≡ size) where
        good : good_size tag n ≡ true
        good =
            ⊎_elim (λ (t : ltb 0 (body_size tag) ≡ true). rw (t, eq-eqb n (body_size tag) (same ∙ sized)))
            (λ (f : ltb 0 (body_size tag) ≡ false). absurd (some (let h = ltb-false 0 (body_size tag) f in omega arith)))
            (decide (ltb 0 (body_size tag)))

        pub whole_item : {number mark cluster : ℕ} → number ≡ byte_at (take (length bytes - (at + 3)) (drop (at + 3) bytes)) 0
            → mark ≡ byte_at (take (length bytes - (at + 3)) (drop (at + 3) bytes)) 1
            → cluster ≡ cond (eqb tag processor_tag) (byte_at (take (length bytes - (at + 3)) (drop (at + 3) bytes)) 2) 0
            → record { tag = tag; number = number; mark = mark; cluster = cluster } ≡ item_in (drop at bytes)
        unfolding item_in
        whole_item {number} {mark} {cluster} is_number is-mark is-cluster =
            (λ t. record {
              tag = tagged t;
              number = (is_number ∙ body_there bytes at 0) t;
              mark = (is-mark ∙ body_there bytes at 1) t;
              cluster = told-cluster t;
            })
            ∙ sym (cond-true _ _ (field_judged bytes at ∙ ap good_in (sym read ∙ is) ∙ good))
          where
            tagged : tag ≡ byte_at (drop at bytes) 0
            tagged = (field_at bytes at tag n (sym is ∙ read)).tagged ∙ sym (tag_there bytes at)

            told-cluster : cluster ≡ cond (eqb (byte_at (drop at bytes) 0) processor_tag) (byte_at (drop at bytes) 5) 0
            told-cluster = is-cluster ∙ ap₂ (λ (x y : ℕ). cond (eqb x processor_tag) y 0) tagged (body_there bytes at 2)

-- ---- a good field is not cut

pub field_within : (bytes : List ℕ) → eqb (item_in bytes).tag 0 ≡ false → field_size (item_in bytes) ≤ length bytes
unfolding item_in no_item field_size field_good
field_within bytes some =
    let size = body_size (byte_at bytes 0) in
    ⊎_elim
    (λ (t : field_good bytes ≡ true).
    rw t (leb-true (3 + size) (length bytes) (and_right (ltb 0 size && eqb (u16_at bytes 1) size) _ t)))
    (λ (f : field_good bytes ≡ false). clash {x = true} refl (rw f at some))
    (decide (field_good bytes))

-- a field has at least three bytes, the tag and the length
pub field_some : (x : Item) → 3 ≤ field_size x
unfolding field_size
field_some x = omega arith
