-- Laws of the items in turn: the first of them and those behind it, and what they list.
use Prim.Native.Nat.{ℕ, zero, suc, ◌+◌, ◌≤◌, ◌<◌}
use native.Mathlib.Numerals.{add-one}
use native.Mathlib.Omega.{arith}
use mathlib.Core.Path.{◌≡◌, refl, sym, ap, ◌∙◌}
use mathlib.Core.Bool.{true, false, cond}
use mathlib.Core.List.{List, [], ◌∷◌, ◌++◌, append_assoc}
use mathlib.Core.Logic.{⊎_elim}
use lib.ListN.{length, take, drop, length-drop, drop_of_length-le}
use lib.Seq.{drop-drop}
use lib.Dec.{eqb}
use borrow.Author.Tests.{eq-eqb, ne_eqb}
use Rattle.std.proofs.Math.Seq.{take-append_seam}
use Rattle.rules.specs.declared.Item.{Item}
use Rattle.rules.specs.Description.{Description, nothing_listed, item_in, field_size, items_from, items_in, with_item, with_items}
use Rattle.rules.proofs.Tests.{decide, cond-true, cond-false}
use Rattle.board_description.specs.EarlierItems.{listed_before}
use Rattle.board_description.proofs.Fields.{field_some}

-- ---- the items of bytes

-- bytes that are none hold none, however many are asked for
none_from : (n : ℕ) (bytes : List ℕ) → length bytes ≡ 0 → items_from n bytes ≡ []
unfolding items_from
none_from zero bytes none = refl
none_from (suc n) bytes none = cond-true _ _ (eq-eqb (length bytes) 0 none)

-- behind a field there are fewer bytes
behind : (bytes : List ℕ) (x : Item) (n : ℕ) → length bytes ≤ suc n → length (drop (field_size x) bytes) ≤ n
behind bytes x n h = omega (arith, length-drop (field_size x) bytes, field_some x)

-- it does not matter how many items are asked for, once they are as many as the bytes
items_enough : (n m : ℕ) (bytes : List ℕ) → length bytes ≤ n → length bytes ≤ m → items_from n bytes ≡ items_from m bytes
unfolding items_from
items_enough zero m bytes hn hm = sym (none_from m bytes (omega arith))
items_enough (suc n) zero bytes hn hm = none_from (suc n) bytes (omega arith)
items_enough (suc n) (suc m) bytes hn hm =
    ap (λ (xs : List Item). cond (eqb (length bytes) 0) [] (item_in bytes ∷ xs))
    (items_enough n m (drop (field_size (item_in bytes)) bytes) (behind bytes (item_in bytes) n hn) (behind bytes (item_in bytes) m hm))

-- the first item, and those behind its field
pub items_first : (bytes : List ℕ) → 0 < length bytes → items_in bytes ≡ item_in bytes ∷ items_in (drop (field_size (item_in bytes)) bytes)
unfolding items_in items_from
items_first [] some = absurd (omega arith)
items_first (b ∷ bytes) some =
    cond-false [] _ (ne_eqb (suc (length bytes)) 0 (λ e. omega arith))
    ∙ ap (λ (xs : List Item). item_in (b ∷ bytes) ∷ xs)
    (items_enough (length bytes) (length (drop (field_size (item_in (b ∷ bytes))) (b ∷ bytes)))
    (drop (field_size (item_in (b ∷ bytes))) (b ∷ bytes))
    (behind (b ∷ bytes) (item_in (b ∷ bytes)) (length bytes) (omega arith)) (omega arith))

-- the same from a place on
pub items_at : (bytes : List ℕ) (at : ℕ) → at < length bytes
    → items_in (drop at bytes) ≡ item_in (drop at bytes) ∷ items_in (drop (at + field_size (item_in (drop at bytes))) bytes)
items_at bytes at inside =
    items_first (drop at bytes) (omega (arith, length-drop at bytes))
    ∙ ap (λ (l : List ℕ). item_in (drop at bytes) ∷ items_in l) (drop-drop (field_size (item_in (drop at bytes))) at bytes)

pub items_end : (bytes : List ℕ) (at : ℕ) → length bytes ≤ at → items_in (drop at bytes) ≡ []
unfolding items_in
items_end bytes at past = none_from (length (drop at bytes)) (drop at bytes) (ap length (drop_of_length-le bytes past))

-- there are no more items than bytes
items_from-few : (n : ℕ) (bytes : List ℕ) → length (items_from n bytes) ≤ n
unfolding items_from
items_from-few zero bytes = omega arith
items_from-few (suc n) bytes =
    ⊎_elim
    (λ (t : eqb (length bytes) 0 ≡ true). rw t (omega arith))
    (λ (f : eqb (length bytes) 0 ≡ false). rw f (omega (arith, items_from-few n (drop (field_size (item_in bytes)) bytes))))
    (decide (eqb (length bytes) 0))

pub items_few : (bytes : List ℕ) → length (items_in bytes) ≤ length bytes
unfolding items_in
items_few bytes = items_from-few (length bytes) bytes

-- no bytes hold none
pub items_none : (bytes : List ℕ) → length bytes ≡ 0 → items_in bytes ≡ []
unfolding items_in
items_none bytes none = none_from (length bytes) bytes none

-- ---- what they list

pub with_items-append : (d : Description) (xs ys : List Item) → with_items d (xs ++ ys) ≡ with_items (with_items d xs) ys
unfolding with_items
with_items-append d [] ys = refl
with_items-append d (x ∷ xs) ys = with_items-append (with_item d x) xs ys

pub with_items-last : (d : Description) (xs : List Item) (y : Item) → with_items d (xs ++ (y ∷ [])) ≡ with_item (with_items d xs) y
unfolding with_items
with_items-last d xs y = with_items-append d xs (y ∷ [])

-- the first k items list what those list that were seen
pub listed_seen : (bytes : List ℕ) (seen rest : List Item) (k : ℕ) → items_in bytes ≡ seen ++ rest → k ≡ length seen
    → listed_before bytes k ≡ with_items nothing_listed seen
unfolding listed_before
listed_seen bytes seen rest k parts counted = rw (parts, counted, take-append_seam seen rest)

-- ---- a walk over the first k items

-- these are the ones seen, and the first n of those left
pub record Walked (bytes : List ℕ) (k : ℕ) (seen left : List Item) (n : ℕ) : Type 0 where
  pub parts : take k (items_in bytes) ≡ seen ++ take n left

pub walk_start : (bytes : List ℕ) (k : ℕ) → Walked bytes k [] (items_in bytes) k
walk_start bytes k = record { parts = refl }

module _ {bytes : List ℕ} {k : ℕ} {seen left : List Item} {n : ℕ} (w : Walked bytes k seen left n) where
  pub walk_listed : listed_before bytes k ≡ with_items (with_items nothing_listed seen) (take n left)
  unfolding listed_before
  walk_listed = ap (with_items nothing_listed) w.parts ∙ with_items-append nothing_listed seen (take n left)

  -- a turn
  module _ {x : Item} {rest : List Item} (m : ℕ) (next : left ≡ x ∷ rest) (less : m + 1 ≡ n) where
    first_is : take n left ≡ x ∷ take m rest
    first_is = rw (sym less, next, add-one m)

    pub walk_next : Walked bytes k (seen ++ (x ∷ [])) rest m
    walk_next =
        record {
          parts = w.parts ∙ ap (λ (l : List Item). seen ++ l) first_is ∙ sym (append_assoc seen (x ∷ []) (take m rest));
        }

    pub walk_here : listed_before bytes k ≡ with_items (with_items nothing_listed seen) (x ∷ take m rest)
    walk_here = walk_listed ∙ ap (with_items (with_items nothing_listed seen)) first_is

  -- the end: where more were asked for, none is left
  pub walk_end : (0 < n → left ≡ []) → listed_before bytes k ≡ with_items nothing_listed seen
  unfolding with_items
  walk_end end = walk_listed ∙ ap (with_items (with_items nothing_listed seen)) (none n left end)
    where
      none : (n : ℕ) (left : List Item) → (0 < n → left ≡ []) → take n left ≡ []
      none zero left end = refl
      none (suc n) left end = ap (take (suc n)) (end (omega arith))
