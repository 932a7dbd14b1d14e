-- Laws of what the items before an item say of it: a turn of the walk back, and where it ends.
use Prim.Native.Nat.{◌+◌, ◌≤◌}
use native.Mathlib.Omega.{arith}
use mathlib.Core.Path.{◌≡◌, refl, sym, ap, ◌∙◌}
use mathlib.Core.Bool.{Bool, true, false, cond, not, ◌&&◌, ◌||◌, and-false, or-false}
use mathlib.Core.List.{List, [], ◌∷◌, ◌++◌}
use mathlib.Core.Logic.{⊎_elim}
use lib.ListN.{length, length-append}
use lib.Dec.{eqb}
use Rattle.rules.specs.declared.Item.{Item}
use Rattle.rules.specs.Table.{any_of}
use Rattle.rules.specs.Description.{Description, nothing_listed, is_host, lists_host, lists_processor, repeats, other_class, with_item, with_items}
use Rattle.rules.proofs.Tests.{decide}
use Rattle.board_description.proofs.Listed.{with_items-last}
use Rattle.board_description.specs.declared.earlier.Before.{Before}
use Rattle.board_description.specs.EarlierItems.{same_kind, mixes_classes, kind_count, before_in, noted}

-- ---- a turn of the walk, as the code takes it

-- what the code has read is whether the earlier item mixes classes, and whether it is of the item's kind
module _ (x y : Item) (b : Before) {mixes same : Bool} (mixed : mixes ≡ mixes_classes x y) (kind : same ≡ same_kind x y) where
  pub note_other : same ≡ false → record { repeated = b.repeated; mixed = b.mixed || mixes; same = b.same } ≡ noted x b y
  unfolding noted
  note_other other = rw (sym kind, sym mixed, other)

  pub note_same : same ≡ true
      → record { repeated = b.repeated || eqb x.number y.number; mixed = b.mixed || mixes; same = b.same + 1 } ≡ noted x b y
  unfolding noted
  note_same one = rw (sym kind, sym mixed, one)

-- at most one more is of the item's kind
pub noted-few : (x y : Item) (b : Before) → (noted x b y).same ≤ b.same + 1
unfolding noted
noted-few x y b =
    ⊎_elim
    (λ (t : same_kind x y ≡ true). rw t (omega arith))
    (λ (f : same_kind x y ≡ false). rw f (omega arith))
    (decide (same_kind x y))

-- ---- one more item listed

-- a test over one element more
pub any_last : {A : Type 0} (test : A → Bool) (xs : List A) (y : A) → any_of test (xs ++ (y ∷ [])) ≡ (any_of test xs || test y)
unfolding any_of
any_last test [] y = or-false (test y)
any_last test (x ∷ xs) y = ap (λ (b : Bool). test x || b) (any_last test xs y) ∙ or_same (test x) (any_of test xs) (test y)
  where
    or_same : (a b c : Bool) → (a || (b || c)) ≡ ((a || b) || c)
    or_same true b c = refl
    or_same false b c = refl

pub length_last : {A : Type 0} (xs : List A) (y : A) → length (xs ++ (y ∷ [])) ≡ length xs + 1
length_last xs y = length-append xs (y ∷ [])

-- a guard before a sum of tests
guarded : (p a b c : Bool) → (p && (c || (a && b))) ≡ ((p && c) || (((true && p) && a) && b))
guarded true a b c = refl
guarded false a b c = refl

module _ (d : Description) (x y : Item) where
  repeats-next : repeats (with_item d y) x ≡ cond (same_kind x y) (repeats d x || eqb x.number y.number) (repeats d x)
  unfolding repeats with_item same_kind lists_host lists_processor
  repeats-next =
      ⊎_elim
      (λ (hx : is_host x ≡ true).
      ⊎_elim
      (λ (hy : is_host y ≡ true). rw (hx, hy) (any_last _ d.hosts _))
      (λ (py : is_host y ≡ false). rw (hx, py))
      (decide (is_host y)))
      (λ (px : is_host x ≡ false).
      ⊎_elim
      (λ (hy : is_host y ≡ true). rw (px, hy))
      (λ (py : is_host y ≡ false). rw (px, py) (any_last _ d.processors _))
      (decide (is_host y)))
      (decide (is_host x))

  mixed_next : other_class (with_item d y) x ≡ (other_class d x || mixes_classes x y)
  unfolding other_class with_item mixes_classes
  mixed_next =
      ⊎_elim
      (λ (hy : is_host y ≡ true). rw hy (sym (or-false _)))
      (λ (py : is_host y ≡ false).
      rw py
      (ap (λ (b : Bool). not (eqb x.cluster 0) && b) (any_last _ d.processors _)
      ∙ guarded (not (eqb x.cluster 0)) (eqb x.cluster y.cluster) (not (eqb x.mark y.mark)) _))
      (decide (is_host y))

  count_next : kind_count (with_item d y) x ≡ cond (same_kind x y) (kind_count d x + 1) (kind_count d x)
  unfolding kind_count with_item same_kind
  count_next =
      ⊎_elim
      (λ (hx : is_host x ≡ true).
      ⊎_elim
      (λ (hy : is_host y ≡ true). rw (hx, hy) (length_last d.hosts _))
      (λ (py : is_host y ≡ false). rw (hx, py))
      (decide (is_host y)))
      (λ (px : is_host x ≡ false).
      ⊎_elim
      (λ (hy : is_host y ≡ true). rw (px, hy))
      (λ (py : is_host y ≡ false). rw (px, py) (length_last d.processors _))
      (decide (is_host y)))
      (decide (is_host x))

  -- what is noted is what the longer list says
  noted-next : noted x (before_in d x) y ≡ before_in (with_item d y) x
  unfolding noted before_in
  noted-next = λ t. record { repeated = sym repeats-next t; mixed = sym mixed_next t; same = sym count_next t }

-- ---- the walk over the items before

module _ (x : Item) where
  none_repeated : repeats nothing_listed x ≡ false
  unfolding nothing_listed repeats lists_host lists_processor any_of
  none_repeated = ⊎_elim (λ (t : is_host x ≡ true). rw t) (λ (f : is_host x ≡ false). rw f) (decide (is_host x))

  none_mixed : other_class nothing_listed x ≡ false
  unfolding nothing_listed other_class any_of
  none_mixed = and-false (not (eqb x.cluster 0))

  none_counted : kind_count nothing_listed x ≡ 0
  unfolding nothing_listed kind_count
  none_counted = ⊎_elim (λ (t : is_host x ≡ true). rw t) (λ (f : is_host x ≡ false). rw f) (decide (is_host x))

module _ (x : Item) where
  -- nothing is listed before the first
  pub note_start : record { repeated = false; mixed = false; same = 0 } ≡ before_in (with_items nothing_listed []) x
  unfolding before_in with_items
  note_start = λ t. record { repeated = sym (none_repeated x) t; mixed = sym (none_mixed x) t; same = sym (none_counted x) t }

  -- a turn
  pub note_next : (seen : List Item) (y : Item) {b : Before} → b ≡ before_in (with_items nothing_listed seen) x
      → noted x b y ≡ before_in (with_items nothing_listed (seen ++ (y ∷ []))) x
  note_next seen y told =
      ap (λ (b : Before). noted x b y) told
      ∙ noted-next (with_items nothing_listed seen) x y
      ∙ ap (λ (d : Description). before_in d x) (sym (with_items-last nothing_listed seen y))
