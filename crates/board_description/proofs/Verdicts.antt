-- Laws of the judge: what one item comes to, what is left after it, and how many have been judged.
use Prim.Native.Nat.{ℕ, ◌+◌}
use mathlib.Core.Path.{◌≡◌, refl, sym, ap, ◌∙◌}
use mathlib.Core.Bool.{true, false}
use mathlib.Core.List.{List, [], ◌∷◌, ◌++◌, append-nil, append_assoc}
use lib.ListN.{length, length-append}
use lib.Dec.{eqb, ltb}
use Rattle.rules.specs.declared.Item.{Item}
use Rattle.rules.specs.Table.{first_of}
use Rattle.rules.specs.Verdict.{Verdict, Accepted, accepted}
use Rattle.rules.specs.Description.{Description, nothing_listed, items_in, repeats, is_full, item_table, items_table, description_table, board_verdict, with_item, with_items, description_in}
use Rattle.rules.proofs.Tests.{first_of-append, cleared, passed, none_good, none_falls, none_stops}
use Rattle.rules.proofs.Verdicts.{not_accepted}
use Rattle.board_description.specs.EarlierItems.{listed_before}
use Rattle.board_description.proofs.Listed.{with_items-last, listed_seen}

-- ---- one item

-- no line of an item's table accepts
item_faults : (d : Description) (x : Item) → none_good accepted (item_table d x) ≡ true
unfolding item_table none_good accepted
item_faults d x = refl

module _ (d : Description) (x : Item) (rest : Verdict) where
  -- a fault comes before what is left
  item_bad : (first_of Accepted (item_table d x) ≡ Accepted → ⊥) → first_of rest (item_table d x) ≡ first_of Accepted (item_table d x)
  unfolding accepted
  item_bad bad = none_stops accepted Accepted rest (item_table d x) refl (not_accepted _ bad)

  -- without one what is left decides
  item_good : first_of Accepted (item_table d x) ≡ Accepted → first_of rest (item_table d x) ≡ rest
  unfolding accepted
  item_good good = none_falls accepted Accepted rest (item_table d x) (item_faults d x) (ap accepted good)

  -- where all is accepted in the end, there is none
  item_none : first_of rest (item_table d x) ≡ Accepted → first_of Accepted (item_table d x) ≡ Accepted
  unfolding accepted
  item_none good = none_falls accepted rest Accepted (item_table d x) (item_faults d x) (ap accepted good)

-- an item without a fault: what the lines of the table do not say of it
pub record Clear (d : Description) (x : Item) : Type 0 where
  pub tagged : eqb x.tag 0 ≡ false
  pub new : repeats d x ≡ false
  pub marked : ltb 1 x.mark ≡ false
  pub room : is_full d x ≡ false

pub item_clear : (d : Description) (x : Item) → first_of Accepted (item_table d x) ≡ Accepted → Clear d x
unfolding item_table accepted
item_clear d x good =
    let ok : accepted (first_of Accepted (item_table d x)) ≡ true = ap accepted good in
    let d1 = passed accepted Accepted _ _ _ refl ok in
    let d2 = passed accepted Accepted _ _ _ refl d1 in
    let d3 = passed accepted Accepted _ _ _ refl d2 in
    let d4 = passed accepted Accepted _ _ _ refl d3 in
    let d5 = passed accepted Accepted _ _ _ refl d4 in
    record {
      tagged = cleared accepted Accepted _ _ _ refl ok;
      new = cleared accepted Accepted _ _ _ refl d2;
      marked = cleared accepted Accepted _ _ _ refl d3;
      room = cleared accepted Accepted _ _ _ refl d5;
    }

-- ---- the items in turn

-- k items are seen, none of which has a fault, and what is left decides
pub record Reached (bytes : List ℕ) (seen left : List Item) (k : ℕ) : Type 0 where
  pub parts : items_in bytes ≡ seen ++ left
  pub counted : k ≡ length seen
  pub verdict : board_verdict false bytes ≡ first_of Accepted (items_table (listed_before bytes k) left)

pub reached_start : (bytes : List ℕ) → Reached bytes [] (items_in bytes) 0
unfolding board_verdict description_table first_of listed_before with_items
reached_start bytes = record { parts = refl; counted = refl; verdict = refl }

-- a turn of the loop
module _ {bytes : List ℕ} {seen left rest : List Item} {k : ℕ} {x : Item} (r : Reached bytes seen left k) (next : left ≡ x ∷ rest) where
  parts_on : items_in bytes ≡ (seen ++ (x ∷ [])) ++ rest
  parts_on = r.parts ∙ ap (λ (l : List Item). seen ++ l) next ∙ sym (append_assoc seen (x ∷ []) rest)

  counted_on : k + 1 ≡ length (seen ++ (x ∷ []))
  counted_on = ap (λ (n : ℕ). n + 1) r.counted ∙ sym (length-append seen (x ∷ []))

  pub listed_next : listed_before bytes (k + 1) ≡ with_item (listed_before bytes k) x
  listed_next =
      listed_seen bytes _ rest (k + 1) parts_on counted_on
      ∙ with_items-last nothing_listed seen x
      ∙ ap (λ (d : Description). with_item d x) (sym (listed_seen bytes seen left k r.parts r.counted))

  verdict_next : board_verdict false bytes
      ≡ first_of (first_of Accepted (items_table (with_item (listed_before bytes k) x) rest)) (item_table (listed_before bytes k) x)
  unfolding items_table
  verdict_next =
      r.verdict
      ∙ ap (λ (l : List Item). first_of Accepted (items_table (listed_before bytes k) l)) next
      ∙ first_of-append Accepted (item_table (listed_before bytes k) x) _

  -- a fault decides
  pub turn-bad : {fault : Verdict} → fault ≡ first_of Accepted (item_table (listed_before bytes k) x) → (fault ≡ Accepted → ⊥)
      → board_verdict false bytes ≡ fault
  turn-bad told bad = verdict_next ∙ item_bad (listed_before bytes k) x _ (λ good. bad (told ∙ good)) ∙ sym told

  -- without one the next item is judged
  pub turn-good : first_of Accepted (item_table (listed_before bytes k) x) ≡ Accepted → Reached bytes (seen ++ (x ∷ [])) rest (k + 1)
  turn-good good =
      record {
        parts = parts_on;
        counted = counted_on;
        verdict =
            verdict_next
            ∙ item_good (listed_before bytes k) x _ good
            ∙ ap (λ (d : Description). first_of Accepted (items_table d rest)) (sym listed_next);
      }

  -- of an accepted description no item has one
  pub turn-accepted : board_verdict false bytes ≡ Accepted → first_of Accepted (item_table (listed_before bytes k) x) ≡ Accepted
  turn-accepted good = item_none (listed_before bytes k) x _ (sym verdict_next ∙ good)

-- behind the last item nothing is left
module _ {bytes : List ℕ} {seen left : List Item} {k : ℕ} (r : Reached bytes seen left k) (end : left ≡ []) where
  pub end_verdict : board_verdict false bytes ≡ Accepted
  unfolding items_table first_of
  end_verdict = r.verdict ∙ ap (λ (l : List Item). first_of Accepted (items_table (listed_before bytes k) l)) end

  pub end_listed : description_in bytes ≡ listed_before bytes k
  unfolding description_in
  end_listed =
      ap (with_items nothing_listed) (r.parts ∙ ap (λ (l : List Item). seen ++ l) end ∙ append-nil seen)
      ∙ sym (listed_seen bytes seen left k r.parts r.counted)
