-- Board descriptions: document 01's board is one, computed; an accepted one lists no more processors than there are rows, so each that it lists is
-- on the board.
use Prim.Native.Nat.{ℕ, ◌≤◌, ◌<◌}
use mathlib.Core.Path.{◌≡◌, refl, subst⁻¹, ap, ◌∙◌}
use mathlib.Core.Bool.{Bool, true, false, cond, not, ◌&&◌, ◌||◌, or-false}
use mathlib.Core.List.{List, [], ◌∷◌, map}
use mathlib.Core.Logic.{⊎_elim}
use native.Mathlib.Omega.{arith}
use lib.ListN.{length, get_or, length-append}
use lib.Dec.{eqb}
use borrow.Author.Tests.{leb-false}
use Rattle.rules.specs.declared.Item.{Item}
use Rattle.rules.specs.Table.{◌gives◌, first_of, any_of, table_of}
use Rattle.rules.specs.Verdict.{Accepted, accepted}
use Rattle.rules.specs.Board.{rows, board_host, active_host, secure_host, on_board}
use Rattle.rules.specs.Description.{Host, Description, nothing_listed, our_description, body_size, field_good, no_item, item_in, field_size, items_from, items_in, is_host, lists_host, lists_processor, repeats, other_class, is_full, item_table, with_item, items_table, description_table, board_verdict, with_items, description_in, mark_in, board_of, described, ours, our_bytes}
use Rattle.rules.proofs.Tests.{decide, cleared, passed}
use Rattle.rules.proofs.Tables.{table_here, table_past, table_below}
use Rattle.rules.proofs.Rows.{listed-on}

-- ---- document 01's board: its description is taken, and describes it

pub ours-taken : board_verdict false our_bytes ≡ Accepted
unfolding board_verdict description_table items_table item_table first_of any_of nothing_listed body_size field_good no_item item_in field_size items_from items_in lists_host lists_processor repeats other_class is_full with_item
ours-taken = refl

pub ours-described : described our_bytes ≡ ours
unfolding described ours description_in with_items our_description first_of nothing_listed body_size field_good no_item item_in field_size items_from items_in with_item
ours-described = refl

-- ---- any description

-- the mark of a host says that it is listed
mark_listed : (xs : List Host) (h : ℕ)
    → not (eqb (first_of 0 (map (λ (x : Host). eqb h x.number gives cond x.secure 2 1) xs)) 0) ≡ any_of (λ (x : Host). eqb h x.number) xs
unfolding first_of any_of
mark_listed [] h = refl
mark_listed (x ∷ xs) h =
    ⊎_elim
    (λ (t : eqb h x.number ≡ true). rw t (marked x.secure))
    (λ (f : eqb h x.number ≡ false). rw f (mark_listed xs h))
    (decide (eqb h x.number))
  where
    marked : (secure : Bool) → not (eqb (cond secure 2 1) 0) ≡ true
    marked true = refl
    marked false = refl

-- the hosts of a board are host 0 and the listed ones, of all host bytes; a number above them is on no board
pub host_rule : (d : Description) (h : ℕ) → h < 256 → board_host (board_of d) h ≡ (eqb h 0 || lists_host d h)
unfolding board_host board_of mark_in lists_host
host_rule d h byte =
    ap (λ (n : ℕ). eqb h 0 || not (eqb n 0)) (table_here (mark_in d) 0 256 h byte) ∙ ap (λ (x : Bool). eqb h 0 || x) (mark_listed d.hosts h)

-- a host's byte is its mark
pub mark_rule : (d : Description) (h : ℕ) → h < 256 → get_or (board_of d).hosts h 0 ≡ mark_in d h
unfolding board_of
mark_rule d h byte = table_here (mark_in d) 0 256 h byte

pub host_past : (d : Description) (h : ℕ) → 256 ≤ h → board_host (board_of d) h ≡ eqb h 0
unfolding board_host board_of
host_past d h past = ap (λ (n : ℕ). eqb h 0 || not (eqb n 0)) (table_past (mark_in d) 0 256 0 h past) ∙ or-false (eqb h 0)

-- "3 and 10 secure; 4, 5, 6, 12, 13 not secure": of all host bytes
pub ours-secure : table_of (secure_host ours) 0 256 ≡ table_of (λ (h : ℕ). eqb h 3 || eqb h 10) 0 256
unfolding table_of secure_host ours our_description mark_in first_of
ours-secure =
    table_below (secure_host ours) (λ (h : ℕ). not (eqb h 0) && eqb (mark_in our_description h) 2) 256 0
    (λ h from byte. ap (λ (mark : ℕ). not (eqb h 0) && eqb mark 2) (mark_rule our_description h (omega arith)))

pub ours-hosts : table_of (active_host ours) 0 256 ≡ table_of (λ (h : ℕ). any_of (eqb h) (3 ∷ 10 ∷ 4 ∷ 5 ∷ 6 ∷ 12 ∷ 13 ∷ [])) 0 256
unfolding table_of any_of active_host ours our_description lists_host
ours-hosts =
    table_below (active_host ours) (λ (h : ℕ). not (eqb h 0) && (eqb h 0 || lists_host our_description h)) 256 0
    (λ h from byte. ap (λ (x : Bool). not (eqb h 0) && x) (host_rule our_description h (omega arith)))

abbrev Fits : Description → Type 0
Fits d = length d.processors ≤ rows

-- one more fits where the list was not full
item_fits : (d : Description) (x : Item) → Fits d → is_full d x ≡ false → Fits (with_item d x)
unfolding is_full with_item
item_fits d x fits room =
    ⊎_elim
    (λ (t : is_host x ≡ true). rw t fits)
    (λ (f : is_host x ≡ false).
    let below = leb-false rows (length d.processors) (rw f at room) in
    rw f (subst⁻¹ (λ (n : ℕ). n ≤ rows) (length-append d.processors _) (omega arith)))
    (decide (is_host x))

items_fit : (d : Description) (xs : List Item) → Fits d → accepted (first_of Accepted (items_table d xs)) ≡ true → Fits (with_items d xs)
unfolding items_table item_table with_items accepted
items_fit d [] fits ok = fits
items_fit d (x ∷ xs) fits ok =
    let d1 = passed accepted Accepted _ _ _ refl ok in
    let d2 = passed accepted Accepted _ _ _ refl d1 in
    let d3 = passed accepted Accepted _ _ _ refl d2 in
    let d4 = passed accepted Accepted _ _ _ refl d3 in
    let d5 = passed accepted Accepted _ _ _ refl d4 in
    items_fit (with_item d x) xs (item_fits d x fits (cleared accepted Accepted _ _ _ refl d5)) (passed accepted Accepted _ _ _ refl d5)

-- an accepted description lists no more processors than there are rows
pub accepted-fits : (bytes : List ℕ) → accepted (board_verdict false bytes) ≡ true → length (description_in bytes).processors ≤ rows
unfolding board_verdict description_table description_in nothing_listed accepted
accepted-fits bytes ok = items_fit nothing_listed (items_in bytes) (omega arith) (passed accepted Accepted _ _ _ refl ok)

-- so each that it lists, by a byte, is on the board
pub accepted-on : (bytes : List ℕ) (p : ℕ) → accepted (board_verdict false bytes) ≡ true → p < 256
    → lists_processor (description_in bytes) p ≡ true → on_board (described bytes) p ≡ true
unfolding described
accepted-on bytes p ok byte some = listed-on (description_in bytes) p byte some (accepted-fits bytes ok)
