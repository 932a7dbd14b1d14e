-- Rows: two processors of which one is on the board share a row only if they are one; a table that passes its test gives every row, and
-- the table that is filled from a description passes it. For any description.
use Prim.Native.Nat.{ℕ, suc, pred, ◌<◌, ◌≤◌}
use mathlib.Core.Path.{◌≡◌, refl, sym, ◌∙◌, subst, subst⁻¹, ap}
use mathlib.Core.Bool.{Bool, true, false}
use mathlib.Core.List.{List, [], ◌∷◌}
use mathlib.Core.Logic.{⊎_elim}
use native.Mathlib.Nat.{not-suc-le-zero, le_of_suc-le-suc}
use native.Mathlib.Omega.{arith}
use lib.ListN.{length, get_or, get_or-eq_default}
use lib.Dec.{eqb, ltb}
use borrow.Author.Tests.{eqb-true, eq-eqb, ltb-true, ltb-false, lt-ltb}
use Rattle.rules.specs.Table.{any_of, place_of, all_of, all_from, table_of}
use Rattle.rules.specs.Board.{Board, rows, row_of, on_board}
use Rattle.rules.specs.Description.{Processor, Description, numbered, lists_processor, row_in, gives_rows, board_of, ours, our_description}
use Rattle.rules.specs.BenchBoard.{our_rows}
use Rattle.rules.proofs.Tests.{decide, clash, cond-true, cond-false, and_left, and_right, and_both, or_cases, all_from-gives}
use Rattle.rules.proofs.Tables.{table_length, table_past, table_gives}

-- ---- the place of the first element that passes a test

module _ {A : Type 0} (test : A → Bool) (x : A) (xs : List A) where
  -- it is at the head, or further on
  pub place_head : test x ≡ true → place_of test (x ∷ xs) ≡ 0
  unfolding place_of
  place_head t = cond-true 0 (suc (place_of test xs)) t

  pub place_past : test x ≡ false → place_of test (x ∷ xs) ≡ suc (place_of test xs)
  unfolding place_of
  place_past f = cond-false 0 (suc (place_of test xs)) f

-- where an element passes for one number only, two numbers with one place are one
pub place_one : {A : Type 0} (test : ℕ → A → Bool) → ((p r : ℕ) (x : A) → test p x ≡ true → test r x ≡ true → p ≡ r) → (xs : List A) (p r : ℕ)
    → place_of (test p) xs ≡ place_of (test r) xs → place_of (test r) xs < length xs → p ≡ r
place_one test one [] p r e h = absurd (not-suc-le-zero h)
place_one test one (x ∷ xs) p r e h =
    ⊎_elim
    (λ tp.
    ⊎_elim (λ tr. one p r x tp tr)
    (λ fr. absurd (apart (place_of (test r) xs) (sym (place_head (test p) x xs tp) ∙ e ∙ place_past (test r) x xs fr)))
    (decide (test r x)))
    (λ fp.
    ⊎_elim
    (λ tr. absurd (apart (place_of (test p) xs) (sym (place_head (test r) x xs tr) ∙ sym e ∙ place_past (test p) x xs fp)))
    (λ fr.
    place_one test one xs p r (ap pred (sym (place_past (test p) x xs fp) ∙ e ∙ place_past (test r) x xs fr))
    (le_of_suc-le-suc (subst (λ (n : ℕ). n < suc (length xs)) (place_past (test r) x xs fr) h)))
    (decide (test r x)))
    (decide (test p x))
  where
    apart : (n : ℕ) → 0 ≡ suc n → ⊥
    apart n q = omega arith

-- where some element passes, its place is there
pub place_there : {A : Type 0} (test : A → Bool) (xs : List A) → any_of test xs ≡ true → place_of test xs < length xs
unfolding any_of place_of
place_there test [] some = clash {x = false} some refl
place_there test (x ∷ xs) some =
    ⊎_elim
    (λ (t : test x ≡ true). rw t (omega arith))
    (λ (f : test x ≡ false). rw f (let h = place_there test xs (rw f at some) in omega arith))
    (decide (test x))

-- ---- the table of rows (document 02, L2)

-- a table that passes the test gives, at each of the 256 processor bytes, its row or the mark for none
pub table_rule : (d : Description) (table : List ℕ) → gives_rows d table ≡ true → (p : ℕ) → p < 256 → get_or table p rows ≡ row_in d p
unfolding gives_rows
table_rule d table t p h =
    all_from-gives (row_in d) table p rows (and_right whole every t)
    (subst (λ (n : ℕ). p < n) (sym (eqb-true (length table) 256 (and_left whole every t))) h)
  where
    whole : Bool
    whole = eqb (length table) 256

    every : Bool
    every = all_from (λ (q row : ℕ). eqb row (row_in d q)) 0 table

-- the table that is filled from a description passes it
pub filled_gives : (d : Description) → gives_rows d (board_of d).places ≡ true
unfolding gives_rows board_of
filled_gives d = and_both (eq-eqb _ 256 (table_length (row_in d) 256 0)) (table_gives (row_in d) 256 0)

pub row_rule : (d : Description) (p : ℕ) → p < 256 → row_of (board_of d) p ≡ row_in d p
unfolding row_of
row_rule d p h = table_rule d (board_of d).places (filled_gives d) p h

-- ---- the table of document 01's board

-- the test is computed on the table as it is written out, and that is the table which the description of document 01's board fills
pub our_table_gives : gives_rows our_description our_rows ≡ true
unfolding gives_rows all_from our_description lists_processor row_in any_of place_of
our_table_gives = refl

pub our_table_filled : ours.places ≡ our_rows
unfolding ours board_of table_of our_description lists_processor row_in any_of place_of
our_table_filled = refl

-- so the table gives the row of each processor byte, or the mark for none
pub our_table_rule : (p : ℕ) → p < 256 → get_or our_rows p rows ≡ row_in our_description p
our_table_rule p h = table_rule our_description our_rows our_table_gives p h

-- ---- a processor on the board

no_less : rows < rows → ⊥
no_less h = omega arith

-- it is a byte
on_byte : (d : Description) (p : ℕ) → on_board (board_of d) p ≡ true → p < 256
unfolding on_board row_of board_of
on_byte d p on =
    ⊎_elim (λ t. ltb-true p 256 t)
    (λ f.
    let past : get_or (table_of (row_in d) 0 256) p rows ≡ rows = table_past (row_in d) rows 256 0 p (ltb-false p 256 f) in
    let none = ltb-true _ rows on in
    absurd (no_less (subst (λ (n : ℕ). n < rows) past none)))
    (decide (ltb p 256))

-- and is listed, and its row is its place in the list
pub record Placed (d : Description) (p : ℕ) : Type 0 where
  pub listed : lists_processor d p ≡ true
  pub row : row_of (board_of d) p ≡ place_of (numbered p) d.processors
  pub in_list : row_in d p ≡ place_of (numbered p) d.processors
  pub there : place_of (numbered p) d.processors < length d.processors
  pub below : row_of (board_of d) p < rows

pub placed : (d : Description) (p : ℕ) → on_board (board_of d) p ≡ true → Placed d p
unfolding on_board row_in lists_processor
placed d p on =
    let below = ltb-true (row_of (board_of d) p) rows on in
    let rule = row_rule d p (on_byte d p on) in
    ⊎_elim
    (λ some.
    let at = cond-true (place_of (numbered p) d.processors) rows some in
    record { listed = some; row = rule ∙ at; in_list = at; there = place_there (numbered p) d.processors some; below = below })
    (λ none. absurd (no_less (subst (λ (n : ℕ). n < rows) (rule ∙ cond-false (place_of (numbered p) d.processors) rows none) below)))
    (decide (any_of (numbered p) d.processors))

pub row_one : (d : Description) (p r : ℕ) → row_of (board_of d) p ≡ row_of (board_of d) r → on_board (board_of d) r ≡ true → p ≡ r
unfolding on_board
row_one d p r e on =
    let at-r = placed d r on in
    let at_p = placed d p (ap (λ (n : ℕ). ltb n rows) e ∙ on) in
    place_one numbered (λ n m x is are. eqb-true n x.number is ∙ sym (eqb-true m x.number are)) d.processors p r (sym at_p.row ∙ e ∙ at-r.row)
    at-r.there

-- a processor that is listed has its place as its row, where that is one of the rows
pub listed-on : (d : Description) (p : ℕ) → p < 256 → lists_processor d p ≡ true → length d.processors ≤ rows → on_board (board_of d) p ≡ true
unfolding on_board row_in lists_processor
listed-on d p byte some fits =
    lt-ltb (row_of (board_of d) p) rows
    (subst⁻¹ (λ (n : ℕ). n < rows) (row_rule d p byte ∙ cond-true (place_of (numbered p) d.processors) rows some)
    (let h = place_there (numbered p) d.processors some in omega arith))

-- what holds of the number of each that is listed holds of a number that is
pub listed-member : (test : ℕ → Bool) (xs : List Processor) (p : ℕ)
    → all_of (λ (x : Processor). test x.number) xs ≡ true → any_of (numbered p) xs ≡ true → test p ≡ true
unfolding all_of any_of
listed-member test [] p every some = clash {x = false} some refl
listed-member test (x ∷ xs) p every some =
    let rest = all_of (λ (y : Processor). test y.number) xs in
    ⊎_elim (λ e. subst⁻¹ (λ (n : ℕ). test n ≡ true) (eqb-true p x.number e) (and_left (test x.number) rest every))
    (λ later. listed-member test xs p (and_right (test x.number) rest every) later)
    (or_cases (numbered p x) (any_of (numbered p) xs) some)

-- a processor that is on a board stands in its table of rows
pub on_table : (b : Board) (p : ℕ) → on_board b p ≡ true → p < length b.places
unfolding on_board row_of
on_table b p on =
    ⊎_elim (λ t. ltb-true p (length b.places) t)
    (λ f.
    absurd
    (no_less (subst (λ (n : ℕ). n < rows) (get_or-eq_default b.places rows (ltb-false p (length b.places) f)) (ltb-true _ rows on))))
    (decide (ltb p (length b.places)))
