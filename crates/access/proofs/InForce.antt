-- Laws of the access memory: stored entry by entry and read again it gives the entries of the rules.
use Prim.Native.Nat.{ℕ, zero, suc, ◌+◌, ◌*◌, ◌<◌, ◌≤◌}
use native.Mathlib.Nat.{add-zero, add_assoc}
use native.Mathlib.Numerals.{add-one, one-add, towards_suc}
use native.Mathlib.Omega.{arith}
use mathlib.Core.Path.{◌≡◌, refl, sym, ap, ap₂, subst, ◌∙◌}
use mathlib.Core.Bool.{true, false}
use mathlib.Core.List.{List, [], ◌∷◌}
use mathlib.Core.Logic.{⊎_elim}
use lib.ListN.{length, get_or, set, replicate}
use lib.Seq.{sets, set_out}
use lib.Dec.{eqb, ltb}
use borrow.Author.Tests.{eq-eqb, ne_eqb, lt-ltb, le-ltb, ltb-true, ltb-false}
use Rattle.rules.specs.Table.{table_of}
use Rattle.rules.specs.Bytes.{byte_at, u16_at}
use Rattle.rules.specs.Board.{Board, rows, row_of, on_board}
use Rattle.rules.specs.Substructure.{head_size, entry_count, part_at, parts_of, parts_from, used}
use Rattle.rules.specs.AccessList.{Entry, no_entry, entry_size, processor_in, master_in, secondaries_in, entry_in, with_part, with_parts, no_entries, entries_of}
use Rattle.rules.proofs.Tests.{decide}
use Rattle.rules.proofs.Parts.{parts-step, part-byte}
use Rattle.access.specs.Memory.{entry_place, access_size, entry_at, entries_in}
use Rattle.access.specs.InForce.{entry_words, in_force, put_entry}

-- n entries of four words each
data Rows : ℕ → List Entry → Type 0 where
  none : Rows 0 []
  row : {n a b c d : ℕ} {es : List Entry} → Rows n es → Rows (suc n) (record { master = a; first = b; second = c; third = d } ∷ es)

rows-length : {n : ℕ} {es : List Entry} → Rows n es → length es ≡ n
rows-length none = refl
rows-length (row r) = ap suc (rows-length r)

-- ---- stored

four_more : (i : ℕ) → 4 * suc i ≡ suc (suc (suc (suc (4 * i))))
four_more i = omega arith

-- four words stored at a row are an entry stored there
put_words : {n : ℕ} {es : List Entry} → Rows n es → (i a b c d : ℕ)
    → i < n
    → sets (entry_words es) (4 * i) (a ∷ b ∷ c ∷ d ∷ []) ≡ entry_words (set es i (record { master = a; first = b; second = c; third = d }))
unfolding entry_words
put_words none i a b c d h = absurd (omega arith)
put_words (row r) zero a b c d h = refl
put_words (row {a = x} {b = y} {c = z} {d = w} {es = es} r) (suc i) a b c d h =
    ap (λ (k : ℕ). sets (x ∷ y ∷ z ∷ w ∷ entry_words es) k (a ∷ b ∷ c ∷ d ∷ [])) (four_more i)
    ∙ ap (λ (l : List ℕ). x ∷ y ∷ z ∷ w ∷ l) (put_words r i a b c d (omega arith))

rows-set : {n : ℕ} {es : List Entry} → Rows n es → (i a b c d : ℕ)
    → Rows n (set es i (record { master = a; first = b; second = c; third = d }))
rows-set none i a b c d = none
rows-set (row r) zero a b c d = row r
rows-set (row r) (suc i) a b c d = row (rows-set r i a b c d)

rows-part : {n : ℕ} {es : List Entry} (b : Board) (part : List ℕ) → Rows n es → Rows n (with_part b part es)
unfolding with_part entry_in
rows-part {n} {es} b part r =
    ⊎_elim (λ u. rw u (rows-set r (row_of b (processor_in part)) (master_in part) _ _ _)) (λ u. rw u r) (decide (used part))

-- an entry that is unused, or off the board, is stored nowhere, and any other at its row
put_entry_lem : {es : List Entry} (b : Board) (part : List ℕ) → Rows rows es → put_entry b part (1 ∷ entry_words es) ≡ 1 ∷ entry_words (with_part b part es)
unfolding put_entry with_part on_board entry_in
put_entry_lem {es} b part r =
    let i = row_of b (processor_in part) in
    ⊎_elim
    (λ (u : used part ≡ true).
    ⊎_elim
    (λ (on : ltb i rows ≡ true).
    rw (u, on)
    (ap (λ (k : ℕ). sets (1 ∷ entry_words es) k (master_in part ∷ secondaries_in part)) (one-add (4 * i))
    ∙ ap (λ (l : List ℕ). 1 ∷ l) (put_words r i (master_in part) _ _ _ (ltb-true i rows on))))
    (λ (off : ltb i rows ≡ false).
    let past = ltb-false i rows off in
    rw (u, off)
    (ap (λ (l : List Entry). 1 ∷ entry_words l) (sym (set_out es i _ (omega (arith, rows-length r))))))
    (decide (ltb i rows)))
    (λ (u : used part ≡ false). rw u)
    (decide (used part))

-- the code's four stores, of what it has read
four_stores : (m : List ℕ) {i j a b c d w x y z : ℕ} → i ≡ j → a ≡ w → b ≡ x → c ≡ y → d ≡ z
    → set (set (set (set m (entry_place i) a) (entry_place i + 1) b) (entry_place i + 2) c) (entry_place i + 3) d
    ≡ sets m (entry_place j) (w ∷ x ∷ y ∷ z ∷ [])
four_stores m at first second third fourth = rw (at, first, second, third, fourth) (simp towards_suc)

-- a number of an entry is one of the whole list
part-u16 : (list : List ℕ) (e i : ℕ) → i + 1 < entry_size → u16_at (part_at entry_size list e) i ≡ u16_at list (head_size + entry_size * e + i)
part-u16 list e i inside =
    ap₂ (λ (low high : ℕ). low + 256 * high) (part-byte entry_size list e i (omega arith))
    (part-byte entry_size list e (i + 1) inside ∙ ap (λ (k : ℕ). get_or list k 0) (sym (add_assoc (head_size + entry_size * e) i 1)))

-- what the code does with entry e, whose processor it has read as p: an unused one is stored nowhere
module _ (b : Board) (list : List ℕ) (e : ℕ) (m : List ℕ) {p : ℕ} (read : p ≡ byte_at list (head_size + entry_size * e + 0)) where
  abbrev part : List ℕ
  part = part_at entry_size list e

  at : p ≡ processor_in part
  at = read ∙ sym (part-byte entry_size list e 0 (omega arith))

  pub put_unused : p ≡ 0 → m ≡ put_entry b part m
  unfolding put_entry
  put_unused unused = rw (eq-eqb (processor_in part) 0 (sym at ∙ unused))

  -- a used one by the row that it has found
  module _ {row : ℕ} (some : p ≡ 0 → ⊥) (here : row ≡ row_of b p) where
    names : eqb (processor_in part) 0 ≡ false
    names = ne_eqb (processor_in part) 0 (λ e. some (at ∙ e))

    row_is : row ≡ row_of b (processor_in part)
    row_is = here ∙ ap (row_of b) at

    -- a later secondary, read so many bytes behind the first
    later : (k : ℕ) → 3 + k + 1 < entry_size → u16_at list (head_size + entry_size * e + 3 + k) ≡ u16_at part (3 + k)
    later k inside = ap (u16_at list) (add_assoc (head_size + entry_size * e) 3 k) ∙ sym (part-u16 list e (3 + k) inside)

    pub put_off : rows ≤ row → m ≡ put_entry b part m
    unfolding put_entry on_board
    put_off past = rw (names, le-ltb (row_of b (processor_in part)) rows (subst (λ (n : ℕ). rows ≤ n) row_is past))

    pub put_on : row < rows → {w x y z : ℕ}
        → w ≡ u16_at list (head_size + entry_size * e + 1) → x ≡ u16_at list (head_size + entry_size * e + 3)
        → y ≡ u16_at list (head_size + entry_size * e + 3 + 2) → z ≡ u16_at list (head_size + entry_size * e + 3 + 4)
        → set (set (set (set m (entry_place row) w) (entry_place row + 1) x) (entry_place row + 2) y) (entry_place row + 3) z ≡ put_entry b part m
    unfolding put_entry on_board
    put_on inside first second third fourth =
        rw (names, lt-ltb (row_of b (processor_in part)) rows (subst (λ (n : ℕ). n < rows) row_is inside))
        (four_stores m row_is (first ∙ sym (part-u16 list e 1 (omega arith))) (second ∙ sym (part-u16 list e 3 (omega arith)))
        (third ∙ later 2 (omega arith)) (fourth ∙ later 4 (omega arith)))

-- ---- all parts

-- the entries that the list's first e parts leave
unfoldable pub entries_before : Board → List ℕ → ℕ → List Entry
entries_before b list zero = no_entries
entries_before b list (suc e) = with_part b (part_at entry_size list e) (entries_before b list e)

rows_none : (n : ℕ) → Rows n (replicate n no_entry)
unfolding no_entry
rows_none zero = none
rows_none (suc n) = row (rows_none n)

rows_before : (b : Board) (list : List ℕ) (e : ℕ) → Rows rows (entries_before b list e)
unfolding entries_before no_entries
rows_before b list zero = rows_none rows
rows_before b list (suc e) = rows-part b (part_at entry_size list e) (rows_before b list e)

from_before : (b : Board) (list : List ℕ) (e n : ℕ) → with_parts b (parts_from entry_size list e n) (entries_before b list e) ≡ entries_before b list (e + n)
unfolding entries_before with_parts parts_of
from_before b list e zero = ap (entries_before b list) (sym (add-zero e))
from_before b list e (suc n) =
    let more : suc e + n ≡ e + suc n = omega arith in
    ap (λ (parts : List (List ℕ)). with_parts b parts (entries_before b list e)) (parts-step entry_size list e n)
    ∙ from_before b list (suc e) n
    ∙ ap (entries_before b list) more

entries-are : (b : Board) (list : List ℕ) → entries_before b list entry_count ≡ entries_of b list
unfolding entries_of entries_before
entries-are b list = sym (from_before b list 0 entry_count)

pub entries-all : (b : Board) (list : List ℕ) → 1 ∷ entry_words (entries_before b list entry_count) ≡ in_force b list
entries-all b list = ap (λ (es : List Entry). 1 ∷ entry_words es) (entries-are b list)

rows_of : (b : Board) (list : List ℕ) → Rows rows (entries_of b list)
rows_of b list = subst (λ (es : List Entry). Rows rows es) (entries-are b list) (rows_before b list entry_count)

-- zeros and the mark are the words of no entries
pub none_stored : (b : Board) (list : List ℕ) → set (replicate access_size 0) 0 1 ≡ 1 ∷ entry_words (entries_before b list 0)
unfolding entry_words entries_before no_entries no_entry
none_stored b list = refl

-- a turn of the store: the words of one more part
pub put_next : (b : Board) (list : List ℕ) (e : ℕ)
    → put_entry b (part_at entry_size list e) (1 ∷ entry_words (entries_before b list e)) ≡ 1 ∷ entry_words (entries_before b list (e + 1))
unfolding entries_before
put_next b list e =
    put_entry_lem b (part_at entry_size list e) (rows_before b list e)
    ∙ ap (λ (n : ℕ). 1 ∷ entry_words (entries_before b list n)) (sym (add-one e))

-- ---- read

-- one row on
table_next : {A : Type 0} (f g : ℕ → A) → ((i : ℕ) → f (suc i) ≡ g i) → (i n : ℕ) → table_of f (suc i) n ≡ table_of g i n
unfolding table_of
table_next f g same i zero = refl
table_next f g same i (suc n) = rw (same i, table_next f g same (suc i) n)

-- behind an entry's words the rows are those of the words left
entry_next : (v a b c d : ℕ) (m : List ℕ) (i : ℕ) → entry_at (v ∷ a ∷ b ∷ c ∷ d ∷ m) (suc i) ≡ entry_at (v ∷ m) i
unfolding entry_at
entry_next v a b c d m i = simp (four_more, one-add, towards_suc)

read_words : {n : ℕ} {es : List Entry} (v : ℕ) → Rows n es → table_of (entry_at (v ∷ entry_words es)) 0 n ≡ es
unfolding table_of entry_words entry_at
read_words v none = refl
read_words v (row {n = n} {a = a} {b = b} {c = c} {d = d} {es = es} r) =
    ap (λ (l : List Entry). record { master = a; first = b; second = c; third = d } ∷ l)
    (table_next (entry_at (v ∷ a ∷ b ∷ c ∷ d ∷ entry_words es)) (entry_at (v ∷ entry_words es)) (entry_next v a b c d (entry_words es)) 0 n
    ∙ read_words v r)

-- the memory that an accepted list leaves says its entries
pub words_read : (b : Board) (list : List ℕ) → entries_in (1 ∷ entry_words (entries_of b list)) ≡ entries_of b list
unfolding entries_in
words_read b list = read_words 1 (rows_of b list)
