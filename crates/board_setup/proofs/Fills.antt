-- Laws of the filled memory: how far the walk has come, a turn of it, and its end; and what an offer leaves.
use Prim.Native.Nat.{ℕ, ◌+◌, ◌≤◌, ◌<◌}
use native.Mathlib.Omega.{arith}
use mathlib.Core.Path.{◌≡◌, refl, sym, ap, subst⁻¹, ◌∙◌}
use mathlib.Core.Bool.{Bool, true, false}
use mathlib.Core.List.{List, [], ◌∷◌, ◌++◌}
use mathlib.Core.Logic.{⊎_elim}
use lib.ListN.{length}
use borrow.Author.Tests.{ltb-false}
use Rattle.rules.specs.declared.Item.{Item}
use Rattle.rules.specs.Table.{first_of}
use Rattle.rules.specs.Verdict.{Verdict, Accepted, accepted}
use Rattle.rules.specs.Board.{rows}
use Rattle.rules.specs.Description.{Description, nothing_listed, items_in, is_host, item_table, with_items, description_table, board_verdict, board_of, described}
use Rattle.rules.proofs.Tests.{decide, cond-true, cond-false}
use Rattle.rules.proofs.Verdicts.{not_accepted}
use Rattle.board.specs.Memory.{board_bytes}
use Rattle.board_description.specs.EarlierItems.{listed_before}
use Rattle.board_description.proofs.Verdicts.{Clear, item_clear, Reached, reached_start, listed_next, turn-good, turn-accepted, end_listed}
use Rattle.board_setup.specs.Setup.{board_after, row_after, put_item}
use Rattle.board_setup.proofs.Steps.{put_step, room_found}
use Rattle.board_setup.proofs.Rows.{row_next}

-- k items are seen; the memory has the board of these, and `row` is the first free one
pub record Filled (bytes m : List ℕ) (seen left : List Item) (k row : ℕ) : Type 0 where
  pub reached : Reached bytes seen left k
  pub free : row ≡ length (listed_before bytes k).processors
  pub few : row ≤ rows
  pub memory : m ≡ board_bytes (board_of (listed_before bytes k))

pub filled_start : (bytes : List ℕ) {m : List ℕ} → m ≡ board_bytes (board_of nothing_listed) → Filled bytes m [] (items_in bytes) 0 0
unfolding listed_before with_items nothing_listed
filled_start bytes cleared =
    record { reached = reached_start bytes; free = refl; few = omega arith; memory = cleared }

-- a turn: an item of an accepted description
module _ {bytes m : List ℕ} {seen left rest : List Item} {k row : ℕ} {x : Item} (f : Filled bytes m seen left k row) (next : left ≡ x ∷ rest)
    (good : board_verdict false bytes ≡ Accepted) where
  none : first_of Accepted (item_table (listed_before bytes k) x) ≡ Accepted
  none = turn-accepted f.reached next good

  clear : Clear (listed_before bytes k) x
  clear = item_clear (listed_before bytes k) x none

  few_marks : x.mark ≤ 1
  few_marks = ltb-false 1 x.mark clear.marked

  room : is_host x ≡ false → row < rows
  room processor = subst⁻¹ (λ (n : ℕ). n < rows) f.free (room_found (listed_before bytes k) x clear.room processor)

  -- what the code that puts the item relies on
  pub fill_ready : (x.mark ≤ 1) × (is_host x ≡ false → row < rows)
  fill_ready = (few_marks, room)

  row_few : row_after row x ≤ rows
  unfolding row_after
  row_few =
      ⊎_elim
      (λ (t : is_host x ≡ true). subst⁻¹ (λ (n : ℕ). n ≤ rows) (cond-true row (row + 1) t) f.few)
      (λ (p : is_host x ≡ false). subst⁻¹ (λ (n : ℕ). n ≤ rows) (cond-false row (row + 1) p) (omega (arith, room p)))
      (decide (is_host x))

  pub fill_next : {after : List ℕ} {then : ℕ} → x.number < 256 → after ≡ put_item m (listed_before bytes k) x row
      → then ≡ row_after row x → Filled bytes after (seen ++ (x ∷ [])) rest (k + 1) then
  fill_next {after} {then} byte put rowed =
      let listed = sym (listed_next f.reached next) in
      record {
        reached = turn-good f.reached next none;
        free = rowed ∙ row_next (listed_before bytes k) x f.free ∙ ap (λ (d : Description). length d.processors) listed;
        few = subst⁻¹ (λ (n : ℕ). n ≤ rows) rowed row_few;
        memory =
            put
            ∙ ap (λ (l : List ℕ). put_item l (listed_before bytes k) x row) f.memory
            ∙ put_step (listed_before bytes k) x row f.free byte clear.new few_marks room
            ∙ ap (λ (d : Description). board_bytes (board_of d)) listed;
      }

-- at the end the memory has the board that is described
pub fill_end : {bytes m : List ℕ} {seen left : List Item} {k row : ℕ} → Filled bytes m seen left k row → left ≡ []
    → m ≡ board_bytes (described bytes)
unfolding described
fill_end f end = f.memory ∙ ap (λ (d : Description). board_bytes (board_of d)) (sym (end_listed f.reached end))

-- ---- the board call

-- what the code has read is the verdict
module _ (listed : Bool) (bytes : List ℕ) {v : Verdict} (judged : v ≡ board_verdict listed bytes) where
  -- a refused description leaves the memory
  pub offer_refused : {m : List ℕ} → (v ≡ Accepted → ⊥) → m ≡ board_after m listed bytes
  unfolding board_after
  offer_refused bad = sym (cond-false _ _ (ap accepted (sym judged) ∙ not_accepted v bad))

  -- an accepted one puts its board there
  pub offer_taken : (m : List ℕ) → v ≡ Accepted → board_bytes (described bytes) ≡ board_after m listed bytes
  unfolding board_after accepted
  offer_taken m good = sym (cond-true _ _ (ap accepted (sym judged ∙ good)))

-- what is accepted is accepted before a list
pub offer_first : (listed : Bool) (bytes : List ℕ) → board_verdict listed bytes ≡ Accepted → board_verdict listed bytes ≡ board_verdict false bytes
unfolding board_verdict description_table first_of
offer_first false bytes good = refl
offer_first true bytes good = absurd (let z : ◌≡◌ {A = ℕ} 0 1 = cc in omega arith)
