-- What an accepted list leaves: each used entry is on the board and has a master, so a processor that a used entry names has an entry
-- in force. For any board.
use Prim.Native.Nat.{ℕ, ◌<◌}
use mathlib.Core.Path.{◌≡◌, refl, subst, subst⁻¹, ◌∙◌, ap}
use mathlib.Core.Bool.{Bool, true, false, not, ◌&&◌}
use mathlib.Core.List.{List, [], ◌∷◌}
use mathlib.Core.Logic.{⊎_elim}
use lib.ListN.{length, get_or, set, replicate, length-set, length-replicate}
use lib.Seq.{get_or-set_same, get_or-set_other, set_out}
use lib.Dec.{eqb, ltb}
use borrow.Author.Tests.{eqb-true, eqb-false, ltb-true, ltb-false, not-false}
use Rattle.rules.specs.Table.{first_of, any_of}
use Rattle.rules.specs.Board.{Board, active_host, rows, row_of, on_board}
use Rattle.rules.specs.Verdict.{Accepted, accepted}
use Rattle.rules.specs.Substructure.{used, named_in, in_turn}
use Rattle.rules.specs.AccessList.{Entry, no_entry, parts, processor_in, master_in, entry_table, content_table, list_table, verdict_of, entry_in, with_part, with_parts, no_entries, entries_of, has_entry}
use Rattle.rules.proofs.Tests.{decide, clash, and_left, and_right, or_cases, cleared, passed}
use Rattle.rules.proofs.Rights.{active_not_zero}

-- ---- what the table says of each entry

-- of a used entry: its processor is on the board, and its master is a board host but 0
pub record GoodPart (b : Board) (part : List ℕ) : Type 0 where
  pub on : used part ≡ true → on_board b (processor_in part) ≡ true
  pub master : used part ≡ true → active_host b (master_in part) ≡ true

pub data GoodParts (b : Board) : List (List ℕ) → Type 0 where
  none : GoodParts b []
  more : {part : List ℕ} {rest : List (List ℕ)} → GoodPart b part → GoodParts b rest → GoodParts b (part ∷ rest)

clear_means : (x y : Bool) → (x && not y) ≡ false → x ≡ true → y ≡ true
clear_means true y f t = not-false y f
clear_means false y f t = clash {x = false} t refl

-- entries that the table accepts are good
parts-good : (b : Board) (earlier rest : List (List ℕ)) → accepted (first_of Accepted (in_turn (entry_table b) earlier rest)) ≡ true → GoodParts b rest
unfolding in_turn entry_table accepted
parts-good b earlier [] ok = none
parts-good b earlier (part ∷ rest) ok =
    let a5 = passed accepted Accepted _ _ _ refl ok in
    let a6 = passed accepted Accepted _ _ _ refl a5 in
    let a7 = passed accepted Accepted _ _ _ refl a6 in
    let a8 = passed accepted Accepted _ _ _ refl a7 in
    more
    (record {
      on = clear_means (used part) (on_board b (processor_in part)) (cleared accepted Accepted _ _ _ refl ok);
      master = clear_means (used part) (active_host b (master_in part)) (cleared accepted Accepted _ _ _ refl a6);
    })
    (parts-good b (part ∷ earlier) rest a8)

-- so are those of an accepted list
list_good : (b : Board) (bytes : List ℕ) → accepted (verdict_of b false bytes) ≡ true → GoodParts b (parts bytes)
unfolding verdict_of content_table list_table accepted
list_good b bytes ok =
    let a1 = passed accepted Accepted _ _ _ refl ok in
    let a2 = passed accepted Accepted _ _ _ refl a1 in
    let a3 = passed accepted Accepted _ _ _ refl a2 in
    parts-good b [] (parts bytes) (passed accepted Accepted _ _ _ refl a3)

-- ---- entries by row

-- an entry of a used part has a master
entry_there : (b : Board) (part : List ℕ) → active_host b (master_in part) ≡ true → has_entry (entry_in part) ≡ true
unfolding has_entry entry_in
entry_there b part active = ap not (active_not_zero b (master_in part) active)

-- an entry put somewhere leaves an entry wherever there was one
set_there : (es : List Entry) (i j : ℕ) (e : Entry) → has_entry e ≡ true → has_entry (get_or es j no_entry) ≡ true
    → has_entry (get_or (set es i e) j no_entry) ≡ true
set_there es i j e new old =
    ⊎_elim
    (λ same.
    let is : j ≡ i = eqb-true j i same in
    ⊎_elim
    (λ inside. subst⁻¹ (λ (k : ℕ). has_entry (get_or (set es i e) k no_entry) ≡ true) is (ap has_entry (get_or-set_same es i e no_entry (ltb-true i (length es) inside)) ∙ new))
    (λ outside. ap (λ (l : List Entry). has_entry (get_or l j no_entry)) (set_out es i e (ltb-false i (length es) outside)) ∙ old)
    (decide (ltb i (length es))))
    (λ apart. ap has_entry (get_or-set_other es i j e no_entry (eqb-false j i apart)) ∙ old)
    (decide (eqb j i))

module _ (b : Board) where
  part-keeps : (part : List ℕ) → GoodPart b part → (es : List Entry) (j : ℕ)
      → has_entry (get_or es j no_entry) ≡ true → has_entry (get_or (with_part b part es) j no_entry) ≡ true
  unfolding with_part
  part-keeps part good es j old =
      ⊎_elim
      (λ (u : used part ≡ true). rw u (set_there es (row_of b (processor_in part)) j (entry_in part) (entry_there b part (good.master u)) old))
      (λ (u : used part ≡ false). rw u old)
      (decide (used part))

  parts-keep : {rest : List (List ℕ)} → GoodParts b rest → (es : List Entry) (j : ℕ)
      → has_entry (get_or es j no_entry) ≡ true → has_entry (get_or (with_parts b rest es) j no_entry) ≡ true
  unfolding with_parts
  parts-keep none es j old = old
  parts-keep (more {part = part} good rest) es j old = parts-keep rest (with_part b part es) j (part-keeps part good es j old)

  part_length : (part : List ℕ) (es : List Entry) → length (with_part b part es) ≡ length es
  unfolding with_part
  part_length part es =
      ⊎_elim
      (λ (u : used part ≡ true). rw u (length-set es (row_of b (processor_in part)) (entry_in part)))
      (λ (u : used part ≡ false). rw u)
      (decide (used part))

  -- the entry that names p is put at p's row
  part-there : (part : List ℕ) → GoodPart b part → (es : List Entry) (p : ℕ) → length es ≡ rows
      → used part ≡ true → processor_in part ≡ p → has_entry (get_or (with_part b part es) (row_of b p) no_entry) ≡ true
  unfolding with_part on_board
  part-there part good es p size u names =
      let inside : row_of b (processor_in part) < length es =
      subst⁻¹ (λ (n : ℕ). row_of b (processor_in part) < n) size (ltb-true (row_of b (processor_in part)) rows (good.on u))
      in
      subst (λ (r : ℕ). has_entry (get_or (with_part b part es) (row_of b r) no_entry) ≡ true) names
      (rw u
      (ap has_entry (get_or-set_same es (row_of b (processor_in part)) (entry_in part) no_entry inside)
      ∙ entry_there b part (good.master u)))

  parts-there : {rest : List (List ℕ)} → GoodParts b rest → (es : List Entry) (p : ℕ) → length es ≡ rows
      → named_in rest p ≡ true → has_entry (get_or (with_parts b rest es) (row_of b p) no_entry) ≡ true
  unfolding with_parts named_in any_of
  parts-there none es p size named = clash {x = false} named refl
  parts-there (more {part = part} {rest = tail} good rest) es p size named =
      ⊎_elim
      (λ here.
      parts-keep rest (with_part b part es) (row_of b p)
      (part-there part good es p size (and_left (used part) (eqb (processor_in part) p) here)
      (eqb-true (processor_in part) p (and_right (used part) (eqb (processor_in part) p) here))))
      (λ later. parts-there rest (with_part b part es) p (part_length part es ∙ size) later)
      (or_cases (used part && eqb (processor_in part) p) (named_in tail p) named)

  -- a processor that a used entry of an accepted list names has an entry in force
  pub named_there : (bytes : List ℕ) (p : ℕ) → accepted (verdict_of b false bytes) ≡ true → named_in (parts bytes) p ≡ true
      → has_entry (get_or (entries_of b bytes) (row_of b p) no_entry) ≡ true
  unfolding entries_of no_entries
  named_there bytes p ok named =
      parts-there (list_good b bytes ok) (replicate rows no_entry) p (length-replicate rows no_entry) named

  -- and is on the board
  parts-on : {rest : List (List ℕ)} → GoodParts b rest → (p : ℕ) → named_in rest p ≡ true → on_board b p ≡ true
  unfolding named_in any_of
  parts-on none p named = clash {x = false} named refl
  parts-on (more {part = part} {rest = tail} good rest) p named =
      ⊎_elim
      (λ here.
      subst (λ (r : ℕ). on_board b r ≡ true) (eqb-true (processor_in part) p (and_right (used part) (eqb (processor_in part) p) here))
      (good.on (and_left (used part) (eqb (processor_in part) p) here)))
      (λ later. parts-on rest p later)
      (or_cases (used part && eqb (processor_in part) p) (named_in tail p) named)

  pub named_on : (bytes : List ℕ) (p : ℕ) → accepted (verdict_of b false bytes) ≡ true → named_in (parts bytes) p ≡ true → on_board b p ≡ true
  named_on bytes p ok named = parts-on (list_good b bytes ok) p named
