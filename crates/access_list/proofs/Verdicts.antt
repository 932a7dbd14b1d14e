-- Laws of the judge of a list: what the code's tests say of a processor and of a host, what one entry comes to, and what is left after it.
use Prim.Native.Nat.{ℕ, zero, suc, ◌+◌, ◌*◌, ◌<◌, ◌≤◌}
use native.Mathlib.Omega.{arith}
use mathlib.Core.Path.{◌≡◌, refl, sym, ap, subst, ◌∙◌}
use mathlib.Core.Bool.{Bool, true, false, cond, not, ◌||◌}
use mathlib.Core.List.{List}
use lib.ListN.{length, drop}
use borrow.Author.Tests.{le-ltb, lt-ltb, eq-eqb, ne_eqb}
use Rattle.std.specs.Prelude.{Err}
use Rattle.rules.specs.declared.Fault.{Fault}
use Rattle.rules.specs.declared.Fault.TheVariants.{A1, A2, A5, A6, A7, A8}
use Rattle.rules.specs.Table.{first_of, any_of}
use Rattle.rules.specs.Bytes.{u16_at}
use Rattle.rules.specs.Verdict.{Verdict, Accepted, accepted}
use Rattle.rules.specs.Board.{Board, board_host, active_host, rows, row_of, on_board}
use Rattle.rules.specs.Substructure.{entry_count, part_at, named_in}
use Rattle.rules.specs.AccessList.{list_size, entry_size, processor_in, master_in, secondaries_in, bad_secondary, entry_table, content_table, list_table, verdict_of}
use Rattle.rules.proofs.Tests.{skipped}
use Rattle.access_list.specs.Entries.{parts_before, number_before, entry_fault}
use Rattle.access_list.proofs.Substructure.{number_named, verdict_from, from_entry}

-- A1 and A2 are passed
pub past_length : (b : Board) (listed : Bool) (list : List ℕ) → listed ≡ false → length list ≡ list_size → verdict_of b listed list ≡ first_of Accepted (content_table b list)
unfolding verdict_of list_table
past_length b listed list first size = skipped Accepted (Err A1) _ first ∙ skipped Accepted (Err A2) _ (ap not (eq-eqb (length list) list_size size))

module _ (b : Board) where
  -- ---- what the code's tests say

  -- of a processor p, read as q
  pub off_board_lem : {p q row : ℕ} → row ≡ row_of b q → q ≡ p → rows ≤ row → on_board b p ≡ false
  unfolding on_board
  off_board_lem {p} at same h = le-ltb (row_of b p) rows (subst (λ (r : ℕ). rows ≤ r) (at ∙ ap (row_of b) same) h)

  pub on_board_lem : {p q row : ℕ} → row ≡ row_of b q → q ≡ p → row < rows → on_board b p ≡ true
  unfolding on_board
  on_board_lem {p} at same h = lt-ltb (row_of b p) rows (subst (λ (r : ℕ). r < rows) (at ∙ ap (row_of b) same) h)

  -- of a host s, read as h
  pub host_test : (test : Board → ℕ → Bool) {h s : ℕ} {r t : Bool} → r ≡ test b h → h ≡ s → not r ≡ t → not (test b s) ≡ t
  host_test test is same told = ap not (sym (ap (test b) same) ∙ sym is) ∙ told

  -- ---- A8: the secondaries in turn

  -- some secondary from k on is neither 0 nor a board host
  unfoldable pub bad_from : List ℕ → ℕ → Bool
  bad_from part k = any_of (bad_secondary b) (drop k (secondaries_in part))

  -- the secondary at k comes before those after it
  bad_next : (part : List ℕ) (k : ℕ) → k < 3 → bad_from part k ≡ (bad_secondary b (u16_at part (3 + 2 * k)) || bad_from part (k + 1))
  unfolding bad_from any_of
  bad_next part zero h = refl
  bad_next part (suc zero) h = refl
  bad_next part (suc (suc zero)) h = refl
  bad_next part (suc (suc (suc k))) h = absurd (omega arith)

  -- a turn of the loop: what it has read is the secondary and whether that is a board host
  module _ (part : List ℕ) (k : ℕ) {h : ℕ} {r : Bool} (inside : k < 3) (is : r ≡ board_host b h) (same : h ≡ u16_at part (3 + 2 * k)) where
    pub secondary_bad : not r ≡ true → bad_from part k ≡ true
    secondary_bad told = bad_next part k inside ∙ rw (host_test board_host is same told)

    pub secondary_good : not r ≡ false → bad_from part k ≡ bad_from part (k + 1)
    secondary_good told = bad_next part k inside ∙ rw (host_test board_host is same told)

  pub secondaries_good : (part : List ℕ) (k : ℕ) → k ≡ 3 → bad_from part k ≡ false
  unfolding bad_from any_of
  secondaries_good part k all = rw all

-- ---- A5 to A8: one entry

-- a fault among A5 to A7 comes before what follows them
faults_first : (off named alien : Bool) (rest : Verdict)
    → cond off (Err A5) (cond named (Err A6) (cond alien (Err A7) rest))
    ≡ cond (accepted (cond off (Err A5) (cond named (Err A6) (cond alien (Err A7) Accepted)))) rest (cond off (Err A5) (cond named (Err A6) (cond alien (Err A7) Accepted)))
unfolding accepted
faults_first true named alien rest = refl
faults_first false true alien rest = refl
faults_first false false true rest = refl
faults_first false false false rest = refl

-- ---- the entries in turn

-- what the entries from e on come to
abbrev pub left-from : Board → List ℕ → ℕ → Verdict
left-from b list e = verdict_from (entry_table b) entry_size list e

-- a turn of the loop: what it has read is the entry's part and its processor
module _ (b : Board) (list : List ℕ) (e : ℕ) {part : List ℕ} {p : ℕ} (h : e < entry_count) (is : part ≡ part_at entry_size list e) (at : p ≡ processor_in part) where
  number_is : p ≡ processor_in (part_at entry_size list e)
  number_is = at ∙ ap (λ (l : List ℕ). processor_in l) is

  -- an unused entry is passed over
  pub turn-unused : p ≡ 0 → left-from b list e ≡ left-from b list (e + 1)
  unfolding first_of entry_table
  turn-unused none =
      let zero_is : processor_in (part_at entry_size list e) ≡ 0 = sym number_is ∙ none in
      from_entry (entry_table b) entry_size list e h ∙ rw zero_is

  -- of a used entry also whether an earlier one names its processor, and A5 to A7
  module _ {fault : Verdict} {named : Bool} (some : p ≡ 0 → ⊥) (before : named ≡ number_before entry_size list e p)
      (judged : fault ≡ entry_fault b named part) where
    whole : fault ≡ entry_fault b (named_in (parts_before entry_size list e) (processor_in (part_at entry_size list e))) (part_at entry_size list e)
    whole =
        let named_is = before ∙ number_named entry_size list e p (omega arith) some in
        let same = number_is in cc

    -- A5 to A7 come first, then A8 and the entries below
    decides : left-from b list e ≡ cond (accepted fault) (cond (bad_from b part 0) (Err A8) (left-from b list (e + 1))) fault
    unfolding first_of entry_table entry_fault bad_from
    decides =
        let own = part_at entry_size list e in
        from_entry (entry_table b) entry_size list e h
        ∙ rw (ne_eqb (processor_in own) 0 (λ none. some (number_is ∙ none)), whole, is)
        (faults_first (not (on_board b (processor_in own))) (named_in (parts_before entry_size list e) (processor_in own)) (not (active_host b (master_in own)))
        (cond (any_of (bad_secondary b) (secondaries_in own)) (Err A8) (left-from b list (e + 1))))

    pub turn-bad : {x : Fault} → fault ≡ Err x → left-from b list e ≡ Err x
    unfolding accepted
    turn-bad bad = decides ∙ rw bad

    pub turn-good : fault ≡ Accepted → left-from b list e ≡ cond (bad_from b part 0) (Err A8) (left-from b list (e + 1))
    unfolding accepted
    turn-good good = decides ∙ rw good
