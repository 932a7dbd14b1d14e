-- Homes of control words (document 02, L4): a home is one of the rows, and its own home; the processors of a board share a control word exactly
-- where they are of one ARMv8 cluster, and then have one class. For any description.
use Prim.Native.Nat.{ℕ, zero, suc, ◌%◌, ◌≤◌, ◌<◌}
use mathlib.Core.Path.{◌≡◌, refl, sym, subst⁻¹, ◌∙◌, ap}
use mathlib.Core.Bool.{Bool, true, false, not, ◌&&◌}
use mathlib.Core.List.{List, [], ◌∷◌, map}
use mathlib.Core.Logic.{⊎_elim}
use native.Mathlib.Nat.{lt_of_le_of_lt}
use native.Mathlib.Omega.{arith}
use lib.ListN.{get_or}
use lib.Dec.{eqb}
use borrow.Author.Tests.{eqb-true, eq-eqb, ne_eqb, not-true}
use Rattle.rules.specs.Table.{place_of}
use Rattle.rules.specs.Board.{Board, armv8, rows, row_of, on_board, class_at, class_of, home_at, home_of, share_control}
use Rattle.rules.specs.Description.{Processor, Description, row_in, class_in, shared_cluster, shared_in, home_in, share_word, board_of, Good}
use Rattle.rules.proofs.Tests.{decide, clash, cond-true, cond-false, and_left, and_right, and_both, or_cases, or_left, or_right}
use Rattle.rules.proofs.Tables.{table_here}
use Rattle.rules.proofs.Rows.{placed, row_one}

-- the processor has the word of cluster c
abbrev in_cluster : ℕ → Processor → Bool
in_cluster c x = eqb c (shared_cluster x)

abbrev clusters : List Processor → List ℕ
clusters xs = map shared_cluster xs

-- the first processor of the cluster whose word the one at a row has stands there or before, and has that word
cluster_first : (xs : List Processor) (row c : ℕ) → get_or (clusters xs) row 0 ≡ c → eqb c 0 ≡ false
    → (place_of (in_cluster c) xs ≤ row) × (get_or (clusters xs) (place_of (in_cluster c) xs) 0 ≡ c)
unfolding place_of
cluster_first [] row c is some = clash (eq-eqb c 0 (sym is)) some
cluster_first (x ∷ xs) zero c is some = rw (eq-eqb c (shared_cluster x) (sym is)) (omega arith, is)
cluster_first (x ∷ xs) (suc row) c is some =
    let further = cluster_first xs row c is some in
    ⊎_elim
    (λ (t : in_cluster c x ≡ true). rw t (omega arith, sym (eqb-true c (shared_cluster x) t)))
    (λ (f : in_cluster c x ≡ false). rw f (let h = further.0 in omega arith, further.1))
    (decide (in_cluster c x))

module _ (d : Description) (row : ℕ) where
  -- so a home is a row: the row itself, or one before it
  home_before : home_in d row ≤ row
  unfolding home_in shared_in
  home_before =
      ⊎_elim
      (λ (alone : eqb (shared_in d row) 0 ≡ true). rw alone (omega arith))
      (λ (some : eqb (shared_in d row) 0 ≡ false). rw some (cluster_first d.processors row (shared_in d row) refl some).0)
      (decide (eqb (shared_in d row) 0))

  -- of the same cluster
  home_cluster : shared_in d (home_in d row) ≡ shared_in d row
  unfolding home_in shared_in
  home_cluster =
      ⊎_elim
      (λ (alone : eqb (shared_in d row) 0 ≡ true). ap (shared_in d) (cond-true row _ alone))
      (λ (some : eqb (shared_in d row) 0 ≡ false).
      ap (shared_in d) (cond-false row _ some) ∙ (cluster_first d.processors row (shared_in d row) refl some).1)
      (decide (eqb (shared_in d row) 0))

  home_alone : eqb (shared_in d row) 0 ≡ true → home_in d row ≡ row
  unfolding home_in
  home_alone alone = cond-true row _ alone

  -- the rows of a cluster have one home
  home_one : (other : ℕ) → eqb (shared_in d row) 0 ≡ false → shared_in d row ≡ shared_in d other → home_in d row ≡ home_in d other
  unfolding home_in
  home_one other some same =
      cond-false row _ some
      ∙ ap (λ (c : ℕ). place_of (in_cluster c) d.processors) same
      ∙ sym (cond-false other _ (ap (λ (c : ℕ). eqb c 0) (sym same) ∙ some))

-- a home is its own home
home_again : (d : Description) (row : ℕ) → home_in d (home_in d row) ≡ home_in d row
home_again d row =
    ⊎_elim (λ alone. ap (home_in d) (home_alone d row alone))
    (λ some. home_one d (home_in d row) row (ap (λ (c : ℕ). eqb c 0) (home_cluster d row) ∙ some) (home_cluster d row))
    (decide (eqb (shared_in d row) 0))

-- ---- on the board

-- whatever the tables hold, a home is a row
pub home_small : (b : Board) (row : ℕ) → home_at b row < rows
unfolding home_at
home_small b row = omega arith

module _ (d : Description) (row : ℕ) (h : row < rows) where
  home_told : home_at (board_of d) row ≡ home_in d row
  unfolding home_at board_of
  home_told =
      ap (λ (n : ℕ). n % rows) (table_here (home_in d) 0 rows row h)
      ∙ (let within = home_before d row in omega arith)

  class_told : class_at (board_of d) row ≡ class_in d row % 2
  unfolding class_at board_of
  class_told = ap (λ (n : ℕ). n % 2) (table_here (class_in d) 0 rows row h)

-- the class of a processor on the board is that of the description
pub class_rule : (d : Description) (p : ℕ) → on_board (board_of d) p ≡ true → class_of (board_of d) p ≡ class_in d (row_in d p) % 2
unfolding class_of
class_rule d p on =
    let at = placed d p on in
    class_told d (row_of (board_of d) p) at.below ∙ ap (λ (n : ℕ). class_in d n % 2) (at.row ∙ sym at.in_list)

-- a processor that has a cluster's word is ARMv8
shared_class : (xs : List Processor) (row : ℕ) → eqb (get_or (clusters xs) row 0) 0 ≡ false → get_or (map (λ (x : Processor). x.class) xs) row 0 ≡ armv8
unfolding shared_cluster
shared_class [] row some = clash {x = true} refl some
shared_class (x ∷ xs) zero some =
    ⊎_elim (λ t. eqb-true x.class armv8 t) (λ (f : eqb x.class armv8 ≡ false). clash {x = true} refl (rw f at some)) (decide (eqb x.class armv8))
shared_class (x ∷ xs) (suc row) some = shared_class xs row some

-- rows of one home have one cluster's word, and one class
one_cluster : (d : Description) (row other : ℕ) → home_in d row ≡ home_in d other → shared_in d row ≡ shared_in d other
one_cluster d row other one = sym (home_cluster d row) ∙ ap (shared_in d) one ∙ home_cluster d other

one_class : (d : Description) (row other : ℕ) → home_in d row ≡ home_in d other → class_in d row ≡ class_in d other
unfolding shared_in class_in
one_class d row other one =
    let same = one_cluster d row other one in
    ⊎_elim
    (λ alone.
    ap (class_in d) (sym (home_alone d row alone) ∙ one ∙ home_alone d other (ap (λ (c : ℕ). eqb c 0) (sym same) ∙ alone)))
    (λ some.
    shared_class d.processors row some
    ∙ sym (shared_class d.processors other (ap (λ (c : ℕ). eqb c 0) (sym same) ∙ some)))
    (decide (eqb (shared_in d row) 0))

-- what holds of the board that a description gives
pub board_good : (d : Description) → Good (board_of d)
unfolding home_of class_of
board_good d =
    record {
      rows_apart = row_one d;
      sharers_class =
          λ p r on-p on-r one.
          let at_p = (placed d p on-p).below in
          let at-r = (placed d r on-r).below in
          class_told d (row_of (board_of d) p) at_p
          ∙ ap (λ (n : ℕ). n % 2) (one_class d _ _ (sym (home_told d _ at_p) ∙ one ∙ home_told d _ at-r))
          ∙ sym (class_told d (row_of (board_of d) r) at-r);
      home_within =
          λ p on.
          subst⁻¹ (λ (n : ℕ). n ≤ row_of (board_of d) p) (home_told d _ (placed d p on).below) (home_before d (row_of (board_of d) p));
      home_home =
          λ p on.
          let at = (placed d p on).below in
          let row = row_of (board_of d) p in
          ap (home_at (board_of d)) (home_told d row at)
          ∙ home_told d (home_in d row) (lt_of_le_of_lt (home_before d row) at)
          ∙ home_again d row
          ∙ sym (home_told d row at);
    }

-- ---- who shares a control word

module _ (d : Description) (p r : ℕ) (on-p : on_board (board_of d) p ≡ true) (on-r : on_board (board_of d) r ≡ true) where
  row_p : row_of (board_of d) p ≡ row_in d p
  row_p = (placed d p on-p).row ∙ sym (placed d p on-p).in_list

  row_r : row_of (board_of d) r ≡ row_in d r
  row_r = (placed d r on-r).row ∙ sym (placed d r on-r).in_list

  home_p : home_of (board_of d) p ≡ home_in d (row_in d p)
  unfolding home_of
  home_p = home_told d _ (placed d p on-p).below ∙ ap (home_in d) row_p

  home_r : home_of (board_of d) r ≡ home_in d (row_in d r)
  unfolding home_of
  home_r = home_told d _ (placed d r on-r).below ∙ ap (home_in d) row_r

  sharers_home : share_word d p r ≡ true → home_in d (row_in d p) ≡ home_in d (row_in d r)
  unfolding share_word
  sharers_home shared =
      let some = not (eqb (shared_in d (row_in d p)) 0) in
      let same = eqb (shared_in d (row_in d p)) (shared_in d (row_in d r)) in
      ⊎_elim (λ e. ap (λ (x : ℕ). home_in d (row_in d x)) (eqb-true p r e))
      (λ one.
      home_one d (row_in d p) (row_in d r) (not-true _ (and_left some same one))
      (eqb-true (shared_in d (row_in d p)) (shared_in d (row_in d r)) (and_right some same one)))
      (or_cases (eqb p r) (some && same) shared)

  home_shared : home_in d (row_in d p) ≡ home_in d (row_in d r) → share_word d p r ≡ true
  unfolding share_word
  home_shared one =
      let same = one_cluster d (row_in d p) (row_in d r) one in
      ⊎_elim
      (λ alone.
      let row : row_in d p ≡ row_in d r =
      sym (home_alone d (row_in d p) alone) ∙ one ∙ home_alone d (row_in d r) (ap (λ (c : ℕ). eqb c 0) (sym same) ∙ alone)
      in
      or_left _ (eq-eqb p r (row_one d p r (row_p ∙ row ∙ sym row_r) on-r)))
      (λ some. or_right (eqb p r) (and_both (ap not some) (eq-eqb _ _ same)))
      (decide (eqb (shared_in d (row_in d p)) 0))

  -- processors on the board share a control word exactly where they are one, or of one ARMv8 cluster
  pub share_clusters : share_control (board_of d) p r ≡ share_word d p r
  unfolding share_control
  share_clusters =
      ⊎_elim
      (λ shared. eq-eqb _ _ (home_p ∙ sharers_home shared ∙ sym home_r) ∙ sym shared)
      (λ apart. ne_eqb _ _ (λ e. clash (home_shared (sym home_p ∙ e ∙ home_r)) apart) ∙ sym apart)
      (decide (share_word d p r))
