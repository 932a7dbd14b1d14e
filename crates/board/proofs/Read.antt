-- The board memory as it is read: each look-up of the rules is one byte of it, for any content; and the bytes of a board whose tables have their
-- lengths read as that board.
use Prim.Native.Nat.{ℕ, ◌+◌, ◌%◌, ◌≤◌, ◌<◌}
use mathlib.Core.Path.{◌≡◌, sym, ap, ◌∙◌}
use mathlib.Core.Bool.{Bool, false, not, ◌||◌}
use mathlib.Core.List.{List, ◌++◌}
use native.Mathlib.Nat.{zero-add}
use native.Mathlib.Omega.{arith}
use lib.ListN.{length, get_or, get_or-append}
use lib.Seq.{get_or-append-add}
use lib.Dec.{eqb}
use Rattle.rules.specs.Table.{table_of}
use Rattle.rules.specs.Board.{Board, rows, board_host, row_of, class_at, home_at}
use Rattle.rules.specs.Description.{Description, board_of}
use Rattle.rules.proofs.Tables.{table_here, table_past, table_is}
use Rattle.board.specs.Memory.{places_place, classes_place, homes_place, board_in, board_bytes}
use Rattle.board.proofs.Extents.{Sized, board_sized, size_two, size_three}

module _ (m : List ℕ) where
  -- a host but 0, by its byte, and one above 255
  pub host_read : (h : ℕ) → h < 256 → eqb h 0 ≡ false → not (eqb (get_or m h 0) 0) ≡ board_host (board_in m) h
  unfolding board_host board_in
  host_read h byte some =
      ap (λ (n : ℕ). not (eqb n 0)) (sym (table_here (λ (k : ℕ). get_or m k 0) 0 256 h byte))
      ∙ ap (λ (z : Bool). z || not (eqb (get_or (board_in m).hosts h 0) 0)) (sym some)

  pub host_none : (h : ℕ) → 256 ≤ h → eqb h 0 ≡ false → false ≡ board_host (board_in m) h
  unfolding board_host board_in
  host_none h past some = rw (some, table_past (λ (k : ℕ). get_or m k 0) 0 256 0 h past)

  pub row_read : (p : ℕ) → p < 256 → get_or m (places_place + p) 0 ≡ row_of (board_in m) p
  unfolding row_of board_in
  row_read p byte = sym (table_here (λ (k : ℕ). get_or m (places_place + k) 0) rows 256 p byte)

  pub class_read : (row : ℕ) → row < rows → get_or m (classes_place + row) 0 % 2 ≡ class_at (board_in m) row
  unfolding class_at board_in
  class_read row h = ap (λ (n : ℕ). n % 2) (sym (table_here (λ (k : ℕ). get_or m (classes_place + k) 0) 0 rows row h))

  pub class_past : (row : ℕ) → rows ≤ row → 0 ≡ class_at (board_in m) row
  unfolding class_at board_in
  class_past row h = ap (λ (n : ℕ). n % 2) (sym (table_past (λ (k : ℕ). get_or m (classes_place + k) 0) 0 rows 0 row h))

  pub home_read : (row : ℕ) → row < rows → get_or m (homes_place + row) 0 % rows ≡ home_at (board_in m) row
  unfolding home_at board_in
  home_read row h = ap (λ (n : ℕ). n % rows) (sym (table_here (λ (k : ℕ). get_or m (homes_place + k) 0) 0 rows row h))

  pub home_past : (row : ℕ) → rows ≤ row → 0 ≡ home_at (board_in m) row
  unfolding home_at board_in
  home_past row h = ap (λ (n : ℕ). n % rows) (sym (table_past (λ (k : ℕ). get_or m (homes_place + k) 0) 0 rows 0 row h))

-- ---- a board's bytes read back

-- a place behind the first part of two
append_past : (xs ys : List ℕ) (n k : ℕ) → length xs ≡ n → get_or (xs ++ ys) (n + k) 0 ≡ get_or ys k 0
append_past xs ys n k size = ap (λ (i : ℕ). get_or (xs ++ ys) (i + k) 0) (sym size) ∙ get_or-append-add xs ys k 0

module _ (b : Board) (s : Sized b) where
  two : length (b.hosts ++ b.places) ≡ classes_place
  two = size_two b.hosts b.places s.hosts s.places

  three : length (b.hosts ++ b.places ++ b.classes) ≡ homes_place
  three = size_three b.hosts b.places b.classes s.hosts s.places s.classes

  -- places in front of the tables behind
  in_three : (k : ℕ) → k < homes_place → get_or (board_bytes b) k 0 ≡ get_or (b.hosts ++ b.places ++ b.classes) k 0
  unfolding board_bytes
  in_three k h = get_or-append (b.hosts ++ b.places ++ b.classes) b.homes 0 k (omega (arith, three))

  in_two : (k : ℕ) → k < classes_place → get_or (board_bytes b) k 0 ≡ get_or (b.hosts ++ b.places) k 0
  in_two k h = in_three k (omega arith) ∙ get_or-append (b.hosts ++ b.places) b.classes 0 k (omega (arith, two))

  -- a table that is read back, place by place
  table_back : (xs : List ℕ) (n : ℕ) (f : ℕ → ℕ) → length xs ≡ n → ((k : ℕ) → k < n → f k ≡ get_or xs k 0) → table_of f 0 n ≡ xs
  table_back xs n f size read =
      ap (table_of f 0) (sym size) ∙ table_is f 0 xs 0 (λ k h. ap f (zero-add k) ∙ read k (omega arith))

  read_back : board_in (board_bytes b) ≡ b
  unfolding board_in board_bytes
  read_back =
      λ t.
      record {
        hosts =
            table_back b.hosts 256 (λ (h : ℕ). get_or (board_bytes b) h 0) s.hosts
            (λ k h. in_two k (omega arith) ∙ get_or-append b.hosts b.places 0 k (omega (arith, s.hosts))) t;
        places =
            table_back b.places 256 (λ (p : ℕ). get_or (board_bytes b) (places_place + p) 0) s.places
            (λ k h. in_two (places_place + k) (omega arith) ∙ append_past b.hosts b.places places_place k s.hosts) t;
        classes =
            table_back b.classes rows (λ (row : ℕ). get_or (board_bytes b) (classes_place + row) 0) s.classes
            (λ k h. in_three (classes_place + k) (omega arith) ∙ append_past (b.hosts ++ b.places) b.classes classes_place k two) t;
        homes =
            table_back b.homes rows (λ (row : ℕ). get_or (board_bytes b) (homes_place + row) 0) s.homes
            (λ k h. append_past (b.hosts ++ b.places ++ b.classes) b.homes homes_place k three) t;
      }

-- so those of a description's board do
pub board_back : (d : Description) → board_in (board_bytes (board_of d)) ≡ board_of d
board_back d = read_back (board_of d) (board_sized d)
