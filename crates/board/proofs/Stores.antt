-- Laws of a store in the memory of a board: it changes the board's tables, each at one place.
use Prim.Native.Nat.{ℕ, ◌+◌, ◌<◌}
use native.Mathlib.Nat.{zero-add, suc-add}
use native.Mathlib.Omega.{arith}
use mathlib.Core.Path.{◌≡◌, sym, ap, ◌∙◌}
use mathlib.Core.List.{List, [], ◌∷◌, ◌++◌}
use lib.ListN.{length, set, length-set}
use lib.Seq.{set-append_left}
use borrow.Author.Tests.{lt-ltb}
use Rattle.rules.specs.Board.{Board, rows}
use Rattle.rules.proofs.Tests.{cond-true}
use Rattle.board.specs.Memory.{places_place, classes_place, homes_place, board_bytes, with_host_mark, with_processor_at}
use Rattle.board.proofs.Extents.{Sized, size_two, size_three}

-- a store behind the first of two lists
set_past : (xs ys : List ℕ) (n i v : ℕ) → length xs ≡ n → set (xs ++ ys) (n + i) v ≡ xs ++ set ys i v
set_past xs ys n i v size = ap (λ (m : ℕ). set (xs ++ ys) (m + i) v) (sym size) ∙ go xs
  where
    go : (xs : List ℕ) → set (xs ++ ys) (length xs + i) v ≡ xs ++ set ys i v
    go [] = ap (λ (k : ℕ). set ys k v) (zero-add i)
    go (x ∷ xs) = ap (λ (k : ℕ). set (x ∷ (xs ++ ys)) k v) (suc-add (length xs) i) ∙ ap (λ (l : List ℕ). x ∷ l) (go xs)

-- a store in one of the four tables
module _ (a b c o : List ℕ) (size-a : length a ≡ places_place) (size-b : length b ≡ 256) (size-c : length c ≡ rows) (v : ℕ) where
  two : length (a ++ b) ≡ classes_place
  two = size_two a b size-a size-b

  three : length (a ++ b ++ c) ≡ homes_place
  three = size_three a b c size-a size-b size-c

  in_two : (i : ℕ) → i < classes_place → set (a ++ b ++ c ++ o) i v ≡ set (a ++ b) i v ++ c ++ o
  in_two i h =
      set-append_left (a ++ b ++ c) o i v (omega (arith, three))
      ∙ ap (λ (l : List ℕ). l ++ o) (set-append_left (a ++ b) c i v (omega (arith, two)))

  store_first : (i : ℕ) → i < 256 → set (a ++ b ++ c ++ o) i v ≡ set a i v ++ b ++ c ++ o
  store_first i h = in_two i (omega arith) ∙ ap (λ (l : List ℕ). l ++ c ++ o) (set-append_left a b i v (omega arith))

  store_place : (i : ℕ) → i < 256 → set (a ++ b ++ c ++ o) (places_place + i) v ≡ a ++ set b i v ++ c ++ o
  store_place i h = in_two (places_place + i) (omega arith) ∙ ap (λ (l : List ℕ). l ++ c ++ o) (set_past a b places_place i v size-a)

  store_class : (i : ℕ) → i < rows → set (a ++ b ++ c ++ o) (classes_place + i) v ≡ a ++ b ++ set c i v ++ o
  store_class i h =
      set-append_left (a ++ b ++ c) o (classes_place + i) v (omega (arith, three))
      ∙ ap (λ (l : List ℕ). l ++ o) (set_past (a ++ b) c classes_place i v two)

  store_home : (i : ℕ) → set (a ++ b ++ c ++ o) (homes_place + i) v ≡ a ++ b ++ c ++ set o i v
  store_home i = set_past (a ++ b ++ c) o homes_place i v three

module _ (b : Board) (s : Sized b) where
  pub host_stored : (h mark : ℕ) → h < 256
      → with_host_mark (board_bytes b) h mark
      ≡ board_bytes (record { hosts = set b.hosts h mark; places = b.places; classes = b.classes; homes = b.homes })
  unfolding board_bytes
  host_stored h mark byte = store_first b.hosts b.places b.classes b.homes s.hosts s.places s.classes mark h byte

  pub processor_stored : (p row class home : ℕ) → p < 256 → row < rows
      → with_processor_at (board_bytes b) p row class home
      ≡ board_bytes
      (record { hosts = b.hosts; places = set b.places p row; classes = set b.classes row class; homes = set b.homes row home })
  unfolding with_processor_at board_bytes
  processor_stored p row class home byte room =
      let placed = length-set b.places p row ∙ s.places in
      let classed = length-set b.classes row class ∙ s.classes in
      cond-true _ _ (lt-ltb row rows room)
      ∙ ap (λ (m : List ℕ). set (set m (classes_place + row) class) (homes_place + row) home)
      (store_place b.hosts b.places b.classes b.homes s.hosts s.places s.classes row p byte)
      ∙ ap (λ (m : List ℕ). set m (homes_place + row) home)
      (store_class b.hosts (set b.places p row) b.classes b.homes s.hosts placed s.classes class row room)
      ∙ store_home b.hosts (set b.places p row) (set b.classes row class) b.homes s.hosts placed classed home row
