-- Laws of the memory that is cleared: a byte at a time it becomes that of a board with nothing listed.
use Prim.Native.Nat.{ℕ, ◌+◌, ◌≤◌, ◌<◌}
use native.Mathlib.Nat.{zero-add}
use native.Mathlib.Numerals.{add-one}
use native.Mathlib.Omega.{arith}
use mathlib.Core.Path.{◌≡◌, refl, sym, ap, ap₂, ◌∙◌}
use mathlib.Core.Bool.{true}
use mathlib.Core.List.{List, ◌++◌, append-nil}
use lib.ListN.{length, get_or, set, take, drop, drop_of_length-le}
use lib.Seq.{paste-suc, take_all}
use lib.Dec.{eqb}
use Rattle.rules.specs.Table.{first_of, any_of, place_of, all_from, table_of}
use Rattle.rules.specs.Description.{nothing_listed, lists_processor, mark_in, row_in, class_in, shared_in, home_in, board_of}
use Rattle.rules.proofs.Tests.{all_from-gives}
use Rattle.board.specs.Memory.{board_size, board_bytes}
use Rattle.board.specs.EmptyBoard.{clear_byte}

-- the bytes of a board with nothing listed
abbrev pub clear_bytes : List ℕ
clear_bytes = board_bytes (board_of nothing_listed)

clear_length : length clear_bytes ≡ board_size
unfolding board_bytes board_of table_of
clear_length = refl

-- computed at every place
clear_gives : all_from (λ (i x : ℕ). eqb x (clear_byte i)) 0 clear_bytes ≡ true
unfolding board_bytes board_of table_of all_from nothing_listed lists_processor mark_in row_in class_in shared_in home_in first_of any_of place_of clear_byte
clear_gives = refl

clear_at : (i : ℕ) → i < board_size → get_or clear_bytes i 0 ≡ clear_byte i
clear_at i h = all_from-gives clear_byte clear_bytes i 0 clear_gives (let n = clear_length in omega arith)

-- a byte is put behind those that stand at the start of the memory
pub clear_next : (held : List ℕ) (i : ℕ) {b : ℕ} → i < board_size → length held ≡ board_size → b ≡ clear_byte i
    → set (take i clear_bytes ++ drop i held) i b ≡ take (i + 1) clear_bytes ++ drop (i + 1) held
clear_next held i h size told =
    let n = clear_length in
    ap (set (take i clear_bytes ++ drop i held) i) (told ∙ sym (clear_at i h))
    ∙ (simp zero-add at (paste-suc held 0 clear_bytes i 0 (simp zero-add (omega arith)) (omega arith)))
    ∙ ap (λ (k : ℕ). take k clear_bytes ++ drop k held) (sym (add-one i))

-- all are put
pub clear_all : (held : List ℕ) (i : ℕ) → length held ≡ board_size → i ≡ board_size → take i clear_bytes ++ drop i held ≡ clear_bytes
clear_all held i size all =
    let n = clear_length in
    let past : length held ≤ i = omega arith in
    ap₂ ◌++◌ (take_all i clear_bytes (omega arith)) (drop_of_length-le held past)
    ∙ append-nil clear_bytes
