-- The board memory after a description is offered (document 02, L8: "taken whole, replacing the board before it"), and the steps by
-- which it is filled item by item.
use Rattle.std.specs.Prelude.{ℕ, ◌+◌, Bool, cond, not, ◌&&◌, List, eqb}
use Rattle.rules.specs.declared.Item.{Item}
use Rattle.rules.specs.Verdict.{accepted}
use Rattle.rules.specs.Description.{Description, is_host, item_processor, with_item, board_verdict, shared_cluster, home_in, described}
use Rattle.board.specs.Memory.{board_bytes, with_host_mark, with_processor_at}

-- what the memory holds after an offer: the described board, or what it held where the description is refused
unfoldable pub board_after : List ℕ → Bool → List ℕ → List ℕ
board_after m listed bytes = cond (accepted (board_verdict listed bytes)) (board_bytes (described bytes)) m

-- ---- the steps

-- an item is a processor that has the control word of cluster c
unfoldable pub shares_word : Item → ℕ → Bool
shares_word x c = not (is_host x) && eqb c (shared_cluster (item_processor x))

-- the first row behind an item, where `row` is the first behind those before it
unfoldable pub row_after : ℕ → Item → ℕ
row_after row x = cond (is_host x) row (row + 1)

-- an item put on the board that lists d, where `row` is the first free one
unfoldable pub put_item : List ℕ → Description → Item → ℕ → List ℕ
put_item m d x row =
    cond (is_host x)
    (with_host_mark m x.number (1 + x.mark))
    (with_processor_at m x.number row x.mark (home_in (with_item d x) row))
