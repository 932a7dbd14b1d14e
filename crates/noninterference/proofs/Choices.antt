-- Which choices hold a cluster whole or not at all, on document 01's board and on a described one: the tests, computed.
use mathlib.Core.Path.{◌≡◌, refl}
use mathlib.Core.Bool.{true, false}
use mathlib.Core.List.{[], ◌∷◌}
use Rattle.rules.specs.Table.{first_of, any_of, all_of, place_of, all_from, table_of}
use Rattle.rules.specs.Board.{row_of, on_board, home_at, home_of, share_control}
use Rattle.rules.specs.Description.{nothing_listed, our_description, body_size, field_good, no_item, item_in, field_size, items_from, items_in, lists_processor, with_item, with_items, description_in, row_in, shared_cluster, shared_in, home_in, share_word, board_of, ours}
use Rattle.rules.specs.BenchBoard.{pack_bytes}
use Rattle.noninterference.specs.Statement.{clusters_whole, clusters_listed}

-- {1}, {32, 33} and all four do
pub whole-choices :
    (clusters_whole ours (1 ∷ []) ≡ true)
    × (clusters_whole ours (32 ∷ 33 ∷ []) ≡ true)
    × (clusters_whole ours (1 ∷ 2 ∷ 32 ∷ 33 ∷ []) ≡ true)
unfolding clusters_whole any_of all_of place_of all_from table_of ours our_description lists_processor row_in shared_cluster shared_in home_in board_of row_of on_board home_at home_of share_control
whole-choices = (refl, refl, refl)

-- {32} alone does not, nor does {33}
pub half_choices : (clusters_whole ours (32 ∷ []) ≡ false) × (clusters_whole ours (33 ∷ []) ≡ false)
unfolding clusters_whole any_of all_of place_of all_from table_of ours our_description lists_processor row_in shared_cluster shared_in home_in board_of row_of on_board home_at home_of share_control
half_choices = (refl, refl)

-- on the pack: an R5 processor of a cluster may be chosen alone, and a cluster of three ARMv8 ones whole, with one that is alone or without
pub pack-choices :
    (clusters_listed (description_in pack_bytes) (7 ∷ []) ≡ true)
    × (clusters_listed (description_in pack_bytes) (40 ∷ 41 ∷ 42 ∷ []) ≡ true)
    × (clusters_listed (description_in pack_bytes) (43 ∷ []) ≡ true)
    × (clusters_listed (description_in pack_bytes) (40 ∷ 42 ∷ 43 ∷ []) ≡ false)
unfolding clusters_listed any_of all_of place_of first_of nothing_listed body_size field_good no_item item_in field_size items_from items_in with_item with_items description_in lists_processor row_in shared_cluster shared_in share_word
pack-choices = (refl, refl, refl, refl)
