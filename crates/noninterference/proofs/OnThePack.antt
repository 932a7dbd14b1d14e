-- The theorem for every description is not empty: on a described board, with a list that it accepts, demand 3 holds of an R5 processor alone, also
-- one of a cluster, and of a cluster of three ARMv8 processors.
use Prim.Native.Nat.{ℕ}
use mathlib.Core.Path.{◌≡◌, refl}
use mathlib.Core.Bool.{true, false}
use mathlib.Core.List.{List, [], ◌∷◌}
use Rattle.rules.specs.Table.{first_of, any_of, all_of, place_of, table_of}
use Rattle.rules.specs.Verdict.{accepted}
use Rattle.rules.specs.Board.{board_host, active_host, row_of, on_board}
use Rattle.rules.specs.Description.{nothing_listed, body_size, field_good, no_item, item_in, field_size, items_from, items_in, lists_host, lists_processor, repeats, other_class, is_full, item_table, with_item, items_table, description_table, board_verdict, with_items, description_in, mark_in, row_in, class_in, shared_cluster, shared_in, home_in, share_word, board_of, described, ours}
use Rattle.rules.specs.Substructure.{parts_of, named_in, in_turn}
use Rattle.rules.specs.AccessList.{parts, entry_table, content_table, list_table, verdict_of}
use Rattle.rules.specs.State.{State, fresh}
use Rattle.rules.specs.Call.{board, list, offer}
use Rattle.rules.specs.Sequence.{run}
use Rattle.rules.specs.BenchBoard.{pack_bytes, pack_list}
use Rattle.noninterference.specs.Statement.{clusters_listed, Noninterference, list_of, loads}
use Rattle.noninterference.proofs.Theorem.{for_every_description}

abbrev start : State
start = run (fresh ours) (offer (board pack_bytes) ∷ offer (list pack_list) ∷ [])

-- the description is taken, and its board accepts the list
pack_taken : accepted (board_verdict false pack_bytes) ≡ true
unfolding first_of any_of all_of place_of table_of nothing_listed body_size field_good no_item item_in field_size items_from items_in lists_host lists_processor repeats other_class is_full item_table with_item items_table description_table board_verdict with_items description_in mark_in row_in class_in shared_cluster shared_in home_in share_word board_of described accepted
pack_taken = refl

list_taken_lem : accepted (verdict_of (described pack_bytes) false pack_list) ≡ true
unfolding first_of any_of all_of place_of table_of nothing_listed body_size field_good no_item item_in field_size items_from items_in lists_host lists_processor repeats other_class is_full item_table with_item items_table description_table board_verdict with_items description_in mark_in row_in class_in shared_cluster shared_in home_in share_word board_of described board_host active_host row_of on_board parts_of named_in entry_table in_turn content_table list_table verdict_of accepted
list_taken_lem = refl

of_choice : (chosen : List ℕ) → all_of (named_in (parts pack_list)) chosen ≡ true → clusters_listed (description_in pack_bytes) chosen ≡ true → Noninterference start chosen
unfolding loads list_of
of_choice chosen named whole = for_every_description pack_bytes (list pack_list) chosen pack_taken list_taken_lem named whole

pub seven_alone : Noninterference start (7 ∷ [])
unfolding clusters_listed first_of any_of all_of place_of table_of nothing_listed body_size field_good no_item item_in field_size items_from items_in lists_host lists_processor repeats other_class is_full item_table with_item items_table description_table board_verdict with_items description_in mark_in row_in class_in shared_cluster shared_in home_in share_word board_of described parts_of named_in
seven_alone = of_choice (7 ∷ []) refl refl

pub three_cores : Noninterference start (40 ∷ 41 ∷ 42 ∷ [])
unfolding clusters_listed first_of any_of all_of place_of table_of nothing_listed body_size field_good no_item item_in field_size items_from items_in lists_host lists_processor repeats other_class is_full item_table with_item items_table description_table board_verdict with_items description_in mark_in row_in class_in shared_cluster shared_in home_in share_word board_of described parts_of named_in
three_cores = of_choice (40 ∷ 41 ∷ 42 ∷ []) refl refl
