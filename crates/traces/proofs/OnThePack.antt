-- The theorem about the code is not empty on a described board: the board call takes a description over a fresh manager's memories, its board
-- accepts a list, and the theorem applies.
use Prim.Native.Nat.{ℕ}
use mathlib.Core.Path.{◌≡◌, refl}
use mathlib.Core.Bool.{false}
use mathlib.Core.List.{List, [], ◌∷◌}
use lib.ListN.{replicate}
use Rattle.rules.specs.Table.{first_of, any_of, all_of, place_of, all_from, table_of}
use Rattle.rules.specs.Verdict.{Accepted, accepted}
use Rattle.rules.specs.Board.{board_host, active_host, row_of, on_board, home_at, home_of, share_control}
use Rattle.rules.specs.Description.{nothing_listed, body_size, field_good, no_item, item_in, field_size, items_from, items_in, lists_host, lists_processor, repeats, other_class, is_full, item_table, with_item, items_table, description_table, board_verdict, with_items, description_in, mark_in, row_in, class_in, shared_cluster, shared_in, home_in, share_word, board_of, described, ours}
use Rattle.rules.specs.Substructure.{parts_of, named_in, in_turn}
use Rattle.rules.specs.AccessList.{entry_table, content_table, list_table, verdict_of}
use Rattle.rules.specs.BenchBoard.{pack_bytes, pack_list}
use Rattle.noninterference.specs.Statement.{clusters_whole}
use Rattle.board.specs.Memory.{board_in, board_bytes}
use Rattle.board.proofs.Read.{board_back}
use Rattle.board_setup.specs.Setup.{board_after}
use Rattle.access.specs.Memory.{access_size, listed_in}
use Rattle.call_offer.specs.AccessAfter.{access_after}
use Rattle.call_offer.specs.Calls.{BoardCall, ListCall}
use Rattle.call_offer.proofs.EachCall.{board_call_lem, list_call_lem}
use Rattle.record.specs.Memory.{record_size, Memories}
use Rattle.traces.specs.Trace.{started, board_step, list_step, before_of, after_of, Meets, done, step, Loads, Loaded}
use Rattle.traces.specs.Statement.{CodeNoninterference}
use Rattle.traces.proofs.Theorem.{of_the_code}

abbrev zeros : List ℕ
zeros = replicate access_size 0

abbrev described-memories : Memories
described-memories = record { board = board_bytes (described pack_bytes); access = zeros; records = replicate record_size 0 }

abbrev listed-memories : Memories
listed-memories =
    record { board = board_bytes (described pack_bytes); access = access_after (described pack_bytes) zeros pack_list; records = replicate record_size 0 }

-- the board call over the start's memory
pack_taken : BoardCall (board_bytes ours) zeros pack_bytes (board_bytes (described pack_bytes)) Accepted
unfolding first_of any_of all_of place_of table_of nothing_listed body_size field_good no_item item_in field_size items_from items_in lists_host lists_processor repeats other_class is_full item_table with_item items_table description_table board_verdict with_items description_in mark_in row_in class_in shared_cluster shared_in home_in share_word board_of accepted board_after listed_in
pack_taken = board_call_lem (board_bytes ours) zeros pack_bytes (board_bytes (described pack_bytes)) {x = false} refl refl refl

pack_back : board_in (board_bytes (described pack_bytes)) ≡ described pack_bytes
unfolding described
pack_back = board_back (description_in pack_bytes)

-- the list call on its board
list_taken_lem : ListCall (board_bytes (described pack_bytes)) zeros pack_list (access_after (described pack_bytes) zeros pack_list) Accepted
unfolding first_of any_of all_of place_of table_of nothing_listed body_size field_good no_item item_in field_size items_from items_in lists_host lists_processor repeats other_class is_full item_table with_item items_table description_table board_verdict with_items description_in mark_in row_in class_in shared_cluster shared_in home_in share_word board_of described board_host active_host row_of on_board parts_of named_in entry_table in_turn content_table list_table verdict_of listed_in
list_taken_lem = list_call_lem (board_bytes (described pack_bytes)) zeros pack_list pack_back refl refl

pub pack_loaded : Loaded (described pack_bytes) pack_list listed-memories
unfolding Meets before_of after_of Loads
pack_loaded =
    record {
      earlier = board_step pack_bytes started described-memories 0 ∷ [];
      last = list_step pack_list described-memories listed-memories 0;
      trace =
          step {x = board_step pack_bytes started described-memories 0} refl (record { told = Accepted; meets = pack_taken; number = refl }, refl, refl)
          (step {x = list_step pack_list described-memories listed-memories 0} refl
          (record { told = Accepted; meets = list_taken_lem; number = refl }, refl, refl) done);
      takes = (refl, refl);
      left = refl;
      in_force_lem = pack_back;
    }

pub on_the_pack_lem : CodeNoninterference (described pack_bytes) pack_list (40 ∷ 41 ∷ 42 ∷ [])
unfolding first_of any_of all_of place_of table_of nothing_listed body_size field_good no_item item_in field_size items_from items_in lists_host lists_processor repeats other_class is_full item_table with_item items_table description_table board_verdict with_items description_in mark_in row_in class_in shared_cluster shared_in home_in share_word board_of described all_from row_of on_board home_at home_of share_control parts_of named_in clusters_whole
on_the_pack_lem = of_the_code (described pack_bytes) pack_list (40 ∷ 41 ∷ 42 ∷ []) refl refl
