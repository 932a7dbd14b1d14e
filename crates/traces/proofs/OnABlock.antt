-- The theorem about the code holds of a block: the block call takes the bench list in a block over memories of zeros, and leaves the memories that the
-- lone list would.
use mathlib.Core.Path.{◌≡◌, refl}
use mathlib.Core.List.{[], ◌∷◌}
use lib.ListN.{replicate}
use Rattle.rules.specs.Table.{first_of, any_of, place_of, table_of}
use Rattle.rules.specs.Verdict.{Accepted, accepted}
use Rattle.rules.specs.Board.{board_host, active_host, row_of, on_board}
use Rattle.rules.specs.Description.{our_description, lists_processor, mark_in, row_in, class_in, shared_cluster, shared_in, home_in, board_of, ours}
use Rattle.rules.specs.Substructure.{parts_of, named_in, in_turn}
use Rattle.rules.specs.AccessList.{entry_table, content_table, list_table, verdict_of}
use Rattle.rules.specs.Hierarchy.{supervisor_of, meets, on_loop, first_host, loop_host, pair_table, hierarchy_table}
use Rattle.rules.specs.Block.{otp_table, block_table, block_verdict}
use Rattle.rules.specs.Bench.{bench_list}
use Rattle.rules.specs.BenchBlock.{bench_block}
use Rattle.access.specs.Memory.{access_size, listed_in}
use Rattle.call_offer.specs.AccessAfter.{access_by, access_after, access_after_block}
use Rattle.board.specs.Memory.{board_bytes}
use Rattle.board_setup.proofs.Started.{start-read}
use Rattle.call_offer.specs.Calls.{BlockCall}
use Rattle.call_offer.proofs.EachCall.{block_call_lem}
use Rattle.record.specs.Memory.{record_size, Memories}
use Rattle.traces.specs.Trace.{started, block_step, before_of, after_of, Meets, done, step, Loads, Loaded}
use Rattle.traces.proofs.OnTheBench.{listed-memories}

abbrev blocked-memories : Memories
blocked-memories = record { board = board_bytes ours; access = access_after_block ours (replicate access_size 0) 0 1 bench_block; records = replicate record_size 0 }

block_accepted : BlockCall (board_bytes ours) (replicate access_size 0) 0 1 bench_block (access_after_block ours (replicate access_size 0) 0 1 bench_block) Accepted
unfolding table_of ours our_description lists_processor mark_in row_in class_in shared_cluster shared_in home_in board_of first_of any_of board_host active_host place_of row_of on_board parts_of named_in entry_table in_turn content_table supervisor_of meets on_loop first_host loop_host pair_table hierarchy_table otp_table block_table block_verdict listed_in
block_accepted = block_call_lem (board_bytes ours) (replicate access_size 0) bench_block start-read 0 1 refl refl

-- the list that is in force is the bench list, and so the theorem for it speaks of these memories too
pub block_loaded : Loaded ours bench_list blocked-memories
unfolding Meets before_of after_of Loads
block_loaded =
    record {
      earlier = [];
      last = block_step 0 1 bench_block started blocked-memories 0 (0 ∷ []);
      trace =
          step {x = block_step 0 1 bench_block started blocked-memories 0 (0 ∷ [])} refl
          (record { told = Accepted; meets = block_accepted; number = refl; host = refl }, refl, refl) done;
      takes = (refl, refl);
      left = refl;
      in_force_lem = start-read;
    }

-- the memories are those that the lone list leaves
pub same_memories : blocked-memories ≡ listed-memories
unfolding table_of ours our_description lists_processor mark_in row_in class_in shared_cluster shared_in home_in board_of first_of any_of board_host active_host place_of row_of on_board parts_of named_in entry_table in_turn content_table list_table verdict_of supervisor_of meets on_loop first_host loop_host pair_table hierarchy_table otp_table block_table block_verdict listed_in accepted access_by access_after access_after_block
same_memories = refl
