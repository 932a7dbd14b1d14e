-- The theorem is not empty: on document 01's board it applies to the bench list with processors 1 and 2, alone and in a block, and says of two
-- sequences that differ in an outsider's calls and in offers that their picks get the same answers.
use Prim.Native.Nat.{ℕ}
use mathlib.Core.Path.{◌≡◌, refl}
use mathlib.Core.List.{List, [], ◌∷◌}
use Rattle.rules.specs.Table.{first_of, any_of, all_of, place_of, all_from, table_of}
use Rattle.rules.specs.Board.{board_host, active_host, row_of, on_board, home_at, home_of, share_control}
use Rattle.rules.specs.Description.{our_description, lists_processor, mark_in, row_in, class_in, shared_cluster, shared_in, home_in, board_of, ours}
use Rattle.rules.specs.Verdict.{accepted}
use Rattle.rules.specs.Substructure.{parts_of, named_in, in_turn}
use Rattle.rules.specs.AccessList.{no_entry, entry_table, content_table, list_table, verdict_of, entry_in, with_part, with_parts, no_entries, entries_of, has_entry}
use Rattle.rules.specs.Hierarchy.{supervisor_of, meets, on_loop, first_host, loop_host, pair_table, hierarchy_table}
use Rattle.rules.specs.Block.{otp_table, block_table, block_verdict}
use Rattle.rules.specs.Role.{names_host, role_table, role_of, permitted}
use Rattle.rules.specs.Message.{kind_of, names_processor, subject_of, is_about}
use Rattle.rules.specs.State.{listed, State, fresh, entry_of}
use Rattle.rules.specs.Call.{list, block, verdict_to, taken, after_offer, Call, offer, next}
use Rattle.rules.specs.Sequence.{permitted_for, run}
use Rattle.rules.specs.Bench.{bench_list, request, handover, set_config}
use Rattle.rules.specs.BenchBlock.{bench_block}
use Rattle.noninterference.specs.Statement.{clusters_whole, insider, about_chosen, picked, picks, answers, Noninterference, list_of, loads}
use Rattle.noninterference.proofs.Theorem.{freshly_loaded}

abbrev both_R5 : List ℕ
both_R5 = 1 ∷ 2 ∷ []

-- the state that the bench list leaves
abbrev start : State
start = run (fresh ours) (offer (list bench_list) ∷ [])

pub on_the_bench : Noninterference start both_R5
unfolding loads list_of all_from home_at home_of table_of ours our_description lists_processor mark_in row_in class_in shared_cluster shared_in home_in board_of first_of any_of all_of board_host active_host place_of row_of on_board share_control parts_of named_in entry_table in_turn content_table list_table verdict_of accepted clusters_whole
on_the_bench = freshly_loaded (list bench_list) both_R5 refl refl refl

-- and so it is from a block with that list
pub on_a_block : Noninterference (run (fresh ours) (offer (block 0 1 bench_block) ∷ [])) both_R5
unfolding loads list_of all_from home_at home_of table_of ours our_description lists_processor mark_in row_in class_in shared_cluster shared_in home_in board_of first_of any_of all_of board_host active_host place_of row_of on_board share_control parts_of named_in entry_table in_turn content_table list_table verdict_of accepted clusters_whole supervisor_of meets on_loop first_host loop_host pair_table hierarchy_table otp_table block_table block_verdict
on_a_block = freshly_loaded (block 0 1 bench_block) both_R5 refl refl refl

-- host 3 takes processor 1, sets its vector and hands it over to 5
abbrev quiet : List Call
quiet = request 3 ∷ set_config 3 0x41C00080 0 ∷ handover 3 5 ∷ []

-- the same, between calls of host 12, which is an outsider, and a list and a block that are offered again
abbrev disturbed : List Call
disturbed =
    request 12 ∷ request 3 ∷ set_config 12 0x41C00100 0 ∷ offer (list bench_list) ∷ set_config 3 0x41C00080 0 ∷ offer (block 0 1 bench_block) ∷ handover 12 12 ∷ handover 3 5 ∷ request 12 ∷ []

same_picks : picks start.setup both_R5 quiet ≡ picks start.setup both_R5 disturbed
unfolding table_of ours our_description lists_processor mark_in row_in class_in shared_cluster shared_in home_in board_of first_of any_of board_host active_host place_of row_of on_board no_entry parts_of named_in entry_table in_turn content_table list_table verdict_of accepted entry_in with_part with_parts no_entries entries_of has_entry names_host role_table role_of permitted kind_of names_processor subject_of is_about listed fresh entry_of verdict_to taken after_offer permitted_for insider about_chosen picked picks next run
same_picks = refl

-- so host 12 changes none of the answers
pub undisturbed :
    answers start.setup both_R5 start quiet
    ≡ answers start.setup both_R5 start disturbed
undisturbed = on_the_bench.same-answers quiet disturbed same_picks
