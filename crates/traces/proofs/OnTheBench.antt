-- The theorem is not empty: the bench list is accepted over memories of zeros, a request of host 3 follows, and both steps meet their
-- contracts; the theorem applies to it, and to a list that names a cluster, and so does that of the tallies.
use Prim.Native.Nat.{ℕ}
use mathlib.Core.Path.{◌≡◌, refl, subst⁻¹}
use mathlib.Core.List.{List, [], ◌∷◌, ◌++◌}
use lib.ListN.{replicate}
use Rattle.std.specs.Prelude.{Some}
use Rattle.rules.specs.declared.Report.{Report}
use Rattle.rules.specs.declared.Role.TheVariants.{Master}
use Rattle.rules.specs.Table.{first_of, any_of, all_of, place_of, all_from, table_of}
use Rattle.rules.specs.Board.{Board, board_host, active_host, row_of, on_board, class_at, class_of, home_at, home_of, share_control}
use Rattle.rules.specs.Description.{our_description, lists_processor, mark_in, row_in, class_in, shared_cluster, shared_in, home_in, board_of, ours}
use Rattle.rules.specs.Verdict.{Accepted, accepted}
use Rattle.rules.specs.Substructure.{parts_of, named_in, in_turn}
use Rattle.rules.specs.AccessList.{no_entry, entry_table, content_table, list_table, verdict_of, entry_in, with_part, with_parts, no_entries, entries_of, has_entry}
use Rattle.rules.specs.Role.{names_host, role_table, role_of, permitted}
use Rattle.rules.specs.Message.{answer_asked, kind_of, wait_in, subject_of, names_processor, is_about}
use Rattle.rules.specs.Outcome.{OK, sender_wrong, words_missing, wait_failed, before_type, on_type, behind_type, admission, by_words, outcome_table, outcome_of, carried_out, silent}
use Rattle.rules.specs.Tally.{grants, no_tallies, tally_of, counts_for, one_more, tally_after, tallies_after}
use Rattle.rules.specs.Effect.{record_after}
use Rattle.rules.specs.Answer.{buffer_after, ack_bytes, bytes_for, answer_bytes, answer_of, waited, tells_role, report_of}
use Rattle.rules.specs.State.{listed, free_own, fresh, entry_of, record_in, record_of, view_of, put_in, stored}
use Rattle.rules.specs.Call.{verdict_to, taken, after_offer, after_message, answer_to, Lent, query_of, message, next}
use Rattle.rules.specs.Warranty.{counts, count_of}
use Rattle.rules.specs.Bench.{bench_list, header}
use Rattle.rules.specs.BenchCluster.{cluster_list}
use Rattle.noninterference.specs.Statement.{clusters_whole}
use Rattle.access.specs.Memory.{access_size, listed_in, entry_at, entries_in, some_list, setup_in}
use Rattle.access.specs.InForce.{entry_words}
use Rattle.call_offer.specs.AccessAfter.{access_by, access_after}
use Rattle.record.specs.Memory.{record_size, Memories, records_in, state_in}
use Rattle.board.specs.Memory.{board_bytes}
use Rattle.board_setup.proofs.Started.{start-read}
use Rattle.call_offer.specs.Calls.{ListCall}
use Rattle.call_offer.proofs.EachCall.{list_call_lem}
use Rattle.call_message.specs.Calls.{lending, MessageCall}
use Rattle.traces.specs.Trace.{started, Step, list_step, message_step, before_of, after_of, call_of, Meets, Trace, done, step, calls_of, Loads, Loaded}
use Rattle.traces.specs.Statement.{CodeNoninterference}
use Rattle.traces.specs.Warranty.{left_in}
use Rattle.traces.proofs.Theorem.{of_the_code}
use Rattle.traces.proofs.Warranty.{warranty_of_the_code}

abbrev both_R5 : List ℕ
both_R5 = 1 ∷ 2 ∷ []

-- the memories that the bench list leaves
abbrev pub listed-memories : Memories
listed-memories = record { board = board_bytes ours; access = access_after ours (replicate access_size 0) bench_list; records = replicate record_size 0 }

bench_accepted : ListCall (board_bytes ours) (replicate access_size 0) bench_list (access_after ours (replicate access_size 0) bench_list) Accepted
unfolding table_of ours our_description lists_processor mark_in row_in class_in shared_cluster shared_in home_in board_of first_of any_of board_host active_host place_of row_of on_board parts_of named_in entry_table in_turn content_table list_table verdict_of listed_in
bench_accepted = list_call_lem (board_bytes ours) (replicate access_size 0) bench_list start-read refl refl

pub bench_loaded : Loaded ours bench_list listed-memories
unfolding Meets before_of after_of Loads
bench_loaded =
    record {
      earlier = [];
      last = list_step bench_list started listed-memories 0;
      trace =
          step {x = list_step bench_list started listed-memories 0} refl
          (record { told = Accepted; meets = bench_accepted; number = refl }, refl, refl) done;
      takes = (refl, refl);
      left = refl;
      in_force_lem = start-read;
    }

-- host 3 requests processor 1, and controls it, which is a grant
abbrev held_records : List ℕ
held_records = 3 ∷ 0 ∷ 0 ∷ 0 ∷ 1 ∷ replicate 283 0

abbrev held-memories : Memories
held-memories = record { board = board_bytes ours; access = access_after ours (replicate access_size 0) bench_list; records = held_records }

abbrev asked : Lent
asked = lending 3 (0x00 ∷ 0xC0 ∷ 3 ∷ 0x07 ∷ 0x02 ∷ 0x00 ∷ 0x00 ∷ 0x00 ∷ 0x01 ∷ []) [] (replicate 29 0xFF)

-- what the call tells: OK, with the role of the recovery master
abbrev told_request : Report
told_request = record { outcome = OK; checks = 0; micros = 0; written = 8; role = (Some Master) }

abbrev request-step : Step
request-step = message_step asked listed-memories held-memories 0 (0 ∷ 0 ∷ 8 ∷ 1 ∷ []) (header 0x00 0xC0 3 2 ++ replicate 21 0xFF)

-- what it promises of the answer, on a board
abbrev AnsweredOn : Board → Type 0
AnsweredOn b =
    let s = state_in b (access_after ours (replicate access_size 0) bench_list) (replicate record_size 0) in
    (told_request ≡ (answer_to s (query_of asked)).report) × (records_in held_records ≡ (next s (message asked)).records)
    × (header 0x00 0xC0 3 2 ++ replicate 21 0xFF ≡ buffer_after (answer_to s (query_of asked)).bytes asked.buffer)

on_ours : AnsweredOn ours
unfolding table_of ours our_description lists_processor mark_in row_in class_in shared_cluster shared_in home_in board_of first_of any_of board_host active_host place_of row_of on_board class_at class_of home_at no_entry parts_of named_in entry_table in_turn content_table list_table verdict_of accepted entry_in with_part with_parts no_entries entries_of has_entry names_host role_table role_of permitted answer_asked kind_of wait_in subject_of sender_wrong words_missing wait_failed before_type on_type behind_type admission by_words outcome_table outcome_of carried_out silent counts_for one_more tally_after tallies_after record_after ack_bytes bytes_for answer_bytes answer_of waited tells_role report_of listed free_own no_tallies entry_of record_in record_of view_of put_in stored after_message answer_to next listed_in entry_at entries_in some_list setup_in entry_words access_by access_after records_in state_in
on_ours = (refl, refl, refl)

bench_answered : MessageCall listed-memories asked held_records (header 0x00 0xC0 3 2 ++ replicate 21 0xFF) told_request
bench_answered =
    let there = subst⁻¹ AnsweredOn start-read on_ours in
    record { report = there.0; records = there.1; buffer = there.2 }

pub bench_trace : Trace listed-memories (request-step ∷ [])
unfolding Meets before_of
bench_trace =
    step {x = request-step} refl (record { told = told_request; meets = bench_answered; number = refl; words = refl }, refl, refl) done

pub on_the_bench : CodeNoninterference ours bench_list both_R5
unfolding all_from on_board home_at home_of table_of ours our_description lists_processor mark_in row_in class_in shared_cluster shared_in home_in board_of any_of all_of place_of row_of share_control parts_of named_in clusters_whole
on_the_bench = of_the_code ours bench_list both_R5 refl refl

-- and to a list that names the cluster of 32 and 33, chosen whole
pub on_the_cluster_lem : CodeNoninterference ours cluster_list (32 ∷ 33 ∷ [])
unfolding all_from on_board home_at home_of table_of ours our_description lists_processor mark_in row_in class_in shared_cluster shared_in home_in board_of any_of all_of place_of row_of share_control parts_of named_in clusters_whole
on_the_cluster_lem = of_the_code ours cluster_list (32 ∷ 33 ∷ []) refl refl

-- document 02, L10: by the theorem of the tallies the code has counted one grant
pub grant_counted : tally_of grants (left_in ours listed-memories (request-step ∷ []) 1) ≡ 1
unfolding table_of ours our_description lists_processor mark_in row_in class_in shared_cluster shared_in home_in board_of first_of any_of board_host active_host place_of row_of on_board class_at class_of home_at no_entry parts_of named_in entry_table in_turn content_table list_table verdict_of accepted entry_in with_part with_parts no_entries entries_of has_entry names_host role_table role_of permitted kind_of names_processor is_about subject_of sender_wrong words_missing wait_failed before_type on_type behind_type admission by_words outcome_table outcome_of carried_out counts_for record_after listed free_own no_tallies fresh entry_of record_in record_of view_of verdict_to taken after_offer call_of calls_of counts count_of
grant_counted = (warranty_of_the_code ours bench_list).counted bench_loaded bench_trace grants 1
