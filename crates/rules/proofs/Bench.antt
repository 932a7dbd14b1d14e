-- The starred cases hold, those of the shared control word, of board descriptions, of roles, of waits, of blocks, of tallies and of recordings: each
-- of the ten tables is checked by computing it.
use mathlib.Core.Path.{◌≡◌, refl}
use mathlib.Core.Bool.{Bool, true}
use mathlib.Core.List.{List, map}
use Rattle.rules.specs.Table.{first_of, any_of, place_of, table_of}
use Rattle.rules.specs.Verdict.{accepted}
use Rattle.rules.specs.Board.{board_host, active_host, row_of, on_board, class_at, class_of, home_at, mask_of}
use Rattle.rules.specs.Description.{nothing_listed, our_description, body_size, field_good, no_item, item_in, field_size, items_from, items_in, lists_host, lists_processor, repeats, other_class, is_full, item_table, with_item, items_table, description_table, board_verdict, with_items, description_in, described, mark_in, row_in, class_in, shared_cluster, shared_in, home_in, board_of, ours}
use Rattle.rules.specs.Substructure.{parts_of, named_in, in_turn}
use Rattle.rules.specs.AccessList.{no_entry, entry_table, content_table, list_table, verdict_of, entry_in, with_part, with_parts, no_entries, entries_of, has_entry}
use Rattle.rules.specs.Hierarchy.{pairs, supervisor_of, meets, on_loop, first_host, loop_host, pair_table, hierarchy_table}
use Rattle.rules.specs.Block.{otp_table, block_table, block_verdict}
use Rattle.rules.specs.Role.{names_host, role_table, role_of, permitted}
use Rattle.rules.specs.Message.{answer_asked, kind_of, wait_in, subject_of, names_processor, is_about}
use Rattle.rules.specs.Wait.{run_after, ends_run, first_end, ending_check, ran_out, checks_of, micros_of}
use Rattle.rules.specs.Outcome.{sender_wrong, words_missing, wait_failed, before_type, on_type, behind_type, admission, by_words, outcome_table, outcome_of, carried_out, silent}
use Rattle.rules.specs.Tally.{no_tallies, counts_for, one_more, tally_after, tallies_after}
use Rattle.rules.specs.Effect.{record_after}
use Rattle.rules.specs.Answer.{ack_bytes, bytes_for, answer_bytes, answer_of, waited, tells_role, report_of}
use Rattle.rules.specs.State.{listed, free_own, fresh, entry_of, record_in, record_of, view_of, put_in, stored}
use Rattle.rules.specs.Call.{verdict_to, taken, after_offer, after_message, answer_to, next}
use Rattle.rules.specs.Sequence.{run}
use Rattle.rules.specs.Warranty.{counts, count_of}
use Rattle.rules.specs.Text.{decimal_in, hex_of, answer_text}
use Rattle.rules.specs.Recording.{length_good, found, in_front, split_in, split, words_from, words_in, offer_line, message_line, line_of, called, standing, carry_out, lines_of, transcript, first_session}
use Rattle.rules.specs.Bench.{Case, given_in, answer_given, starred}
use Rattle.rules.specs.BenchCluster.{clustered}
use Rattle.rules.specs.BenchBoard.{hosts_from, processors_from, boarded}
use Rattle.rules.specs.BenchRole.{RoleCase, shown_in, roled}
use Rattle.rules.specs.BenchWait.{counted}
use Rattle.rules.specs.BenchBlock.{LoopCase, hierarchy_of, blocked, looped}
use Rattle.rules.specs.BenchTally.{TallyCase, held_from, tallied_in, tallied, CountCase, worked_out, counted_in, totalled}
use Rattle.rules.specs.BenchRecording.{RecordingCase, word_bytes, recorded}

-- every case of a table gives what it says
abbrev pub Hold : List Case → Type 0
Hold cases = map (λ (c : Case). given_in (run (fresh ours) c.earlier) c.call) cases ≡ map (λ (c : Case). c.gives) cases

-- and every case of the roles
abbrev pub Shows : List RoleCase → Type 0
Shows cases = map (λ (c : RoleCase). shown_in (run (fresh ours) c.earlier) c.call) cases ≡ map (λ (c : RoleCase). (c.outcome, c.role)) cases

-- and every case of the loops
abbrev pub Finds : List LoopCase → Type 0
Finds cases = map (λ (c : LoopCase). loop_host (pairs (hierarchy_of c.entries))) cases ≡ map (λ (c : LoopCase). c.host) cases

-- and every case of one message and of sequences, with the tallies that they leave
abbrev pub Counts : List TallyCase → Type 0
Counts cases = map (λ (c : TallyCase). tallied_in (held_from c.holder c.before) c.call) cases ≡ map (λ (c : TallyCase). (c.outcome, c.after)) cases

abbrev pub Totals : List CountCase → Type 0
Totals cases = map (λ (c : CountCase). counted_in (fresh ours) c) cases ≡ map (λ (c : CountCase). (c.left, c.left)) cases

-- and every recording prints what its case says
abbrev pub Prints : List RecordingCase → Type 0
Prints cases = map (λ (c : RecordingCase). transcript first_session c.bytes) cases ≡ map (λ (c : RecordingCase). c.prints) cases

-- what a case is computed with: to unfold this is to unfold all that its line names
computed : Bool
unfolding word_bytes decimal_in hex_of answer_text length_good found in_front split_in split words_from words_in offer_line message_line line_of called standing carry_out lines_of transcript first_session held_from tallied_in worked_out counted_in no_tallies counts_for one_more tally_after tallies_after counts count_of is_about names_processor supervisor_of meets on_loop first_host loop_host pair_table hierarchy_table otp_table block_table block_verdict shown_in hosts_from processors_from nothing_listed body_size field_good no_item item_in field_size items_from items_in lists_host repeats other_class is_full item_table with_item items_table description_table board_verdict with_items description_in described first_of any_of place_of table_of ours our_description lists_processor mark_in row_in class_in shared_cluster shared_in home_in board_of board_host active_host row_of on_board class_at class_of home_at mask_of no_entry parts_of named_in entry_table in_turn content_table list_table verdict_of accepted entry_in with_part with_parts no_entries entries_of has_entry names_host role_table role_of permitted answer_asked kind_of wait_in subject_of run_after ends_run first_end ending_check ran_out checks_of micros_of sender_wrong words_missing wait_failed before_type on_type behind_type admission by_words outcome_table outcome_of carried_out silent record_after ack_bytes bytes_for answer_bytes answer_of waited tells_role report_of listed free_own fresh entry_of record_in record_of view_of put_in stored verdict_to taken after_offer after_message answer_to next run given_in answer_given
computed = true

pub starred-hold : Hold starred
unfolding computed starred
starred-hold = refl

-- document 02, L4
pub clustered-hold : Hold clustered
unfolding computed clustered
clustered-hold = refl

-- document 02, L8
pub boarded-hold : Hold boarded
unfolding computed boarded
boarded-hold = refl

-- document 02, L5
pub roled-show : Shows roled
unfolding computed roled
roled-show = refl

-- document 02, L9
pub counted-hold : Hold counted
unfolding computed counted
counted-hold = refl

-- document 02, L1
pub blocked-hold : Hold blocked
unfolding computed blocked
blocked-hold = refl

pub looped-found : Finds looped
unfolding computed looped
looped-found = refl

-- document 02, L10
pub tallied-count : Counts tallied
unfolding computed tallied
tallied-count = refl

pub totalled-count : Totals totalled
unfolding computed totalled
totalled-count = refl

-- "Session recordings"
pub recorded-prints : Prints recorded
unfolding computed recorded
recorded-prints = refl
