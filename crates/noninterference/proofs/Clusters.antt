-- Demand 3 on document 01's board with a list that names all four processors: it holds of each choice that holds the cluster whole or not at
-- all, and of half the cluster it does not: what others send about the other half changes the chosen one's record.
use Prim.Native.Nat.{ℕ}
use mathlib.Core.Path.{◌≡◌, refl, sym, ap, ◌∙◌}
use mathlib.Core.Bool.{true}
use mathlib.Core.List.{List, [], ◌∷◌}
use native.Mathlib.Omega.{arith}
use Rattle.rules.specs.declared.Record.{Record}
use Rattle.rules.specs.Table.{first_of, any_of, all_of, place_of, table_of}
use Rattle.rules.specs.Board.{Board, board_host, active_host, row_of, on_board, class_at, class_of, home_at, mask_of}
use Rattle.rules.specs.Description.{our_description, lists_processor, mark_in, row_in, class_in, shared_cluster, shared_in, home_in, board_of, ours}
use Rattle.rules.specs.Verdict.{accepted}
use Rattle.rules.specs.Substructure.{parts_of, named_in, in_turn}
use Rattle.rules.specs.AccessList.{no_entry, parts, entry_table, content_table, list_table, verdict_of, entry_in, with_part, with_parts, no_entries, entries_of, has_entry}
use Rattle.rules.specs.Role.{names_host, role_table, role_of, permitted}
use Rattle.rules.specs.Message.{kind_of, names_processor, subject_of, is_about}
use Rattle.rules.specs.Outcome.{sender_wrong, words_missing, wait_failed, before_type, on_type, behind_type, admission, by_words, outcome_table, outcome_of, carried_out}
use Rattle.rules.specs.Tally.{no_tallies, counts_for, one_more, tally_after, tallies_after}
use Rattle.rules.specs.Effect.{record_after}
use Rattle.rules.specs.State.{listed, State, free_own, fresh, entry_of, record_in, record_of, view_of, put_in, stored}
use Rattle.rules.specs.Call.{list, verdict_to, taken, after_offer, after_message, Call, next, offer}
use Rattle.rules.specs.Sequence.{permitted_for, run}
use Rattle.rules.specs.BenchCluster.{cluster_list, request, set_control}
use Rattle.rules.proofs.Tests.{clash}
use Rattle.noninterference.specs.Statement.{clusters_whole, Ready, insider, about_chosen, picked, picks, Noninterference, list_of, loads}
use Rattle.noninterference.proofs.Choices.{whole-choices, half_choices}
use Rattle.noninterference.proofs.Theorem.{freshly_loaded}

-- ---- a list that names all four

abbrev start : State
start = run (fresh ours) (offer (list cluster_list) ∷ [])

start-board : start.setup.board ≡ ours
unfolding table_of ours our_description lists_processor mark_in row_in class_in shared_cluster shared_in home_in board_of first_of any_of board_host active_host place_of row_of on_board parts_of named_in entry_table in_turn content_table list_table verdict_of accepted listed fresh verdict_to taken after_offer next run
start-board = refl

-- demand 3 holds for each choice from it that holds the cluster whole or not at all
of_choice : (chosen : List ℕ) → all_of (named_in (parts cluster_list)) chosen ≡ true → clusters_whole ours chosen ≡ true → Noninterference start chosen
unfolding loads list_of table_of ours our_description lists_processor mark_in row_in class_in shared_cluster shared_in home_in board_of first_of any_of all_of board_host active_host place_of row_of on_board parts_of named_in entry_table in_turn content_table list_table verdict_of accepted
of_choice chosen named whole = freshly_loaded (list cluster_list) chosen refl named whole

pub one_alone : Noninterference start (1 ∷ [])
unfolding any_of all_of parts_of named_in
one_alone = of_choice (1 ∷ []) refl whole-choices.0

pub the_cluster : Noninterference start (32 ∷ 33 ∷ [])
unfolding any_of all_of parts_of named_in
the_cluster = of_choice (32 ∷ 33 ∷ []) refl whole-choices.1

pub all_four : Noninterference start (1 ∷ 2 ∷ 32 ∷ 33 ∷ [])
unfolding any_of all_of parts_of named_in
all_four = of_choice (1 ∷ 2 ∷ 32 ∷ 33 ∷ []) refl whole-choices.2

-- 32 alone is no such choice
pub half_not_ready : Ready start (32 ∷ []) → ⊥
half_not_ready ready =
    clash ready.whole (ap (λ (b : Board). clusters_whole b (32 ∷ [])) start-board ∙ half_choices.0)

-- ---- why it is none

-- host 10 takes 32
abbrev quiet : List Call
quiet = request 10 32 ∷ []

-- and host 12, which 33's entry permits and 32's does not, takes 33 and sets a control bit through it
abbrev disturbed : List Call
disturbed = request 10 32 ∷ request 12 33 ∷ set_control 12 33 0x1 0 ∷ []

-- the two agree in what 32's insiders send about 32
same_picks : picks start.setup (32 ∷ []) quiet ≡ picks start.setup (32 ∷ []) disturbed
unfolding table_of ours our_description lists_processor mark_in row_in class_in shared_cluster shared_in home_in board_of first_of any_of board_host active_host place_of row_of on_board no_entry parts_of named_in entry_table in_turn content_table list_table verdict_of accepted entry_in with_part with_parts no_entries entries_of has_entry names_host role_table role_of permitted kind_of names_processor subject_of is_about listed fresh entry_of verdict_to taken after_offer permitted_for insider about_chosen picked picks next run
same_picks = refl

-- and leave 32 different control words
pub different_words : ((record_of (run start quiet) 32).control ≡ 0) × ((record_of (run start disturbed) 32).control ≡ 1)
unfolding table_of ours our_description lists_processor mark_in row_in class_in shared_cluster shared_in home_in board_of first_of any_of board_host active_host place_of row_of on_board class_at class_of home_at mask_of no_entry parts_of named_in entry_table in_turn content_table list_table verdict_of accepted entry_in with_part with_parts no_entries entries_of has_entry names_host role_table role_of permitted kind_of subject_of sender_wrong words_missing wait_failed before_type on_type behind_type admission by_words outcome_table outcome_of carried_out counts_for one_more tally_after tallies_after record_after listed free_own no_tallies fresh entry_of record_in record_of view_of put_in stored verdict_to taken after_offer after_message next run
different_words = (refl, refl)

-- so demand 3 would be false of 32 alone
pub half_false : Noninterference start (32 ∷ []) → ⊥
unfolding any_of
half_false claimed =
    apart
    (sym different_words.0
    ∙ ap (λ (r : Record). r.control) (claimed.same-records quiet disturbed same_picks 32 refl)
    ∙ different_words.1)
  where
    apart : ◌≡◌ {A = ℕ} 0 1 → ⊥
    apart e = omega arith
