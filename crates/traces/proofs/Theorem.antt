-- Demand 3 of the exported functions: traces of calls that meet their contracts have it, since their memories hold the states of the rules, of which
-- crate noninterference shows it.
use Prim.Native.Nat.{ℕ}
use mathlib.Core.Path.{◌≡◌, refl, sym, subst, subst⁻¹, ap, ◌∙◌}
use mathlib.Core.Bool.{true, false}
use mathlib.Core.List.{List, [], ◌∷◌, map}
use mathlib.Core.Logic.{⊎_elim}
use lib.ListN.{replicate}
use lib.Dec.{eqb}
use borrow.Author.Tests.{eq-eqb}
use Rattle.rules.specs.Table.{any_of, all_of}
use Rattle.rules.specs.Board.{Board, row_of}
use Rattle.rules.specs.Description.{description_in, board_of, described, ours, Good}
use Rattle.rules.specs.Verdict.{Verdict, verdict_number, accepted}
use Rattle.rules.specs.Substructure.{named_in}
use Rattle.rules.specs.AccessList.{parts, verdict_of}
use Rattle.rules.specs.Block.{list_part}
use Rattle.rules.specs.Outcome.{outcome_number, carried_out}
use Rattle.rules.specs.State.{listed, State, fresh, record_of, stored}
use Rattle.rules.specs.Call.{Offer, list, block, verdict_to, taken, after_offer, after_message, answer_to, Lent, query_of, Call, offer, message, next}
use Rattle.rules.specs.Sequence.{run, free_or_permitted}
use Rattle.rules.proofs.Outcomes.{number_carried}
use Rattle.rules.proofs.Verdicts.{number_accepts}
use Rattle.rules.proofs.Tests.{decide, cond-true}
use Rattle.rules.proofs.Sound.{offer_kept as kept-by-offer, first_accepted, block_as_list, left-sound}
use Rattle.noninterference.specs.Statement.{clusters_whole, loads, list_of, answers, Noninterference, board_left}
use Rattle.noninterference.proofs.Theorem.{loaded_on, listed-clusters, named_all, no_trace}
use Rattle.board.specs.Memory.{board_in}
use Rattle.board_setup.proofs.Started.{start-read}
use Rattle.access.specs.Memory.{access_size, some_list, setup_in, kept_setup}
use Rattle.call_offer.proofs.Offers.{verdict_told, block_told}
use Rattle.record.specs.Memory.{record_size, Memories, record_at, records_in, state_in, state_of, kept}
use Rattle.record.proofs.LentMemory.{zeros-fresh}
use Rattle.traces.specs.Trace.{started, Step, board_step, list_step, block_step, message_step, before_of, after_of, call_of, Meets, Trace, step, end_of, calls_of, Loads, Loaded}
use Rattle.traces.specs.Statement.{start, setup_of, Given, in_numbers, given, OfTheCode, OnEveryDescription}
use Rattle.record.proofs.Kept.{record_kept, verdict_kept, block_kept}
use Rattle.traces.proofs.Steps.{Holds, held_by_lem, given-told, step_holds, trace_holds, trace_given, trace_first, trace_then}

-- what a fresh manager's memories hold
started-hold : Holds started (fresh ours)
unfolding kept kept_setup fresh some_list listed
started-hold = ap (λ (b : Board). state_in b (replicate access_size 0) (replicate record_size 0)) start-read ∙ zeros-fresh ours

-- memories that hold a state have its board in force
board_held_lem : (m : Memories) (s : State) → Holds m s → board_in m.board ≡ s.setup.board
unfolding state_in setup_in kept kept_setup
board_held_lem m s holds = ap (λ (t : State). t.setup.board) holds

-- the record words of a processor are its record in the state that the memories hold
words_at : (m : Memories) (s : State) (p : ℕ) → Holds m s
    → record_at s.setup.board m.records (row_of s.setup.board p) ≡ record_of s p
unfolding state_in setup_in record_of
words_at m s p holds =
    ap (λ (b : Board). record_at b m.records (row_of b p)) (sym (board_held_lem m s holds))
    ∙ ap (λ (t : State). record_of t p) holds
    ∙ record_kept s p

-- ---- memories in which a list has just been accepted

-- memories that hold the state which the list leaves on a fresh and good board
pub record Begun (b : Board) (bytes : List ℕ) (m : Memories) : Type 0 where
  pub on_board_lem : Good b
  pub good : accepted (verdict_of b false bytes) ≡ true
  pub holds : Holds m (after_offer (fresh b) (list bytes))

fresh-verdict : (b : Board) (bytes : List ℕ) → verdict_to (fresh b) (list bytes) ≡ verdict_of b false bytes
unfolding verdict_to fresh listed
fresh-verdict b bytes = refl

fresh-board : (b : Board) → (fresh b).setup.board ≡ b
unfolding fresh
fresh-board b = refl

-- an offer of a list leaves the board
list_board : (s : State) (bytes : List ℕ) → (after_offer s (list bytes)).setup.board ≡ s.setup.board
unfolding after_offer taken
list_board s bytes = ⊎_elim (λ t. rw t) (λ f. rw f) (decide (accepted (verdict_to s (list bytes))))

-- where these calls leave a state that accepts the list, and the memories hold what it leaves
begun_by : (calls : List Call) (bytes : List ℕ) (m : Memories) → accepted (verdict_to (run (fresh ours) calls) (list bytes)) ≡ true
    → Holds m (after_offer (run (fresh ours) calls) (list bytes)) → Begun (board_in m.board) bytes m
begun_by calls bytes m taken after =
    let s = run (fresh ours) calls in
    let was : s ≡ fresh (board_left ours calls) = no_trace calls (first_accepted s (list bytes) taken) in
    let in_force_lem : board_in m.board ≡ s.setup.board = board_held_lem m (after_offer s (list bytes)) after ∙ list_board s bytes in
    let is : s ≡ fresh (board_in m.board) =
    was ∙ ap fresh (sym (in_force_lem ∙ ap (λ (t : State). t.setup.board) was ∙ fresh-board (board_left ours calls)))
    in
    record {
      on_board_lem = subst⁻¹ Good in_force_lem (left-sound calls).board_good;
      good = ap accepted (sym (fresh-verdict (board_in m.board) bytes)) ∙ ap (λ (t : State). accepted (verdict_to t (list bytes))) (sym is) ∙ taken;
      holds = after ∙ ap (λ (t : State). kept (after_offer t (list bytes))) is;
    }

-- what a step is told of its offer is what the rules tell, and 0 is accepted
module _ (before : Memories) (s : State) (holds : Holds before s) {told : Verdict} (o : Offer) where
  told_accepted : {number : ℕ} → verdict_to (state_of before) o ≡ told → number ≡ verdict_number told → number ≡ 0 → accepted (verdict_to s o) ≡ true
  told_accepted by-memory numbered ok =
      ap accepted (sym (verdict_kept s o) ∙ ap (λ (t : State). verdict_to t o) (sym holds) ∙ by-memory) ∙ number_accepts told (sym numbered ∙ ok)

-- the last step accepted the list, alone or in a block
begun_step : (x : Step) (bytes : List ℕ) (calls : List Call) → Loads x bytes → Meets x → Holds (before_of x) (run (fresh ours) calls)
    → Begun (board_in (after_of x).board) bytes (after_of x)
unfolding Loads Meets before_of after_of state_in call_of next
begun_step (board_step bytes before after verdict) taken calls none meets holds = absurd none
begun_step (message_step lent before after outcome report held) taken calls none meets holds = absurd none
begun_step (list_step bytes before after verdict) taken calls takes meets holds =
    let s = run (fresh ours) calls in
    let call = meets.0 in
    let ok =
    told_accepted before s holds (list bytes)
    (verdict_told (board_in before.board) before.access (records_in before.records) bytes ∙ sym call.meets.verdict) call.number takes.0
    in
    subst (λ (l : List ℕ). Begun (board_in after.board) l after) takes.1
    (begun_by calls bytes after ok (step_holds (list_step bytes before after verdict) s meets holds))
begun_step (block_step major minor bytes before after verdict loop) taken calls takes meets holds =
    let s = run (fresh ours) calls in
    let call = meets.0 in
    let ok =
    told_accepted before s holds (block major minor bytes)
    (block_told (board_in before.board) before.access (records_in before.records) major minor bytes ∙ sym call.meets.verdict) call.number takes.0
    in
    subst (λ (l : List ℕ). Begun (board_in after.board) l after) takes.1
    (begun_by calls (list_part bytes) after (block_as_list s major minor bytes ok).list_accepted
    (step_holds (block_step major minor bytes before after verdict loop) s meets holds ∙ block_kept s major minor bytes ok))

begun_last : (x : Step) (bytes : List ℕ) (earlier : List Step) → Loads x bytes → Trace started earlier → Trace (end_of started earlier) (x ∷ [])
    → Begun (board_in (after_of x).board) bytes (after_of x)
begun_last x bytes earlier takes first (step starts meets rest) =
    begun_step x bytes (calls_of earlier) takes meets (held_by_lem (run (fresh ours) (calls_of earlier)) starts (trace_holds first (fresh ours) started-hold))

begun : {b : Board} {bytes : List ℕ} {m : Memories} → Loaded b bytes m → Begun b bytes m
begun {b} {bytes} {m} loaded =
    let last = loaded.last ∷ [] in
    subst (λ (c : Board). Begun c bytes m) loaded.in_force_lem
    (subst (λ (n : Memories). Begun (board_in n.board) bytes n) loaded.left
    (begun_last loaded.last bytes loaded.earlier loaded.takes
    (trace_first loaded.earlier last loaded.trace)
    (trace_then loaded.earlier last loaded.trace)))

-- once a list was accepted the board stays
board_stays : (cs : List Call) (s : State) → listed s.setup.source ≡ true → (run s cs).setup.board ≡ s.setup.board
unfolding run next after_message stored
board_stays [] s is = refl
board_stays (offer o ∷ cs) s is = ap (λ (t : State). (run t cs).setup.board) (kept-by-offer s o is) ∙ board_stays cs s is
board_stays (message lent ∷ cs) s is = board_stays cs (after_message s (query_of lent)) is

-- ---- the record words after any steps

-- from memories that hold a state with a list in force, a processor's record words are its record by the rules
pub words_left : (m : Memories) (s : State) → Holds m s → listed s.setup.source ≡ true → {steps : List Step} → Trace m steps → (p : ℕ)
    → record_at s.setup.board (end_of m steps).records (row_of s.setup.board p) ≡ record_of (run s (calls_of steps)) p
words_left m s holds is {steps} trace p =
    ap (λ (c : Board). record_at c (end_of m steps).records (row_of c p)) (sym (board_stays (calls_of steps) s is))
    ∙ words_at (end_of m steps) (run s (calls_of steps)) p (trace_holds trace s holds)

module _ (b : Board) (bytes : List ℕ) {m : Memories} (loaded : Loaded b bytes m) where
  pub start-good : Good b
  start-good = (begun loaded).on_board_lem

  start-listed : listed (start b bytes).setup.source ≡ true
  unfolding after_offer taken listed
  start-listed =
      ap (λ (t : State). listed t.setup.source)
      (cond-true (taken (fresh b) (list bytes)) (fresh b) (ap accepted (fresh-verdict b bytes) ∙ (begun loaded).good))

  start-board : (start b bytes).setup.board ≡ b
  start-board = list_board (fresh b) bytes ∙ fresh-board b

  pub words_are : {steps : List Step} → Trace m steps → (p : ℕ)
      → record_at b (end_of m steps).records (row_of b p) ≡ record_of (run (start b bytes) (calls_of steps)) p
  words_are {steps} trace p =
      ap (λ (c : Board). record_at c (end_of m steps).records (row_of c p)) (sym start-board)
      ∙ words_left m (start b bytes) (begun loaded).holds start-listed trace p

-- ---- the theorem

module _ (b : Board) (bytes chosen : List ℕ) (named : all_of (named_in (parts bytes)) chosen ≡ true) (whole : clusters_whole b chosen ≡ true) where
  module _ {m : Memories} (loaded : Loaded b bytes m) where
    by_rules : Noninterference (start b bytes) chosen
    unfolding loads list_of
    by_rules = loaded_on b (list bytes) chosen (begun loaded).good (begun loaded).on_board_lem named whole

    module _ {steps : List Step} (trace : Trace m steps) where
      given-are : given (setup_of b bytes) chosen steps ≡ map in_numbers (answers (setup_of b bytes) chosen (start b bytes) (calls_of steps))
      given-are = trace_given (setup_of b bytes) chosen trace (start b bytes) (begun loaded).holds

      permitted-are : (p : ℕ) → any_of (eqb p) chosen ≡ true
          → free_or_permitted (setup_of b bytes) p (record_at b (end_of m steps).records (row_of b p)) ≡ true
      permitted-are p chose =
          ap (free_or_permitted (setup_of b bytes) p) (words_are b bytes loaded trace p) ∙ by_rules.always-permitted (calls_of steps) p chose

    -- a message after any steps gives the number of what the rules answer after their calls
    last-told : (steps : List Step) (lent : Lent) (before after : Memories) (outcome : ℕ) (report held : List ℕ)
        → Trace m steps → Trace (end_of m steps) (message_step lent before after outcome report held ∷ [])
        → outcome ≡ outcome_number (answer_to (run (start b bytes) (calls_of steps)) (query_of lent)).report.outcome
    unfolding Meets before_of
    last-told steps lent before after outcome report held first (step starts meets rest) =
        let left = run (start b bytes) (calls_of steps) in
        let holds : Holds before left = held_by_lem left starts (trace_holds first (start b bytes) (begun loaded).holds) in
        ap (λ (a : Given). a.outcome) (given-told left before after holds lent meets.0)

pub of_the_code : OfTheCode
unfolding carried_out
of_the_code b bytes chosen named whole =
    record {
      answers-by-rules = λ loaded trace. given-are b bytes chosen named whole loaded trace;
      records-by-rules = λ loaded trace p. words_are b bytes loaded trace p;
      has_entry_lem = λ loaded p chose. (by_rules b bytes chosen named whole loaded).has_entry_lem p chose;
      same-answers =
          λ {m} {n} one other {these} {those} t u same.
          given-are b bytes chosen named whole one t
          ∙ ap (map in_numbers) ((by_rules b bytes chosen named whole one).same-answers (calls_of these) (calls_of those) same)
          ∙ sym (given-are b bytes chosen named whole other u);
      same-records =
          λ {m} {n} one other {these} {those} t u same p chose.
          words_are b bytes one t p
          ∙ (by_rules b bytes chosen named whole one).same-records (calls_of these) (calls_of those) same p chose
          ∙ sym (words_are b bytes other u p);
      always-permitted = λ loaded trace p chose. permitted-are b bytes chosen named whole loaded trace p chose;
      outsider-refused =
          λ loaded steps lent before after outcome report held trace about out.
          let last = message_step lent before after outcome report held ∷ [] in
          ap (λ (n : ℕ). eqb n 0)
          (last-told b bytes chosen named whole loaded steps lent before after outcome report held (trace_first steps last trace) (trace_then steps last trace))
          ∙ number_carried _
          ∙ (by_rules b bytes chosen named whole loaded).outsider-refused (calls_of steps) (query_of lent) about out;
    }

pub on_every_description : OnEveryDescription
unfolding described
on_every_description description bytes chosen ok named whole =
    let d = description_in description in
    of_the_code (board_of d) bytes chosen named (listed-clusters d chosen (named_all (board_of d) bytes chosen ok named) whole)
