-- Demand 3: noninterference, from every listed state that calls left, on document 01's board or on any that an accepted description gave, for any
-- processors that the accepted list names, alone or in a block; the state that an accepted list or block leaves is such a start, and it depends on the
-- board in force and the list or block alone.
use Prim.Native.Nat.{ℕ}
use mathlib.Core.Path.{◌≡◌, refl, sym, subst, subst⁻¹, ◌∙◌, ap}
use mathlib.Core.Bool.{true, false, cond, not, ◌&&◌, ◌||◌}
use mathlib.Core.List.{List, [], ◌∷◌}
use mathlib.Core.Logic.{⊎_elim}
use lib.ListN.{get_or}
use lib.Dec.{eqb}
use borrow.Author.Tests.{not-true}
use Rattle.rules.specs.Table.{any_of, all_of, all_from}
use Rattle.rules.specs.Board.{Board, row_of, on_board, share_control}
use Rattle.rules.specs.Description.{Processor, Description, lists_processor, share_word, board_verdict, description_in, board_of, described, ours, Good}
use Rattle.rules.specs.Verdict.{accepted}
use Rattle.rules.specs.Substructure.{named_in}
use Rattle.rules.specs.AccessList.{Entry, no_entry, parts, has_entry, verdict_of}
use Rattle.rules.specs.Message.{Query}
use Rattle.rules.specs.State.{listed, list_in, Setup, State, fresh, entry_of, record_of, stored}
use Rattle.rules.specs.Call.{Offer, board, list, block, verdict_to, taken, after_offer, after_message, query_of, Call, offer, message, next}
use Rattle.rules.specs.Sequence.{run, free_or_permitted, Sound}
use Rattle.rules.proofs.Tests.{decide, clash, and_left, and_right, or_cases, or_left, or_right, cond-true, cond-false, all_of-member, all_of-all, all_from-all}
use Rattle.rules.proofs.Rows.{placed, listed-member}
use Rattle.rules.proofs.Homes.{share_clusters}
use Rattle.rules.proofs.Entries.{named_there, named_on}
use Rattle.rules.proofs.Blocks.{good_block}
use Rattle.rules.proofs.Sound.{offer_kept, message_unlisted, source_list, sound_fresh, sound_next, left-sound}
use Rattle.noninterference.specs.Statement.{sharer_chosen, clusters_whole, clusters_listed, Ready, Noninterference, FromEveryStart, list_of, loads, FreshlyLoaded, ForEveryDescription, board_left, NoTrace}
use Rattle.noninterference.proofs.OneCall.{Reached, outsider_refused_here}
use Rattle.noninterference.proofs.Sequences.{Erased, erase, run-reached, answer_picks, run_picks}

-- ---- from a sound start

module _ (s : State) (sound : Sound s) (chosen : List ℕ) (ready : Ready s chosen) where
  start-reached : Reached s.setup chosen ready.something ready.whole s
  start-reached = record { sound = sound; same = refl }

  -- the picks of a sequence, run alone
  alone : (calls : List Call) → Erased s.setup chosen ready.something ready.whole s s calls
  alone calls = erase s.setup chosen ready.something ready.whole calls s s start-reached start-reached (λ p m. refl)

  -- a processor that a used entry of the accepted list names has an entry in the state
  entry_there : (p : ℕ) → any_of (eqb p) chosen ≡ true → has_entry (entry_of s.setup p) ≡ true
  unfolding entry_of
  entry_there p m =
      let b = s.setup.board in
      subst⁻¹ (λ (es : List Entry). has_entry (get_or es (row_of b p) no_entry) ≡ true) (sound.entries-its ready.something)
      (named_there b (list_in s.setup.source) p (source_list b s.setup.source ready.something sound.source_good_lem)
      (all_of-member (named_in (parts (list_in s.setup.source))) chosen p ready.named m))

  reached : (calls : List Call) → Reached s.setup chosen ready.something ready.whole (run s calls)
  reached calls = run-reached s.setup chosen ready.something ready.whole calls s start-reached

  from_sound : Noninterference s chosen
  from_sound =
      record {
        has_entry_lem = entry_there;
        same-answers =
            λ these those same. (alone these).answered ∙ ap (answer_picks s) same ∙ sym (alone those).answered;
        same-records =
            λ these those same p m.
            (alone these).left p m
            ∙ ap (λ (qs : List Query). record_of (run_picks s qs) p) same
            ∙ sym ((alone those).left p m);
        always-permitted =
            λ calls p m.
            subst (λ (u : Setup). free_or_permitted u p (record_of (run s calls) p) ≡ true) (reached calls).same
            ((reached calls).sound.holder_permitted p);
        outsider-refused =
            λ calls q about out.
            outsider_refused_here s.setup chosen ready.something ready.whole (run s calls) (reached calls) q about out;
      }

-- ---- the theorem

pub noninterference : FromEveryStart
noninterference before chosen ready = from_sound (run (fresh ours) before) (left-sound before) chosen ready

-- ---- a list that is in force, alone or in a block

-- an offer that loads is accepted on a fresh board, and leaves its list in force
loads-accepted : (b : Board) (o : Offer) → loads b o ≡ true → accepted (verdict_to (fresh b) o) ≡ true
unfolding loads verdict_to fresh listed
loads-accepted b (board bytes) ok = clash {x = false} ok refl
loads-accepted b (list bytes) ok = ok
loads-accepted b (block major minor bytes) ok = ok

loads-ready : (b : Board) (o : Offer) (chosen : List ℕ) → loads b o ≡ true → all_of (named_in (parts (list_of o))) chosen ≡ true → clusters_whole b chosen ≡ true
    → Ready (taken (fresh b) o) chosen
unfolding loads list_of taken fresh listed list_in
loads-ready b (board bytes) chosen ok named whole = clash {x = false} ok refl
loads-ready b (list bytes) chosen ok named whole = record { something = refl; named = named; whole = whole }
loads-ready b (block major minor bytes) chosen ok named whole = record { something = refl; named = named; whole = whole }

-- its list is accepted alone
pub loads-list : (b : Board) (o : Offer) → loads b o ≡ true → accepted (verdict_of b false (list_of o)) ≡ true
unfolding loads list_of
loads-list b (board bytes) ok = clash {x = false} ok refl
loads-list b (list bytes) ok = ok
loads-list b (block major minor bytes) ok = (good_block b false major minor bytes ok).list_good

module _ (b : Board) (o : Offer) (chosen : List ℕ) (ok : loads b o ≡ true) where
  loaded-is : after_offer (fresh b) o ≡ taken (fresh b) o
  unfolding after_offer
  loaded-is = cond-true _ _ (loads-accepted b o ok)

  loaded-ready : all_of (named_in (parts (list_of o))) chosen ≡ true → clusters_whole b chosen ≡ true → Ready (after_offer (fresh b) o) chosen
  loaded-ready named whole = subst⁻¹ (λ (s : State). Ready s chosen) loaded-is (loads-ready b o chosen ok named whole)

  -- on any good board
  pub loaded_on : Good b → all_of (named_in (parts (list_of o))) chosen ≡ true → clusters_whole b chosen ≡ true → Noninterference (after_offer (fresh b) o) chosen
  unfolding next
  loaded_on good named whole =
      from_sound (after_offer (fresh b) o) (sound_next (fresh b) (sound_fresh b good) (offer o)) chosen (loaded-ready named whole)

pub freshly_loaded : FreshlyLoaded
unfolding run next
freshly_loaded o chosen ok named whole = noninterference (offer o ∷ []) chosen (loaded-ready ours o chosen ok named whole)

-- ---- a board that is described

-- the choice by a description's clusters is that by its board's homes
module _ (d : Description) (chosen : List ℕ) (on : all_of (on_board (board_of d)) chosen ≡ true) (whole : clusters_listed d chosen ≡ true) where
  listed-whole : (p x : ℕ) → any_of (eqb p) chosen ≡ true → on_board (board_of d) x ≡ true → share_control (board_of d) p x ≡ true → any_of (eqb x) chosen ≡ true
  unfolding clusters_listed lists_processor
  listed-whole p x chose on-x shared =
      let on-p = all_of-member (on_board (board_of d)) chosen p on chose in
      ⊎_elim (λ apart. clash (sym (share_clusters d p x on-p on-x) ∙ shared) (not-true (share_word d p x) apart)) (λ there. there)
      (or_cases (not (share_word d p x)) (any_of (eqb x) chosen)
      (listed-member (λ (n : ℕ). not (share_word d p n) || any_of (eqb n) chosen) d.processors x
      (all_of-member
      (λ (r : ℕ). all_of (λ (y : Processor). not (share_word d r y.number) || any_of (eqb y.number) chosen) d.processors)
      chosen p whole chose)
      (placed d x on-x).listed))

  each_passes : (p x : ℕ) → any_of (eqb p) chosen ≡ true → sharer_chosen (board_of d) chosen p x ≡ true
  each_passes p x chose =
      ⊎_elim
      (λ both.
      or_right (not (on_board (board_of d) x && share_control (board_of d) p x))
      (listed-whole p x chose (and_left (on_board (board_of d) x) (share_control (board_of d) p x) both)
      (and_right (on_board (board_of d) x) (share_control (board_of d) p x) both)))
      (λ apart. or_left (any_of (eqb x) chosen) (ap not apart))
      (decide (on_board (board_of d) x && share_control (board_of d) p x))

  pub listed-clusters : clusters_whole (board_of d) chosen ≡ true
  unfolding clusters_whole
  listed-clusters =
      all_of-all (λ (p : ℕ). all_from (λ (x row : ℕ). sharer_chosen (board_of d) chosen p x) 0 (board_of d).places) chosen
      (λ p chose. all_from-all (λ (x row : ℕ). sharer_chosen (board_of d) chosen p x) (board_of d).places 0 (λ x row. each_passes p x chose))

-- an accepted description's board stands
described-is : (description : List ℕ) → accepted (board_verdict false description) ≡ true
    → after_offer (fresh ours) (board description) ≡ fresh (described description)
unfolding after_offer verdict_to taken fresh listed
described-is description ok = cond-true _ _ ok

-- what the list names is on it
pub named_all : (b : Board) (bytes chosen : List ℕ) → accepted (verdict_of b false bytes) ≡ true → all_of (named_in (parts bytes)) chosen ≡ true
    → all_of (on_board b) chosen ≡ true
named_all b bytes chosen ok named =
    all_of-all (on_board b) chosen (λ p chose. named_on b bytes p ok (all_of-member (named_in (parts bytes)) chosen p named chose))

pub for_every_description : ForEveryDescription
unfolding run next described
for_every_description description o chosen taken ok named whole =
    let d = description_in description in
    let on = named_all (board_of d) (list_of o) chosen (loads-list (board_of d) o ok) named in
    noninterference (offer (board description) ∷ offer o ∷ []) chosen
    (subst⁻¹ (λ (s : State). Ready (after_offer s o) chosen) (described-is description taken)
    (loaded-ready (board_of d) o chosen ok named (listed-clusters d chosen on whole)))

-- ---- before the first accepted list

-- once something was accepted it stays so
listed-stays : (cs : List Call) (s : State) → listed s.setup.source ≡ true → listed (run s cs).setup.source ≡ true
unfolding run next after_message stored
listed-stays [] s is = is
listed-stays (offer o ∷ cs) s is = listed-stays cs (after_offer s o) (subst⁻¹ (λ (t : State). listed t.setup.source ≡ true) (offer_kept s o is) is)
listed-stays (message lent ∷ cs) s is = listed-stays cs (after_message s (query_of lent)) is

-- an offer that would leave something accepted, where nothing is, was refused
offer_refused_here : (b : Board) (o : Offer) (cs : List Call) → listed (taken (fresh b) o).setup.source ≡ true
    → listed (run (after_offer (fresh b) o) cs).setup.source ≡ false → after_offer (fresh b) o ≡ fresh b
unfolding after_offer
offer_refused_here b o cs lists none =
    ⊎_elim
    (λ ok.
    clash
    (listed-stays cs (after_offer (fresh b) o)
    (ap (λ (s : State). listed s.setup.source) (cond-true (taken (fresh b) o) (fresh b) ok) ∙ lists))
    none)
    (λ no. cond-false _ _ no)
    (decide (accepted (verdict_to (fresh b) o)))

-- a description that is taken or not
board_after_lem : (b : Board) (bytes : List ℕ)
    → after_offer (fresh b) (board bytes) ≡ fresh (cond (accepted (board_verdict false bytes)) (described bytes) b)
unfolding after_offer verdict_to taken fresh listed
board_after_lem b bytes = ⊎_elim (λ t. rw t) (λ f. rw f) (decide (accepted (board_verdict false bytes)))

fresh-unlisted : (b : Board) → listed (fresh b).setup.source ≡ false
unfolding fresh listed
fresh-unlisted b = refl

leaves_board : (cs : List Call) (b : Board) → listed (run (fresh b) cs).setup.source ≡ false → run (fresh b) cs ≡ fresh (board_left b cs)
unfolding run next board_left taken listed
leaves_board [] b none = refl
leaves_board (offer (board bytes) ∷ cs) b none =
    let after = board_after_lem b bytes in
    ap (λ (s : State). run s cs) after
    ∙ leaves_board cs (cond (accepted (board_verdict false bytes)) (described bytes) b)
    (subst (λ (s : State). listed (run s cs).setup.source ≡ false) after none)
leaves_board (offer (list bytes) ∷ cs) b none =
    let after = offer_refused_here b (list bytes) cs refl none in
    ap (λ (s : State). run s cs) after ∙ leaves_board cs b (subst (λ (s : State). listed (run s cs).setup.source ≡ false) after none)
leaves_board (offer (block major minor bytes) ∷ cs) b none =
    let after = offer_refused_here b (block major minor bytes) cs refl none in
    ap (λ (s : State). run s cs) after ∙ leaves_board cs b (subst (λ (s : State). listed (run s cs).setup.source ≡ false) after none)
leaves_board (message lent ∷ cs) b none =
    let after = message_unlisted (fresh b) (query_of lent) (fresh-unlisted b) in
    ap (λ (s : State). run s cs) after ∙ leaves_board cs b (subst (λ (s : State). listed (run s cs).setup.source ≡ false) after none)

pub no_trace : NoTrace
no_trace calls none = leaves_board calls ours none
