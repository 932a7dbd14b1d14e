-- Every state that calls left is sound: the fresh one is, and every call keeps it, whatever the call. On the way: what one call leaves
-- in the state, an offer once something was accepted, a message that is refused, and a store for one processor.
use Prim.Native.Nat.{ℕ, zero, suc, ◌≤◌}
use mathlib.Core.Path.{◌≡◌, refl, sym, subst, subst⁻¹, ◌∙◌, ap, ap₂}
use mathlib.Core.Bool.{Bool, true, false}
use mathlib.Core.List.{List, [], ◌∷◌}
use mathlib.Core.Logic.{⊎_elim}
use lib.ListN.{length, get_or, set, replicate, length-set, length-replicate}
use lib.Seq.{set-get_or, get_or-set_same, get_or-set_other, set_out}
use lib.Dec.{eqb, ltb, lit≤}
use borrow.Author.Tests.{eqb-true, eqb-false, ltb-true, ltb-false}
use Rattle.rules.specs.declared.Record.{Record}
use Rattle.rules.specs.Table.{first_of}
use Rattle.rules.specs.Verdict.{accepted}
use Rattle.rules.specs.Board.{Board, rows, row_of, on_board, home_at, home_of}
use Rattle.rules.specs.Description.{description_table, board_verdict, our_description, description_in, described, ours, Good}
use Rattle.rules.specs.AccessList.{no_entry, list_table, verdict_of, entries_of}
use Rattle.rules.specs.Block.{list_part, block_table, block_verdict}
use Rattle.rules.specs.Message.{Query, subject_of}
use Rattle.rules.specs.Outcome.{outcome_of, carried_out}
use Rattle.rules.specs.Tally.{Tally, grants, overrides, handovers, releases, no_tallies, tally_in, tally_of, cap, held_count, difference_good}
use Rattle.rules.specs.Effect.{record_after}
use Rattle.rules.specs.State.{Source, nothing, a_list, a_block, listed, list_in, Setup, Own, State, own_of, joined, free_own, fresh, entry_of, record_in, record_of, view_of, put_in, stored}
use Rattle.rules.specs.Call.{Offer, board, list, block, verdict_to, taken, after_offer, after_message, query_of, Call, offer, message, next}
use Rattle.rules.specs.Sequence.{run, permitted_for, free_or_permitted, source_good, Sound}
use Rattle.rules.proofs.Tests.{decide, clash, or_left, cond-true, cond-false}
use Rattle.rules.proofs.Homes.{board_good}
use Rattle.rules.proofs.Blocks.{good_block}
use Rattle.rules.proofs.Rights.{soundly, allowed, after-sound, refusal_keeps}
use Rattle.rules.proofs.Tally.{after-capped, after-differs}

-- ---- an offer

list_again : (b : Board) (bytes : List ℕ) → accepted (verdict_of b true bytes) ≡ false
unfolding verdict_of list_table first_of accepted
list_again b bytes = refl

block_again : (b : Board) (major minor : ℕ) (bytes : List ℕ) → accepted (block_verdict b true major minor bytes) ≡ false
unfolding block_verdict block_table first_of accepted
block_again b major minor bytes = refl

board_again : (bytes : List ℕ) → accepted (board_verdict true bytes) ≡ false
unfolding board_verdict description_table first_of accepted
board_again bytes = refl

-- once something was accepted, every offer is refused
pub offer_refused : (s : State) (o : Offer) → listed s.setup.source ≡ true → accepted (verdict_to s o) ≡ false
unfolding verdict_to
offer_refused s (board bytes) e = subst⁻¹ (λ (x : Bool). accepted (board_verdict x bytes) ≡ false) e (board_again bytes)
offer_refused s (list bytes) e =
    subst⁻¹ (λ (x : Bool). accepted (verdict_of s.setup.board x bytes) ≡ false) e (list_again s.setup.board bytes)
offer_refused s (block major minor bytes) e =
    subst⁻¹ (λ (x : Bool). accepted (block_verdict s.setup.board x major minor bytes) ≡ false) e (block_again s.setup.board major minor bytes)

-- and changes nothing
pub offer_kept : (s : State) (o : Offer) → listed s.setup.source ≡ true → after_offer s o ≡ s
unfolding after_offer
offer_kept s o e = cond-false _ _ (offer_refused s o e)

-- so what is accepted comes first
pub first_accepted : (s : State) (o : Offer) → accepted (verdict_to s o) ≡ true → listed s.setup.source ≡ false
first_accepted s o ok =
    ⊎_elim (λ t. clash ok (offer_refused s o t)) (λ f. f) (decide (listed s.setup.source))

-- the list of a block that is accepted is accepted alone
list_too : (s : State) (major minor : ℕ) (bytes : List ℕ) → accepted (verdict_to s (block major minor bytes)) ≡ true
    → accepted (verdict_to s (list (list_part bytes))) ≡ true
unfolding verdict_to
list_too s major minor bytes ok =
    let good = good_block s.setup.board (listed s.setup.source) major minor bytes ok in
    subst⁻¹ (λ (x : Bool). accepted (verdict_of s.setup.board x (list_part bytes)) ≡ true) good.nothing_before good.list_good

-- document 02, L1: where a block is accepted its list is too, and both leave the same entries, and the same of all that a message sees
pub record AsItsList (s : State) (o : Offer) (list-bytes : List ℕ) : Type 0 where
  pub list_accepted : accepted (verdict_to s (list list-bytes)) ≡ true
  pub same_entries : (after_offer s o).setup.entries ≡ (after_offer s (list list-bytes)).setup.entries
  pub same_views : (p : ℕ) → view_of (after_offer s o) p ≡ view_of (after_offer s (list list-bytes)) p

pub block_as_list : (s : State) (major minor : ℕ) (bytes : List ℕ) → accepted (verdict_to s (block major minor bytes)) ≡ true
    → AsItsList s (block major minor bytes) (list_part bytes)
unfolding after_offer taken listed view_of entry_of record_of
block_as_list s major minor bytes ok =
    let lone = list_too s major minor bytes ok in
    let of-block = cond-true (taken s (block major minor bytes)) s ok in
    let of-list = sym (cond-true (taken s (list (list_part bytes))) s lone) in
    record {
      list_accepted = lone;
      same_entries = ap (λ (t : State). t.setup.entries) of-block ∙ ap (λ (t : State). t.setup.entries) of-list;
      same_views = λ p. ap (λ (t : State). view_of t p) of-block ∙ ap (λ (t : State). view_of t p) of-list;
    }

-- ---- a message

-- a message that is refused leaves the state
pub message_refused : (s : State) (q : Query) → carried_out (outcome_of (view_of s (subject_of q)) q) ≡ false → after_message s q ≡ s
unfolding after_message stored put_in view_of record_of record_in
message_refused s q refused =
    let b = s.setup.board in
    ap (λ (r : Record). stored s (subject_of q) r) (refusal_keeps (view_of s (subject_of q)) q refused)
    ∙ ap₂ (λ (os : List Own) (words : List ℕ). record { setup = s.setup; records = record { own = os; controls = words } })
    (set-get_or s.records.own (row_of b (subject_of q)) free_own)
    (set-get_or s.records.controls (home_at b (row_of b (subject_of q))) 0)

-- with no list accepted it is
pub message_unlisted : (s : State) (q : Query) → listed s.setup.source ≡ false → after_message s q ≡ s
unfolding view_of
message_unlisted s q e =
    ⊎_elim (λ ok. clash (allowed (view_of s (subject_of q)) q ok).listed e) (λ refused. message_refused s q refused)
    (decide (carried_out (outcome_of (view_of s (subject_of q)) q)))

-- a record stored for x keeps what is p's own where their rows differ, and p's control word where their homes do
module _ (s : State) (x : ℕ) (r : Record) (p : ℕ) where
  pub own_other : eqb (row_of s.setup.board p) (row_of s.setup.board x) ≡ false
      → get_or (stored s x r).records.own (row_of s.setup.board p) free_own ≡ get_or s.records.own (row_of s.setup.board p) free_own
  unfolding stored put_in
  own_other apart =
      get_or-set_other s.records.own (row_of s.setup.board x) (row_of s.setup.board p) (own_of r) free_own
      (eqb-false (row_of s.setup.board p) (row_of s.setup.board x) apart)

  pub stored_other : eqb (row_of s.setup.board p) (row_of s.setup.board x) ≡ false → eqb (home_of s.setup.board p) (home_of s.setup.board x) ≡ false
      → record_of (stored s x r) p ≡ record_of s p
  unfolding record_of record_in stored put_in home_of
  stored_other apart elsewhere =
      ap₂ joined (own_other apart)
      (get_or-set_other s.records.controls (home_of s.setup.board x) (home_of s.setup.board p) r.control 0
      (eqb-false (home_of s.setup.board p) (home_of s.setup.board x) elsewhere))

-- nor does a message change a row or a control word that is no processor's
module _ (s : State) (q : Query) (row : ℕ) where
  message_spare_own : ((p : ℕ) → on_board s.setup.board p ≡ true → eqb (row_of s.setup.board p) row ≡ false)
      → get_or (after_message s q).records.own row free_own ≡ get_or s.records.own row free_own
  unfolding after_message stored put_in view_of
  message_spare_own spare =
      let x = subject_of q in
      ⊎_elim
      (λ ok.
      get_or-set_other s.records.own (row_of s.setup.board x) row _ free_own
      (λ e. eqb-false _ row (spare x (allowed (view_of s x) q ok).onboard) (sym e)))
      (λ refused. ap (λ (t : State). get_or t.records.own row free_own) (message_refused s q refused))
      (decide (carried_out (outcome_of (view_of s x) q)))

  message_spare_word : ((p : ℕ) → on_board s.setup.board p ≡ true → eqb (home_of s.setup.board p) row ≡ false)
      → get_or (after_message s q).records.controls row 0 ≡ get_or s.records.controls row 0
  unfolding after_message stored put_in view_of home_of
  message_spare_word spare =
      let x = subject_of q in
      ⊎_elim
      (λ ok.
      get_or-set_other s.records.controls (home_of s.setup.board x) row _ 0
      (λ e. eqb-false _ row (spare x (allowed (view_of s x) q ok).onboard) (sym e)))
      (λ refused. ap (λ (t : State). get_or t.records.controls row 0) (message_refused s q refused))
      (decide (carried_out (outcome_of (view_of s x) q)))

-- what holds at every row of what is a processor's own, and is kept at the row of the processor named, is kept at every row
own_after : (Holds : ℕ → Own → Type 0) (s : State) (q : Query)
    → (Holds (row_of s.setup.board (subject_of q)) (own_of (record_of s (subject_of q)))
    → Holds (row_of s.setup.board (subject_of q)) (own_of (record_after (view_of s (subject_of q)) q)))
    → (p : ℕ)
    → Holds (row_of s.setup.board p) (own_of (record_of s p))
    → Holds (row_of s.setup.board p) (own_of (record_of (after_message s q) p))
unfolding record_of record_in after_message stored put_in
own_after Holds s q keeps p holds =
    let b = s.setup.board in
    let x = subject_of q in
    let os = s.records.own in
    let after = record_after (view_of s x) q in
    ⊎_elim
    (λ same.
    let row : row_of b p ≡ row_of b x = eqb-true (row_of b p) (row_of b x) same in
    ⊎_elim
    (λ inside.
    subst⁻¹ (λ (i : ℕ). Holds i (get_or (set os (row_of b x) (own_of after)) i free_own)) row
    (subst⁻¹ (Holds (row_of b x)) (get_or-set_same os (row_of b x) (own_of after) free_own (ltb-true _ _ inside))
    (keeps (subst (λ (i : ℕ). Holds i (get_or os i free_own)) row holds))))
    (λ outside.
    subst⁻¹ (λ (l : List Own). Holds (row_of b p) (get_or l (row_of b p) free_own)) (set_out os (row_of b x) (own_of after) (ltb-false _ _ outside)) holds)
    (decide (ltb (row_of b x) (length os))))
    (λ apart. subst⁻¹ (Holds (row_of b p)) (own_other s x after p apart) holds)
    (decide (eqb (row_of b p) (row_of b x)))

-- every processor that was held by a permitted host or by none still is
held_after : (s : State) (q : Query) (p : ℕ) → free_or_permitted s.setup p (record_of s p) ≡ true
    → free_or_permitted s.setup p (record_of (after_message s q) p) ≡ true
unfolding free_or_permitted permitted_for entry_of view_of
held_after s q =
    own_after (λ (row : ℕ) (o : Own). soundly s.setup.board (get_or s.setup.entries row no_entry) (joined o 0) ≡ true) s q
    (after-sound (view_of s (subject_of q)) q)

-- and its tallies are as they must be (document 02, L10)
pub capped_after : (s : State) (q : Query) (t : Tally) (p : ℕ) → tally_of t (record_of s p) ≤ cap → tally_of t (record_of (after_message s q) p) ≤ cap
unfolding view_of
capped_after s q t = own_after (λ (row : ℕ) (o : Own). tally_in t o.tallies ≤ cap) s q (after-capped t (view_of s (subject_of q)) q)

pub differ_after : (s : State) (q : Query) (p : ℕ) → difference_good (record_of s p) ≡ true → difference_good (record_of (after_message s q) p) ≡ true
unfolding view_of difference_good held_count
differ_after s q = own_after (λ (row : ℕ) (o : Own). difference_good (joined o 0) ≡ true) s q (after-differs (view_of s (subject_of q)) q)

-- ---- the invariant

-- a fresh manager's records are free at every row
same_at : {A : Type 0} (a : A) (n i : ℕ) → get_or (replicate n a) i a ≡ a
same_at a zero i = refl
same_at a (suc n) zero = refl
same_at a (suc n) (suc i) = same_at a n i

fresh-own : (b : Board) (p : ℕ) → own_of (record_of (fresh b) p) ≡ free_own
unfolding fresh record_of record_in
fresh-own b p = same_at free_own rows (row_of b p)

-- what is free and zero is as the invariant has it
module _ (r : Record) (is : own_of r ≡ free_own) where
  free_holder : (setup : Setup) (p : ℕ) → free_or_permitted setup p r ≡ true
  unfolding free_or_permitted free_own
  free_holder setup p = or_left _ (ap (λ (o : Own). eqb o.controller 0) is)

  pub free_tally : (t : Tally) → tally_of t r ≡ 0
  unfolding free_own no_tallies
  free_tally grants = ap (λ (o : Own). o.tallies.grants) is
  free_tally overrides = ap (λ (o : Own). o.tallies.overrides) is
  free_tally handovers = ap (λ (o : Own). o.tallies.handovers) is
  free_tally releases = ap (λ (o : Own). o.tallies.releases) is

  free_capped : (t : Tally) → tally_of t r ≤ cap
  free_capped t = subst⁻¹ (λ (n : ℕ). n ≤ cap) (free_tally t) (lit≤ tt)

  free_differs : difference_good r ≡ true
  unfolding difference_good held_count free_own no_tallies
  free_differs = ap (λ (o : Own). difference_good (joined o 0)) is

pub sound_fresh : (b : Board) → Good b → Sound (fresh b)
unfolding fresh listed source_good
sound_fresh b good =
    record {
      board_good = good;
      rows-there = length-replicate rows free_own;
      homes_there = length-replicate {A = ℕ} rows 0;
      spare-free = λ row spare. same_at free_own rows row;
      spare-zero = λ row spare. same_at {A = ℕ} 0 rows row;
      none_fresh = λ e. refl;
      source_good_lem = refl;
      entries-its = λ t. clash {x = false} t refl;
      holder_permitted = λ p. free_holder (record_of (fresh b) p) (fresh-own b p) _ p;
      tallies-capped = λ t p. free_capped (record_of (fresh b) p) (fresh-own b p) t;
      tallies-differ = λ p. free_differs (record_of (fresh b) p) (fresh-own b p);
    }

-- with nothing accepted every processor is free and zero, and still is when an offer has just been accepted
module _ (s : State) (sound : Sound s) (none : listed s.setup.source ≡ false) where
  row_free : (row : ℕ) → get_or s.records.own row free_own ≡ free_own
  unfolding fresh
  row_free row = ap (λ (t : State). get_or t.records.own row free_own) (sound.none_fresh none) ∙ same_at free_own rows row

  pub none_own : (p : ℕ) → own_of (record_of s p) ≡ free_own
  unfolding record_of record_in
  none_own p = row_free (row_of s.setup.board p)

  pub taken_own : (o : Offer) (p : ℕ) → own_of (record_of (taken s o) p) ≡ free_own
  unfolding taken record_of record_in
  taken_own (board bytes) p = row_free (row_of (described bytes) p)
  taken_own (list bytes) p = row_free (row_of s.setup.board p)
  taken_own (block major minor bytes) p = row_free (row_of s.setup.board p)

-- a list that is in force, alone or of a block, is one that the table accepts
pub source_list : (b : Board) (source : Source) → listed source ≡ true → source_good b source ≡ true → accepted (verdict_of b false (list_in source)) ≡ true
unfolding listed source_good list_in
source_list b nothing is good = clash {x = false} is refl
source_list b (a_list bytes) is good = good
source_list b (a_block bytes) is good = (good_block b false _ _ bytes good).list_good

-- a list that is in force from now on, in a state that was fresh: of whatever it came in, the lone list or a block
module _ (s : State) (sound : Sound s) (none : listed s.setup.source ≡ false) (source : Source) where
  listing : State
  listing =
      record {
        setup = record { board = s.setup.board; source = source; entries = entries_of s.setup.board (list_in source) };
        records = s.records;
      }

  listing_own : (p : ℕ) → own_of (record_of listing p) ≡ free_own
  unfolding listing record_of record_in
  listing_own p = none_own s sound none p

  sound_listing : listed source ≡ true → source_good s.setup.board source ≡ true → Sound listing
  unfolding listing
  sound_listing is own =
      record {
        board_good = sound.board_good;
        rows-there = sound.rows-there;
        homes_there = sound.homes_there;
        spare-free = sound.spare-free;
        spare-zero = sound.spare-zero;
        none_fresh = λ e. clash is e;
        source_good_lem = own;
        entries-its = λ t. refl;
        holder_permitted = λ p. free_holder (record_of listing p) (listing_own p) _ p;
        tallies-capped = λ t p. free_capped (record_of listing p) (listing_own p) t;
        tallies-differ = λ p. free_differs (record_of listing p) (listing_own p);
      }

-- what an accepted offer sets, in a state that was fresh
sound_taken : (s : State) → Sound s → (o : Offer) → accepted (verdict_to s o) ≡ true → Sound (taken s o)
unfolding verdict_to taken fresh listed list_in listing source_good described
sound_taken s sound (board bytes) ok =
    let none = first_accepted s (board bytes) ok in
    subst⁻¹ Sound (ap (λ (t : State). taken t (board bytes)) (sound.none_fresh none))
    (sound_fresh (described bytes) (board_good (description_in bytes)))
sound_taken s sound (list bytes) ok =
    let none = first_accepted s (list bytes) ok in
    let good = subst (λ (x : Bool). accepted (verdict_of s.setup.board x bytes) ≡ true) none ok in
    sound_listing s sound none (a_list bytes) refl good
sound_taken s sound (block major minor bytes) ok =
    let good = good_block s.setup.board (listed s.setup.source) major minor bytes ok in
    sound_listing s sound (first_accepted s (block major minor bytes) ok) (a_block bytes) refl good.own_bytes

sound_offer : (s : State) → Sound s → (o : Offer) → Sound (after_offer s o)
unfolding after_offer
sound_offer s sound o =
    ⊎_elim (λ ok. subst⁻¹ Sound (cond-true (taken s o) s ok) (sound_taken s sound o ok))
    (λ no. subst⁻¹ Sound (cond-false (taken s o) s no) sound)
    (decide (accepted (verdict_to s o)))

sound_message : (s : State) → Sound s → (q : Query) → Sound (after_message s q)
unfolding after_message stored put_in
sound_message s sound q =
    record {
      board_good = sound.board_good;
      rows-there = length-set s.records.own (row_of s.setup.board (subject_of q)) _ ∙ sound.rows-there;
      homes_there = length-set s.records.controls (home_at s.setup.board (row_of s.setup.board (subject_of q))) _ ∙ sound.homes_there;
      spare-free = λ row spare. message_spare_own s q row spare ∙ sound.spare-free row spare;
      spare-zero = λ row spare. message_spare_word s q row spare ∙ sound.spare-zero row spare;
      none_fresh = λ e. message_unlisted s q e ∙ sound.none_fresh e;
      source_good_lem = sound.source_good_lem;
      entries-its = sound.entries-its;
      holder_permitted = λ p. held_after s q p (sound.holder_permitted p);
      tallies-capped = λ t p. capped_after s q t p (sound.tallies-capped t p);
      tallies-differ = λ p. differ_after s q p (sound.tallies-differ p);
    }

pub sound_next : (s : State) → Sound s → (c : Call) → Sound (next s c)
unfolding next
sound_next s sound (offer o) = sound_offer s sound o
sound_next s sound (message lent) = sound_message s sound (query_of lent)

pub sound_run : (cs : List Call) (s : State) → Sound s → Sound (run s cs)
unfolding run
sound_run [] s sound = sound
sound_run (c ∷ cs) s sound = sound_run cs (next s c) (sound_next s sound c)

-- every state that calls left is sound
pub left-sound : (calls : List Call) → Sound (run (fresh ours) calls)
unfolding ours
left-sound calls = sound_run calls (fresh ours) (sound_fresh ours (board_good our_description))
