-- After any calls each tally is what the count of the messages says that were carried out, and grants and releases tell whether the processor is
-- held (document 02, L10).
use Prim.Native.Nat.{ℕ, ◌+◌, ◌≤◌, min}
use mathlib.Core.Path.{◌≡◌, sym, subst, subst⁻¹, ap, ◌∙◌}
use mathlib.Core.Bool.{Bool, true, false, cond}
use mathlib.Core.List.{List, [], ◌∷◌}
use mathlib.Core.Logic.{⊎_elim}
use native.Mathlib.Nat.{zero-add}
use native.Mathlib.Omega.{arith}
use lib.ListN.{length, length-set}
use lib.Seq.{get_or-set_same}
use lib.Dec.{eqb, ltb}
use borrow.Author.Tests.{eqb-true, eqb-false, ne_eqb, ltb-true}
use Rattle.rules.specs.Verdict.{accepted}
use Rattle.rules.specs.Board.{row_of, on_board}
use Rattle.rules.specs.Description.{ours}
use Rattle.rules.specs.Message.{Query, subject_of, is_about}
use Rattle.rules.specs.Outcome.{outcome_of, carried_out}
use Rattle.rules.specs.Tally.{Tally, tally_in, tally_of, cap, one_more, difference_good}
use Rattle.rules.specs.Effect.{record_after}
use Rattle.rules.specs.State.{listed, Own, State, own_of, free_own, fresh, record_in, record_of, view_of, put_in, stored}
use Rattle.rules.specs.Call.{Offer, verdict_to, taken, after_offer, after_message, query_of, Call, offer, message, next}
use Rattle.rules.specs.Sequence.{run, Sound}
use Rattle.rules.specs.Warranty.{counts, count_of, Countable, FromAnyStart, CountedSince, SinceTheList}
use Rattle.rules.proofs.Tests.{decide, cond-true, cond-false}
use Rattle.rules.proofs.Rights.{allowed, carried_about, about_names}
use Rattle.rules.proofs.Tally.{more_sum, after-tally, difference_told, told_difference}
use Rattle.rules.proofs.Sound.{first_accepted, message_refused, message_unlisted, own_other, capped_after, differ_after, free_tally, sound_fresh, none_own, taken_own, sound_next, sound_run, left-sound}

-- ---- where a count may start

-- every state that calls left
pub sound_counts : (s : State) → Sound s → Countable s
sound_counts s sound =
    record {
      board_good = sound.board_good;
      rows-there = sound.rows-there;
      none_fresh = sound.none_fresh;
      tallies-capped = sound.tallies-capped;
    }

-- an offer that is accepted comes to a fresh manager, which is sound
module _ (s : State) (start : Countable s) (o : Offer) (ok : accepted (verdict_to s o) ≡ true) where
  none_before : listed s.setup.source ≡ false
  none_before = first_accepted s o ok

  fresh-before : Sound s
  fresh-before = subst⁻¹ Sound (start.none_fresh none_before) (sound_fresh s.setup.board start.board_good)

  sound_then : Sound (after_offer s o)
  unfolding next
  sound_then = sound_next s fresh-before (offer o)

-- and one that is refused leaves the state
offer_left : (s : State) (o : Offer) → accepted (verdict_to s o) ≡ false → after_offer s o ≡ s
unfolding after_offer
offer_left s o refused = cond-false (taken s o) s refused

-- so every call leaves a state where it may go on
offer_counts : (s : State) → Countable s → (o : Offer) → Countable (after_offer s o)
offer_counts s start o =
    ⊎_elim (λ ok. sound_counts (after_offer s o) (sound_then s start o ok))
    (λ refused. subst⁻¹ Countable (offer_left s o refused) start)
    (decide (accepted (verdict_to s o)))

message_counts : (s : State) → Countable s → (q : Query) → Countable (after_message s q)
unfolding after_message stored put_in
message_counts s start q =
    record {
      board_good = start.board_good;
      rows-there = length-set s.records.own (row_of s.setup.board (subject_of q)) _ ∙ start.rows-there;
      none_fresh = λ none. message_unlisted s q none ∙ start.none_fresh none;
      tallies-capped = λ t p. capped_after s q t p (start.tallies-capped t p);
    }

-- ---- one call

module _ (t : Tally) (p : ℕ) (s : State) where
  -- the tally after a message that counts, or does not
  abbrev after : Query → ℕ
  after q = cond (counts t p s q) (one_more (tally_of t (record_of s p))) (tally_of t (record_of s p))

  -- one about p that is not carried out, and one that is about another, does not count
  counts-not : (q : Query) → (is_about q p ≡ true → carried_out (outcome_of (view_of s p) q) ≡ false) → counts t p s q ≡ false
  unfolding counts
  counts-not q refused =
      ⊎_elim (λ (about : is_about q p ≡ true). rw (about, refused about)) (λ (other : is_about q p ≡ false). rw other)
      (decide (is_about q p))

  stands : (q : Query) → counts t p s q ≡ false → tally_of t (record_of s p) ≡ after q
  stands q none = sym (cond-false (one_more (tally_of t (record_of s p))) (tally_of t (record_of s p)) none)

module _ (t : Tally) (s : State) (start : Countable s) (q : Query) where
  -- the message is carried out: the tally of the processor that it names
  named_tally : carried_out (outcome_of (view_of s (subject_of q)) q) ≡ true
      → tally_of t (record_of (after_message s q) (subject_of q)) ≡ after t (subject_of q) s q
  unfolding record_of record_in after_message stored put_in counts view_of on_board
  named_tally ok =
      let x = subject_of q in
      let row = row_of s.setup.board x in
      let inside = subst⁻¹ (λ (n : ℕ). ltb row n ≡ true) start.rows-there (allowed (view_of s x) q ok).onboard in
      ap (λ (o : Own). tally_in t o.tallies)
      (get_or-set_same s.records.own row (own_of (record_after (view_of s x) q)) free_own (ltb-true row (length s.records.own) inside))
      ∙ after-tally t (view_of s x) q
      ∙ rw (carried_about (view_of s x) q ok)

  -- and of any other
  other_tally : (p : ℕ) → (subject_of q ≡ p → ⊥) → on_board s.setup.board (subject_of q) ≡ true
      → tally_of t (record_of (after_message s q) p) ≡ tally_of t (record_of s p)
  unfolding record_of record_in after_message stored
  other_tally p apart on =
      let b = s.setup.board in
      ap (λ (o : Own). tally_in t o.tallies)
      (own_other s (subject_of q) (record_after (view_of s (subject_of q)) q) p
      (ne_eqb (row_of b p) (row_of b (subject_of q)) (λ e. apart (sym (start.board_good.rows_apart p (subject_of q) e on)))))

  named_on : carried_out (outcome_of (view_of s (subject_of q)) q) ≡ true → on_board s.setup.board (subject_of q) ≡ true
  unfolding view_of
  named_on ok = (allowed (view_of s (subject_of q)) q ok).onboard

  message_tally : (p : ℕ) → tally_of t (record_of (after_message s q) p) ≡ after t p s q
  message_tally p =
      let x = subject_of q in
      ⊎_elim
      (λ ok.
      ⊎_elim
      (λ same.
      subst (λ (n : ℕ). tally_of t (record_of (after_message s q) n) ≡ after t n s q) (eqb-true x p same) (named_tally ok))
      (λ apart.
      other_tally p (eqb-false x p apart) (named_on ok)
      ∙ stands t p s q (counts-not t p s q (λ about. absurd (eqb-false x p apart (about_names q p about)))))
      (decide (eqb x p)))
      (λ refused.
      ap (λ (u : State). tally_of t (record_of u p)) (message_refused s q refused)
      ∙ stands t p s q
      (counts-not t p s q (λ about. subst (λ (n : ℕ). carried_out (outcome_of (view_of s n) q) ≡ false) (about_names q p about) refused)))
      (decide (carried_out (outcome_of (view_of s x) q)))

-- an offer leaves every tally: what is accepted comes to a state where all are 0, and leaves them so
offer_tally : (t : Tally) (s : State) → Countable s → (o : Offer) (p : ℕ) → tally_of t (record_of (after_offer s o) p) ≡ tally_of t (record_of s p)
unfolding after_offer
offer_tally t s start o p =
    ⊎_elim
    (λ ok.
    let none = first_accepted s o ok in
    let sound = fresh-before s start o ok in
    ap (λ (u : State). tally_of t (record_of u p)) (cond-true (taken s o) s ok)
    ∙ free_tally (record_of (taken s o) p) (taken_own s sound none o p) t
    ∙ sym (free_tally (record_of s p) (none_own s sound none p) t))
    (λ refused. ap (λ (u : State). tally_of t (record_of u p)) (offer_left s o refused))
    (decide (accepted (verdict_to s o)))

-- ---- sequences

-- a number that is not above the cap, and then m more
module _ (n m : ℕ) (capped : n ≤ cap) where
  none_more : n ≡ min cap (n + 0)
  none_more = omega arith

  sum_after : (one : Bool) → min cap (cond one (one_more n) n + m) ≡ min cap (n + (cond one 1 0 + m))
  sum_after true = more_sum n m capped
  sum_after false = ap (λ (k : ℕ). min cap (n + k)) (sym (zero-add m))

module _ (t : Tally) (p : ℕ) where
  count_run : (cs : List Call) (s : State) → Countable s
      → tally_of t (record_of (run s cs) p) ≡ min cap (tally_of t (record_of s p) + count_of t p s cs)
  unfolding run count_of next
  count_run [] s start = none_more (tally_of t (record_of s p)) 0 (start.tallies-capped t p)
  count_run (offer o ∷ cs) s start =
      count_run cs (after_offer s o) (offer_counts s start o)
      ∙ ap (λ (n : ℕ). min cap (n + count_of t p (after_offer s o) cs)) (offer_tally t s start o p)
  count_run (message lent ∷ cs) s start =
      let q = query_of lent in
      let later = count_of t p (after_message s q) cs in
      count_run cs (after_message s q) (message_counts s start q)
      ∙ ap (λ (n : ℕ). min cap (n + later)) (message_tally t s start q p)
      ∙ sum_after (tally_of t (record_of s p)) later (start.tallies-capped t p) (counts t p s q)

module _ (p : ℕ) where
  offer_differs : (s : State) → Countable s → (o : Offer) → difference_good (record_of s p) ≡ true → difference_good (record_of (after_offer s o) p) ≡ true
  offer_differs s start o good =
      ⊎_elim (λ ok. (sound_then s start o ok).tallies-differ p)
      (λ refused. subst⁻¹ (λ (u : State). difference_good (record_of u p) ≡ true) (offer_left s o refused) good)
      (decide (accepted (verdict_to s o)))

  differ_run : (cs : List Call) (s : State) → Countable s → difference_good (record_of s p) ≡ true → difference_good (record_of (run s cs) p) ≡ true
  unfolding run next
  differ_run [] s start good = good
  differ_run (offer o ∷ cs) s start good =
      differ_run cs (after_offer s o) (offer_counts s start o) (offer_differs s start o good)
  differ_run (message lent ∷ cs) s start good =
      differ_run cs (after_message s (query_of lent)) (message_counts s start (query_of lent)) (differ_after s (query_of lent) p good)

-- ---- the theorems

pub warranted : FromAnyStart
warranted s start calls p =
    record {
      counted = λ t. count_run t p calls s start;
      difference =
          λ told. difference_told (record_of (run s calls) p) (differ_run p calls s start (told_difference (record_of s p) told));
    }

-- from an offer to a manager that had accepted nothing
pub from_none : (s : State) → Sound s → listed s.setup.source ≡ false → (o : Offer) (calls : List Call) (p : ℕ)
    → CountedSince (after_offer s o) calls p
unfolding next
from_none s sound none o calls p =
    let start = after_offer s o in
    let left = sound_next s sound (offer o) in
    let none_yet : (t : Tally) → tally_of t (record_of start p) ≡ 0 =
    λ t. offer_tally t s (sound_counts s sound) o p ∙ free_tally (record_of s p) (none_own s sound none p) t
    in
    record {
      counted =
          λ t.
          count_run t p calls start (sound_counts start left)
          ∙ ap (λ (n : ℕ). min cap (n + count_of t p start calls)) (none_yet t)
          ∙ ap (min cap) (zero-add (count_of t p start calls));
      difference = difference_told (record_of (run start calls) p) ((sound_run calls start left).tallies-differ p);
    }

pub since_the_list : SinceTheList
since_the_list before o ok =
    let s = run (fresh ours) before in
    from_none s (left-sound before) (first_accepted s o ok) o
