-- Whole sequences: the picked answers and the chosen records of a sequence are those of its picks run alone.
use Prim.Native.Nat.{ℕ}
use mathlib.Core.Path.{◌≡◌, refl, ◌∙◌, ap₂}
use mathlib.Core.Bool.{true, false}
use mathlib.Core.List.{List, [], ◌∷◌}
use mathlib.Core.Logic.{⊎_elim}
use Rattle.rules.specs.Message.{Query}
use Rattle.rules.specs.State.{listed, Setup, State}
use Rattle.rules.specs.Call.{after_message, Answer, answer_to, Lent, query_of, Call, offer, message, next}
use Rattle.rules.specs.Sequence.{run}
use Rattle.rules.proofs.Tests.{decide}
use Rattle.noninterference.specs.Statement.{clusters_whole, picked, picks, answers}
use Rattle.noninterference.proofs.OneCall.{Reached, offer_stays, call_reached, unpicked_keeps, Agree, answer_same, agree_after}

-- the picks alone, and their answers
pub run_picks : State → List Query → State
run_picks s [] = s
run_picks s (q ∷ qs) = run_picks (after_message s q) qs

pub answer_picks : State → List Query → List Answer
answer_picks s [] = []
answer_picks s (q ∷ qs) = answer_to s q ∷ answer_picks (after_message s q) qs

module _ (setup : Setup) (chosen : List ℕ) (something : listed setup.source ≡ true) (whole : clusters_whole setup.board chosen ≡ true) where
  abbrev R : State → Type 0
  R = Reached setup chosen something whole

  -- a sequence leaves a state that is reached
  pub run-reached : (cs : List Call) (s : State) → R s → R (run s cs)
  unfolding run
  run-reached [] s r = r
  run-reached (c ∷ cs) s r = run-reached cs (next s c) (call_reached setup chosen something whole s r c)

  -- what a sequence from s and its picks from t have in common
  pub record Erased (s t : State) (cs : List Call) : Type 0 where
    pub answered : answers setup chosen s cs ≡ answer_picks t (picks setup chosen cs)
    pub left : Agree setup chosen something whole (run s cs) (run_picks t (picks setup chosen cs))

  -- a picked call: both answer it, and both go on
  with_pick : (s t : State) (rs : R s) (rt : R t) → Agree setup chosen something whole s t → (lent : Lent) (cs : List Call)
      → picked setup chosen (query_of lent) ≡ true
      → Erased (after_message s (query_of lent)) (after_message t (query_of lent)) cs
      → Erased s t (message lent ∷ cs)
  unfolding answers picks run next answer_picks run_picks
  with_pick s t rs rt agree lent cs pick rest =
      record {
        answered =
            rw pick
            (ap₂ ◌∷◌ (answer_same setup chosen something whole s t rs rt agree (query_of lent) pick) rest.answered);
        left = rw pick rest.left;
      }

  -- any other call: it leaves no trace in what is compared
  without-pick : (s t : State) (lent : Lent) (cs : List Call)
      → picked setup chosen (query_of lent) ≡ false
      → Erased (after_message s (query_of lent)) t cs
      → Erased s t (message lent ∷ cs)
  unfolding answers picks run next answer_picks run_picks
  without-pick s t lent cs pick rest = record { answered = rw pick rest.answered; left = rw pick rest.left }

  pub erase : (cs : List Call) (s t : State) → R s → R t → Agree setup chosen something whole s t → Erased s t cs
  unfolding answers picks run next answer_picks run_picks
  erase [] s t rs rt agree = record { answered = refl; left = agree }
  erase (offer o ∷ cs) s t rs rt agree =
      let e = offer_stays setup chosen something whole s rs o in
      let rest = erase cs s t rs rt agree in
      record { answered = rw e rest.answered; left = rw e rest.left }
  erase (message lent ∷ cs) s t rs rt agree =
      let q = query_of lent in
      let rs' = call_reached setup chosen something whole s rs (message lent) in
      ⊎_elim
      (λ pick.
      with_pick s t rs rt agree lent cs pick
      (erase cs (after_message s q) (after_message t q) rs' (call_reached setup chosen something whole t rt (message lent))
      (agree_after setup chosen something whole s t rs rt agree q pick)))
      (λ pick.
      without-pick s t lent cs pick
      (erase cs (after_message s q) t rs' rt
      (λ p c. unpicked_keeps setup chosen something whole s rs q pick p c ∙ agree p c)))
      (decide (picked setup chosen q))
