-- Document 02, L9, and what makes it right: with `matches` above `waits` no words whatever end the wait OK, and with equal numbers some do,
-- wherever a word can match the masks.
use Prim.Native.Nat.{ℕ, zero, suc, ◌+◌, ◌≤◌, ◌<◌, min}
use mathlib.Core.Path.{◌≡◌, refl, sym, subst, subst⁻¹, ap, ◌∙◌}
use mathlib.Core.Bool.{Bool, true, false, cond, not, ◌&&◌, ◌||◌, and-false}
use mathlib.Core.List.{List}
use mathlib.Core.Logic.{⊎_elim}
use native.Mathlib.Omega.{arith}
use lib.ListN.{length, get_or, replicate, length-replicate, get_or-replicate}
use lib.Dec.{eqb, ltb, leb}
use borrow.Author.Tests.{ltb-true, ltb-false, leb-true, leb-false, eqb-false, not-true, le-ltb, le-leb, lt-leb, ne_eqb}
use Rattle.std.specs.Prelude.{Err}
use Rattle.rules.specs.declared.Kind.TheVariants.{WaitStatus}
use Rattle.rules.specs.declared.Refusal.TheVariants.{R3, N9}
use Rattle.rules.specs.declared.Wait.{Wait}
use Rattle.rules.specs.Table.{first_of}
use Rattle.rules.specs.Message.{Query, wait_in}
use Rattle.rules.specs.Wait.{word_matches, run_after, ends_run, first_end, ending_check, ran_out, wait_good}
use Rattle.rules.specs.Outcome.{Outcome, OK, words_missing, wait_failed, by_words, carried_out}
use Rattle.rules.proofs.Tests.{decide, and_left, or_false_left, or_false_right, cond-true, cond-false}

module _ (w : Wait) (words : List ℕ) where
  -- a run is no longer than the checks made
  pub run-within : (n : ℕ) → run_after w words n ≤ n
  unfolding run_after
  run-within zero = omega arith
  run-within (suc n) =
      let before = run-within n in
      ⊎_elim (λ m. rw m (omega arith)) (λ m. rw m (omega arith)) (decide (word_matches w (get_or words n 0)))

  -- checks that are fewer than `matches` end no run
  few_end_none : (n left : ℕ) → n + left < w.matches → first_end w words n left ≡ 0
  unfolding first_end ends_run
  few_end_none n zero few = refl
  few_end_none n (suc left) few =
      let run = run-within (suc n) in
      cond-false _ _ (lt-leb w.matches (run_after w words (suc n)) (omega arith))
      ∙ few_end_none (suc n) left (omega arith)

  -- so with `matches` above `waits` no words end the wait OK
  pub never_ends : w.waits < w.matches → ran_out w words ≡ true
  unfolding ran_out ending_check
  never_ends above = rw (few_end_none 0 (min w.waits (length words)) (omega arith))

  -- where the first `matches` words match, the wait ends at check `matches`
  module _ (each : (k : ℕ) → k < w.matches → word_matches w (get_or words k 0) ≡ true) where
    run-whole : (n : ℕ) → n ≤ w.matches → run_after w words n ≡ n
    unfolding run_after
    run-whole zero within = refl
    run-whole (suc n) within = cond-true _ _ (each n within) ∙ ap suc (run-whole n (omega arith))

    ends_at : (n left : ℕ) → n < w.matches → w.matches ≤ n + left → first_end w words n left ≡ w.matches
    unfolding first_end ends_run
    ends_at n zero below there = omega arith
    ends_at n (suc left) below there =
        rw (run-whole (suc n) below)
        (⊎_elim
        (λ e. cond-true _ _ e ∙ (let last = leb-true w.matches (suc n) e in omega arith))
        (λ e. cond-false _ _ e ∙ ends_at (suc n) left (leb-false w.matches (suc n) e) (omega arith))
        (decide (leb w.matches (suc n))))

-- with `matches` up to `waits` a word that matches, over and over, ends the wait at check `matches`
module _ (w : Wait) (word : ℕ) (matching : word_matches w word ≡ true) where
  pub same_word_ends : 1 ≤ w.matches → w.matches ≤ w.waits → ending_check w (replicate w.waits word) ≡ w.matches
  unfolding ending_check
  same_word_ends some within =
      rw (length-replicate w.waits word)
      (ends_at w (replicate w.waits word)
      (λ k below. subst⁻¹ (λ (x : ℕ). word_matches w x ≡ true) (get_or-replicate w.waits k word 0 (omega arith)) matching)
      0 (min w.waits w.waits) some (omega arith))

  not_run_out : 1 ≤ w.matches → w.matches ≤ w.waits → ran_out w (replicate w.waits word) ≡ false
  unfolding ran_out
  not_run_out some within = rw (same_word_ends some within) (ne_eqb w.matches 0 (λ none. omega arith))

-- ---- the numbers of a wait whose operands are right

-- the rule's three tests of them are two: matches that are at least 1 and not above waits make waits at least 1
pub two_tests : (waits matches : ℕ) → (not (eqb waits 0) && not (eqb matches 0) && leb matches waits) ≡ not (eqb matches 0 || ltb waits matches)
two_tests waits matches =
    ⊎_elim
    (λ (none : eqb matches 0 ≡ true). rw none (ap (λ (t : Bool). t && leb matches waits) (and-false (not (eqb waits 0)))))
    (λ (some : eqb matches 0 ≡ false).
    ⊎_elim
    (λ (above : ltb waits matches ≡ true).
    rw (some, above, lt-leb matches waits (ltb-true waits matches above)) (and-false (not (eqb waits 0) && true)))
    (λ (within : ltb waits matches ≡ false).
    let most = ltb-false waits matches within in
    let one = eqb-false matches 0 some in
    rw (some, within, le-leb matches waits most, ne_eqb waits 0 (λ z. omega arith)))
    (decide (ltb waits matches)))
    (decide (eqb matches 0))

good_numbers : (w : Wait) → wait_good w ≡ true → (1 ≤ w.matches) × (w.matches ≤ w.waits)
good_numbers w good =
    let none = eqb w.matches 0 in
    let above = ltb w.waits w.matches in
    let three = and_left (not (eqb w.waits 0) && not none && leb w.matches w.waits) _ good in
    let right = not-true (none || above) (sym (two_tests w.waits w.matches) ∙ three) in
    let some = eqb-false w.matches 0 (or_false_left none above right) in
    (omega arith, ltb-false w.waits w.matches (or_false_right none above right))

-- ---- the same of the table's rows R3 and N9

-- what the words alone make of a wait: R3, N9 or OK
abbrev pub by_its_words : Query → Outcome
by_its_words q = first_of OK (by_words q WaitStatus)

-- a wait that fails is not carried out, whether or not words are missing
failed_not_ok : (missing failed : Bool) → failed ≡ true → carried_out (cond missing (Err R3) (cond failed (Err N9) OK)) ≡ false
unfolding carried_out
failed_not_ok true failed is = refl
failed_not_ok false failed is = rw is

module _ (q : Query) (w : Wait) (here : w ≡ wait_in q.message) where
  -- with `matches` above `waits`, whatever words are lent, not OK
  pub never_ok : w.waits < w.matches → carried_out (by_its_words q) ≡ false
  unfolding first_of by_words wait_failed
  never_ok above =
      failed_not_ok (words_missing WaitStatus q) (wait_failed WaitStatus q)
      (subst (λ (x : Wait). ran_out x q.status ≡ true) here (never_ends w q.status above))

  module _ (word : ℕ) (matching : word_matches w word ≡ true) (lent : q.status ≡ replicate w.waits word) where
    within-ok : 1 ≤ w.matches → w.matches ≤ w.waits → by_its_words q ≡ OK
    unfolding first_of by_words words_missing wait_failed
    within-ok some within =
        rw (
          sym here,
          lent,
          length-replicate w.waits word,
          le-ltb w.waits w.waits (omega arith),
          not_run_out w word matching some within,
        )

    -- with equal numbers, and a word that matches lent `waits` times, OK
    pub equal_ok : 1 ≤ w.matches → w.waits ≡ w.matches → by_its_words q ≡ OK
    equal_ok some equal = within-ok some (omega arith)

    -- and so wherever the operands are right: no wait is served that its numbers keep from OK
    pub good_ok : wait_good w ≡ true → by_its_words q ≡ OK
    good_ok good = let right = good_numbers w good in within-ok right.0 right.1
