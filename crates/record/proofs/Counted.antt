-- The controller and one tally changed in place are what the rules leave at the row: the other words stand.
use Prim.Native.Nat.{ℕ, suc, ◌+◌, ◌*◌, ◌≤◌, ◌<◌}
use mathlib.Core.Path.{◌≡◌, refl, sym, ap, ◌∙◌}
use mathlib.Core.Bool.{true, false}
use mathlib.Core.List.{List, [], ◌∷◌}
use native.Mathlib.Nat.{add-zero, add-suc, suc-add}
use native.Mathlib.Omega.{arith}
use lib.ListN.{get_or, set}
use lib.Seq.{sets, get_or-set_other}
use lib.Dec.{eqb, lit≤}
use borrow.Author.Tests.{eq-eqb, ne_eqb}
use Rattle.rules.specs.declared.Kind.{Kind}
use Rattle.rules.specs.declared.Kind.TheVariants.{Request, Release, Handover}
use Rattle.rules.specs.declared.Record.{Record}
use Rattle.rules.specs.Board.{Board, rows}
use Rattle.rules.specs.Tally.{counts_for, one_more, tally_after, tallies_after}
use Rattle.rules.specs.Effect.{held_by}
use Rattle.rules.specs.State.{Own, own_of}
use Rattle.record.specs.Memory.{own_words, own_at, record_at, with_own}
use Rattle.record.proofs.LentMemory.{Stand, stand_on, sets_same, one_put, word_by, own_is, own_none, own_stands}
use Rattle.record.specs.Holder.{held_own, with_holder}

-- ---- a row with another controller

module _ (m : List ℕ) (row h : ℕ) where
  abbrev at : ℕ
  at = 8 * row

  -- the words of the row behind the controller
  abbrev others : List ℕ
  others =
      get_or m (at + 1) 0
      ∷ get_or m (at + 2) 0
      ∷ get_or m (at + 3) 0
      ∷ get_or m (at + 4) 0
      ∷ get_or m (at + 5) 0
      ∷ get_or m (at + 6) 0
      ∷ get_or m (at + 7) 0
      ∷ []

  others-stand : Stand others (set m at h) (suc at)
  others-stand =
      stand_on (get_or m (at + 0) 0) others m at (λ j k. word_by (λ (i : ℕ). get_or m (at + i) 0) j k) h

  -- the memory with the controller put, and with one more in one tally
  abbrev held : List ℕ
  held = set m at h

  abbrev tallied : ℕ → List ℕ
  tallied j = set held (at + j) (one_more (get_or held (at + j) 0))

  none_counted : sets m at (h ∷ others) ≡ held
  none_counted = sets_same others held (suc at) others-stand

  one_counted : (j : ℕ) → j < 7 → sets m at (h ∷ set others j (one_more (get_or m (at + suc j) 0))) ≡ tallied (suc j)
  one_counted j k =
      one_put others held (suc at) j (one_more (get_or m (at + suc j) 0)) others-stand k
      ∙ ap (λ (i : ℕ). set held i (one_more (get_or m (at + suc j) 0))) (suc-add at j ∙ sym (add-suc at j))
      ∙ ap (λ (n : ℕ). set held (at + suc j) (one_more n)) (sym (get_or-set_other m at (at + suc j) h 0 (λ e. omega arith)))

  -- ---- by the host that controlled before

  module _ (inside : row < rows) where
    -- by the words that the rules leave at the row
    held-is : (k : Kind) → own_words (held_own k h (own_at m row)) ≡ h ∷ others → held ≡ with_holder k m row h
    held-is k words = sym (own_is m row (held_own k h (own_at m row)) inside ∙ ap (sets m at) words ∙ none_counted)

    tallied-is : (k : Kind) (j : ℕ) → j < 7 → own_words (held_own k h (own_at m row)) ≡ h ∷ set others j (one_more (get_or m (at + suc j) 0)) → tallied (suc j) ≡ with_holder k m row h
    tallied-is k j low words = sym (own_is m row (held_own k h (own_at m row)) inside ∙ ap (sets m at) words ∙ one_counted j low)

    -- the first word of the row is n, or is not
    before-is : (n : ℕ) → get_or m at 0 ≡ n → eqb (get_or m (at + 0) 0) n ≡ true
    before-is n is = eq-eqb (get_or m (at + 0) 0) n (ap (λ (k : ℕ). get_or m k 0) (add-zero at) ∙ is)

    before-not : (n : ℕ) → (get_or m at 0 ≡ n → ⊥) → eqb (get_or m (at + 0) 0) n ≡ false
    before-not n not = ne_eqb (get_or m (at + 0) 0) n (λ e. not (ap (λ (k : ℕ). get_or m k 0) (sym (add-zero at)) ∙ e))

    pub granted : get_or m at 0 ≡ 0 → tallied 4 ≡ with_holder Request m row h
    unfolding held_own tallies_after tally_after counts_for
    granted free = tallied-is Request 3 (lit≤ tt) (rw (before-is 0 free))

    module _ (taken : get_or m at 0 ≡ 0 → ⊥) where
      pub asked-again : get_or m at 0 ≡ h → held ≡ with_holder Request m row h
      unfolding held_own tallies_after tally_after counts_for
      asked-again own = held-is Request (rw (before-not 0 taken, before-is h own))

      pub overridden : (get_or m at 0 ≡ h → ⊥) → tallied 5 ≡ with_holder Request m row h
      unfolding held_own tallies_after tally_after counts_for
      overridden other = tallied-is Request 4 (lit≤ tt) (rw (before-not 0 taken, before-not h other))

    pub handed_to_itself : get_or m at 0 ≡ h → held ≡ with_holder Handover m row h
    unfolding held_own tallies_after tally_after counts_for
    handed_to_itself own = held-is Handover (rw (before-is h own))

    pub handed_over : (get_or m at 0 ≡ h → ⊥) → tallied 6 ≡ with_holder Handover m row h
    unfolding held_own tallies_after tally_after counts_for
    handed_over other = tallied-is Handover 5 (lit≤ tt) (rw (before-not h other))

    pub released : tallied 7 ≡ with_holder Release m row h
    unfolding held_own tallies_after tally_after counts_for
    released = tallied-is Release 6 (lit≤ tt) refl

-- a row that is not there is left alone
pub none_there : (k : Kind) (m : List ℕ) (row h : ℕ) → rows ≤ row → m ≡ with_holder k m row h
none_there k m row h past = sym (own_none m row (held_own k h (own_at m row)) past)

-- ---- as the rules say it of the record at the row

pub holder_is : (b : Board) (k : Kind) (m : List ℕ) (row h : ℕ) (r : Record) → r ≡ record_at b m row → row < rows
    → with_holder k m row h ≡ with_own m row (own_of (held_by h (tallies_after k h r) r))
unfolding held_own tallies_after tally_after counts_for
holder_is b k m row h r is inside =
    ap (λ (o : Own). with_own m row (held_own k h o)) (sym (own_stands b m row inside) ∙ ap own_of (sym is))
