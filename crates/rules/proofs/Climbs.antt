-- Following a function step by step and coming back, for any function; and the pigeonhole law, which bounds the way.
use Prim.Native.Nat.{ℕ, zero, suc, ◌+◌, ◌*◌, ◌<◌, ◌≤◌}
use mathlib.Core.Path.{◌≡◌, refl, sym, subst, ◌∙◌, ap}
use mathlib.Core.Bool.{Bool, true, false, cond, not, ◌||◌}
use mathlib.Core.Logic.{◌⊎◌, inl, inr, ⊎_elim}
use native.Mathlib.Nat.{zero-add, suc-add, zero-mul, suc-mul, le_refl, le_of_suc-le-suc, not-suc-le-zero}
use native.Mathlib.Omega.{arith}
use lib.Dec.{eqb}
use borrow.Author.Tests.{eqb-true, eqb-false, eq-eqb, ne_eqb}
use Rattle.rules.specs.Hierarchy.{climb, meets}
use Rattle.rules.proofs.Tests.{decide, clash, and_right, and_both, or_cases, or_left, or_right, cond-true, cond-false}

-- ---- steps

module _ (up : ℕ → ℕ) where
  pub climb-add : (m n h : ℕ) → climb up (m + n) h ≡ climb up n (climb up m h)
  unfolding climb
  climb-add zero n h = ap (λ (k : ℕ). climb up k h) (zero-add n)
  climb-add (suc m) n h = ap (λ (k : ℕ). climb up k h) (suc-add m n) ∙ climb-add m n (up h)

  -- the last step
  pub climb-last : (n h : ℕ) → climb up (suc n) h ≡ up (climb up n h)
  unfolding climb
  climb-last zero h = refl
  climb-last (suc n) h = climb-last n (up h)

  -- who comes back comes back after every round
  pub climb-rounds : (n h : ℕ) → climb up n h ≡ h → (m : ℕ) → climb up (m * n) h ≡ h
  unfolding climb
  climb-rounds n h back zero = ap (λ (k : ℕ). climb up k h) (zero-mul n)
  climb-rounds n h back (suc m) =
      ap (λ (k : ℕ). climb up k h) (suc-mul m n)
      ∙ climb-add (m * n) n h
      ∙ ap (climb up n) (climb-rounds n h back m)
      ∙ back

  -- behind 0 comes 0 for ever
  pub climb-zero : up 0 ≡ 0 → (n : ℕ) → climb up n 0 ≡ 0
  unfolding climb
  climb-zero stays zero = refl
  climb-zero stays (suc n) = ap (climb up n) stays ∙ climb-zero stays n

  -- ---- meeting a host

  -- it is come to after less than n steps
  pub meets-comes : (h n x : ℕ) → meets up h n x ≡ true → (d : ℕ) × (d < n) × (climb up d x ≡ h)
  unfolding meets climb
  meets-comes h zero x m = clash {x = false} m refl
  meets-comes h (suc n) x m =
      ⊎_elim (λ here. (0, omega arith, eqb-true x h here))
      (λ later. let found = meets-comes h n (up x) later in let less = found.1 in (suc found.0, omega arith, found.2))
      (or_cases (eqb x h) (meets up h n (up x)) (and_right (not (eqb x 0)) (eqb x h || meets up h n (up x)) m))

  -- and is not 0
  pub meets-some : (n x : ℕ) → meets up 0 n x ≡ false
  unfolding meets
  meets-some zero x = refl
  meets-some (suc n) x =
      ⊎_elim (λ (t : eqb x 0 ≡ true). rw t) (λ (f : eqb x 0 ≡ false). rw f (meets-some n (up x))) (decide (eqb x 0))

  -- what is come to after less than n steps is met
  pub meets-there : up 0 ≡ 0 → (h : ℕ) → (h ≡ 0 → ⊥) → (n d x : ℕ) → d < n → climb up d x ≡ h → meets up h n x ≡ true
  unfolding meets climb
  meets-there stays h some zero d x inside comes = absurd (not-suc-le-zero inside)
  meets-there stays h some (suc n) zero x inside comes =
      and_both (ap not (ne_eqb x 0 (λ z. some (sym comes ∙ z)))) (or_left (meets up h n (up x)) (eq-eqb x h comes))
  meets-there stays h some (suc n) (suc d) x inside comes =
      and_both (ap not (ne_eqb x 0 (λ z. some (sym comes ∙ ap (λ (y : ℕ). climb up d (up y)) z ∙ climb-zero stays (suc d)))))
      (or_right (eqb x h) (meets-there stays h some n d (up x) (le_of_suc-le-suc inside) comes))

-- ---- the pigeonhole law

-- some number up to n passes a test, or none does
pub up_to : (test : ℕ → Bool) (n : ℕ) → ((k : ℕ) × (k ≤ n) × (test k ≡ true)) ⊎ ((k : ℕ) → k ≤ n → test k ≡ false)
up_to test zero =
    ⊎_elim (λ t. inl (0, omega arith, t))
    (λ f. inr (λ k h. let none : 0 ≡ k = omega arith in subst (λ (i : ℕ). test i ≡ false) none f))
    (decide (test 0))
up_to test (suc n) =
    ⊎_elim (λ t. inl (suc n, omega arith, t))
    (λ f.
    ⊎_elim (λ found. let h = found.1 in inl (found.0, omega arith, found.2))
    (λ none.
    inr
    (λ k h.
    ⊎_elim (λ last. subst (λ (i : ℕ). test i ≡ false) (sym (eqb-true k (suc n) last)) f)
    (λ before. let other = eqb-false k (suc n) before in none k (omega (arith, other)))
    (decide (eqb k (suc n)))))
    (up_to test n))
    (decide (test (suc n)))

-- a number below n + 1 other than v, with v for n
abbrev without : ℕ → ℕ → ℕ → ℕ
without v n a = cond (eqb a n) v a

without-below : (v n a : ℕ) → a < suc n → v < suc n → (a ≡ v → ⊥) → without v n a < n
without-below v n a ha hv other =
    ⊎_elim
    (λ (t : eqb a n ≡ true).
    let is = eqb-true a n t in
    let apart : v ≡ n → ⊥ = λ e. other (is ∙ sym e) in
    rw t (omega (arith, apart)))
    (λ (f : eqb a n ≡ false). let apart = eqb-false a n f in rw f (omega (arith, apart)))
    (decide (eqb a n))

without-same : (v n a b : ℕ) → (a ≡ v → ⊥) → (b ≡ v → ⊥) → without v n a ≡ without v n b → a ≡ b
without-same v n a b a-other b-other same =
    ⊎_elim
    (λ ta.
    ⊎_elim (λ tb. eqb-true a n ta ∙ sym (eqb-true b n tb))
    (λ fb. absurd (b-other (sym (cond-false v b fb) ∙ sym same ∙ cond-true v a ta)))
    (decide (eqb b n)))
    (λ fa.
    ⊎_elim (λ tb. absurd (a-other (sym (cond-false v a fa) ∙ same ∙ cond-true v b tb)))
    (λ fb. sym (cond-false v a fa) ∙ same ∙ cond-false v b fb)
    (decide (eqb b n)))
    (decide (eqb a n))

-- two places up to n at which f says the same
pub record Twice (f : ℕ → ℕ) (n : ℕ) : Type 0 where
  pub low : ℕ
  pub high : ℕ
  pub apart : low < high
  pub within : high ≤ n
  pub same : f low ≡ f high

-- n + 1 numbers below n are not all different
pub pigeonhole : (n : ℕ) (f : ℕ → ℕ) → ((k : ℕ) → k ≤ n → f k < n) → Twice f n
pigeonhole zero f below = absurd (not-suc-le-zero (below 0 (le_refl 0)))
pigeonhole (suc n) f below =
    ⊎_elim
    (λ found.
    let h = found.1 in
    record {
      low = found.0;
      high = suc n;
      apart = omega arith;
      within = le_refl (suc n);
      same = eqb-true (f found.0) (f (suc n)) found.2;
    })
    (λ none.
    let other : (k : ℕ) → k ≤ n → f k ≡ f (suc n) → ⊥ = λ k h. eqb-false (f k) (f (suc n)) (none k h) in
    let rest =
    pigeonhole n (λ (k : ℕ). without (f (suc n)) n (f k))
    (λ k h. without-below (f (suc n)) n (f k) (below k (omega arith)) (below (suc n) (le_refl (suc n))) (other k h))
    in
    let inside = rest.within in
    let order = rest.apart in
    record {
      low = rest.low;
      high = rest.high;
      apart = order;
      within = omega arith;
      same =
          without-same (f (suc n)) n (f rest.low) (f rest.high) (other rest.low (omega arith)) (other rest.high inside)
          rest.same;
    })
    (up_to (λ (k : ℕ). eqb (f k) (f (suc n))) n)
