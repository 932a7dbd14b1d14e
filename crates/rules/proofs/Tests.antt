-- Laws of tests, of tables and of searches, for any type.
use Prim.Native.Nat.{ℕ, zero, suc, pred, ◌+◌, ◌<◌}
use native.Mathlib.Nat.{add-zero, zero-add, add-suc, suc-add, le_of_suc-le-suc, not-suc-le-zero}
use native.Mathlib.Omega.{arith}
use mathlib.Core.Path.{◌≡◌, refl, sym, subst, ◌∙◌, ap}
use mathlib.Core.Bool.{Bool, true, false, cond, not, ◌&&◌, ◌||◌, true≢false}
use mathlib.Core.List.{List, [], ◌∷◌, ◌++◌}
use mathlib.Core.Logic.{◌⊎◌, inl, inr, ⊎_elim}
use lib.ListN.{length, get_or, set}
use lib.Dec.{eqb}
use borrow.Author.Tests.{eqb-true, eq-eqb, not-true}
use Rattle.rules.specs.Table.{Line, ◌gives◌, first_of, any_of, all_of, all_from}

pub decide : (x : Bool) → (x ≡ true) ⊎ (x ≡ false)
decide true = inl refl
decide false = inr refl

-- a test that holds and fails proves anything
pub clash {ℓ} : {A : Type ℓ} {x : Bool} → x ≡ true → x ≡ false → A
clash p q = absurd (true≢false (sym p ∙ q))

pub and_left : (x y : Bool) → (x && y) ≡ true → x ≡ true
and_left true y p = refl
and_left false y p = p

pub and_right : (x y : Bool) → (x && y) ≡ true → y ≡ true
and_right true y p = p
and_right false y p = clash {x = false} p refl

pub and_both : {x y : Bool} → x ≡ true → y ≡ true → (x && y) ≡ true
and_both {x} {y} p q = subst (λ (z : Bool). (z && y) ≡ true) (sym p) q

pub or_cases : (x y : Bool) → (x || y) ≡ true → (x ≡ true) ⊎ (y ≡ true)
or_cases true y p = inl refl
or_cases false y p = inr p

pub or_left : {x : Bool} (y : Bool) → x ≡ true → (x || y) ≡ true
or_left {x} y p = subst (λ (z : Bool). (z || y) ≡ true) (sym p) refl

pub or_right : (x : Bool) {y : Bool} → y ≡ true → (x || y) ≡ true
or_right true p = refl
or_right false p = p

pub or_false_left : (x y : Bool) → (x || y) ≡ false → x ≡ false
or_false_left true y p = p
or_false_left false y p = refl

pub or_false_right : (x y : Bool) → (x || y) ≡ false → y ≡ false
or_false_right true y p = clash {x = true} refl p
or_false_right false y p = p

pub cond-true {ℓ} : {A : Type ℓ} {x : Bool} (a b : A) → x ≡ true → cond x a b ≡ a
cond-true a b p = rw p

pub cond-false {ℓ} : {A : Type ℓ} {x : Bool} (a b : A) → x ≡ false → cond x a b ≡ b
cond-false a b p = rw p

-- ---- tables

-- below a table's last line the next table is read
pub first_of-append : {A : Type 0} (other : A) (above below : List (Line A))
    → first_of other (above ++ below) ≡ first_of (first_of other below) above
unfolding first_of
first_of-append other [] below = refl
first_of-append other ((test gives a) ∷ above) below = ap (cond test a) (first_of-append other above below)

-- a table that comes to a good answer, whatever answers are good: a line on top that gives no good one has a test that fails
module _ {A : Type 0} (good : A → Bool) (other : A) (test : Bool) (a : A) (below : List (Line A)) (bad : good a ≡ false)
    (comes : good (first_of other ((test gives a) ∷ below)) ≡ true) where
  pub cleared : test ≡ false
  unfolding first_of
  cleared =
      ⊎_elim (λ t. clash (rw (cond-true a (first_of other below) t) at comes) bad) (λ f. f) (decide test)

  -- and the lines below it come to the good answer
  pub passed : good (first_of other below) ≡ true
  unfolding first_of
  passed = rw (cond-false a (first_of other below) cleared) at comes

-- a line whose test fails is passed over
pub skipped : {A : Type 0} (other : A) {test : Bool} (a : A) (below : List (Line A)) → test ≡ false → first_of other ((test gives a) ∷ below) ≡ first_of other below
unfolding first_of
skipped other a below fails = cond-false a (first_of other below) fails

-- no line of a table gives a good answer
unfoldable pub none_good : {A : Type 0} → (A → Bool) → List (Line A) → Bool
none_good good [] = true
none_good good ((test gives a) ∷ below) = not (good a) && none_good good below

pub none_append : {A : Type 0} (good : A → Bool) (above below : List (Line A))
    → none_good good above ≡ true → none_good good below ≡ true → none_good good (above ++ below) ≡ true
unfolding none_good
none_append good [] below a b = b
none_append good ((test gives x) ∷ above) below a b =
    and_both (and_left (not (good x)) (none_good good above) a) (none_append good above below (and_right (not (good x)) (none_good good above) a) b)

-- such a table comes to none, where there is none below it
pub none_not : {A : Type 0} (good : A → Bool) (x : A) (table : List (Line A)) → none_good good table ≡ true → good x ≡ false → good (first_of x table) ≡ false
unfolding none_good first_of
none_not good x [] none bad = bad
none_not good x ((test gives a) ∷ below) none bad =
    ⊎_elim
    (λ (t : test ≡ true). rw t (not-true (good a) (and_left (not (good a)) (none_good good below) none)))
    (λ (f : test ≡ false). rw f (none_not good x below (and_right (not (good a)) (none_good good below) none) bad))
    (decide test)

-- such a table comes to a good answer only where no test of it holds
module _ {A : Type 0} (good : A → Bool) (x y : A) where
  pub none_falls : (table : List (Line A)) → none_good good table ≡ true → good (first_of x table) ≡ true → first_of y table ≡ y
  unfolding none_good first_of
  none_falls [] none ok = refl
  none_falls ((test gives a) ∷ below) none ok =
      ⊎_elim
      (λ (t : test ≡ true). clash (rw t at ok) (not-true (good a) (and_left (not (good a)) (none_good good below) none)))
      (λ (f : test ≡ false). rw f (none_falls below (and_right (not (good a)) (none_good good below) none) (rw f at ok)))
      (decide test)

  -- and to any other only by a line of its own, whatever comes below
  pub none_stops : (table : List (Line A)) → good x ≡ true → good (first_of x table) ≡ false → first_of y table ≡ first_of x table
  unfolding first_of
  none_stops [] ok bad = clash ok bad
  none_stops ((test gives a) ∷ below) ok bad =
      ⊎_elim (λ (t : test ≡ true). rw t) (λ (f : test ≡ false). rw f (none_stops below ok (rw f at bad))) (decide test)

-- ---- searches

-- a member that passes is one that passes
pub any_of-member : (test : ℕ → Bool) (xs : List ℕ) (p : ℕ) → any_of (eqb p) xs ≡ true → test p ≡ true → any_of test xs ≡ true
unfolding any_of
any_of-member test [] p m t = m
any_of-member test (x ∷ xs) p m t =
    ⊎_elim (λ e. or_left (any_of test xs) (subst (λ (y : ℕ). test y ≡ true) (eqb-true p x e) t))
    (λ m. or_right (test x) (any_of-member test xs p m t))
    (or_cases (eqb p x) (any_of (eqb p) xs) m)

-- where some element passes, a member does
pub any_of-find : (test : ℕ → Bool) (xs : List ℕ) → any_of test xs ≡ true
    → (p : ℕ) × (any_of (eqb p) xs ≡ true) × (test p ≡ true)
unfolding any_of
any_of-find test [] m = clash {x = false} m refl
any_of-find test (x ∷ xs) m =
    ⊎_elim (λ t. (x, or_left (any_of (eqb x) xs) (eq-eqb x x refl), t))
    (λ m.
    let found = any_of-find test xs m in
    (found.0, or_right (eqb found.0 x) found.1, found.2))
    (or_cases (test x) (any_of test xs) m)

-- where every element passes, a member does
pub all_of-member : (test : ℕ → Bool) (xs : List ℕ) (p : ℕ) → all_of test xs ≡ true → any_of (eqb p) xs ≡ true → test p ≡ true
unfolding any_of all_of
all_of-member test [] p t m = clash {x = false} m refl
all_of-member test (x ∷ xs) p t m =
    ⊎_elim (λ e. subst (λ (y : ℕ). test y ≡ true) (sym (eqb-true p x e)) (and_left (test x) (all_of test xs) t))
    (λ m. all_of-member test xs p (and_right (test x) (all_of test xs) t) m)
    (or_cases (eqb p x) (any_of (eqb p) xs) m)

-- where every member passes, all do
pub all_of-all : (test : ℕ → Bool) (xs : List ℕ) → ((p : ℕ) → any_of (eqb p) xs ≡ true → test p ≡ true) → all_of test xs ≡ true
unfolding any_of all_of
all_of-all test [] each = refl
all_of-all test (x ∷ xs) each =
    and_both (each x (or_left (any_of (eqb x) xs) (eq-eqb x x refl))) (all_of-all test xs (λ p m. each p (or_right (eqb p x) m)))

-- and where whatever stands at each place passes
pub all_from-all : {A : Type 0} (test : ℕ → A → Bool) (xs : List A) (i : ℕ) → ((k : ℕ) (x : A) → test k x ≡ true) → all_from test i xs ≡ true
unfolding all_from
all_from-all test [] i each = refl
all_from-all test (x ∷ xs) i each = and_both (each i x) (all_from-all test xs (suc i) each)

-- where every element passes at its place, the one at k does
pub all_from_at : {A : Type 0} (test : ℕ → A → Bool) (xs : List A) (i k : ℕ) (d : A)
    → all_from test i xs ≡ true → k < length xs → test (i + k) (get_or xs k d) ≡ true
unfolding all_from
all_from_at test [] i k d t h = absurd (not-suc-le-zero h)
all_from_at test (x ∷ xs) i zero d t h =
    subst (λ (n : ℕ). test n x ≡ true) (sym (add-zero i)) (and_left (test i x) (all_from test (suc i) xs) t)
all_from_at test (x ∷ xs) i (suc k) d t h =
    subst (λ (n : ℕ). test n (get_or xs k d) ≡ true) (suc-add i k ∙ sym (add-suc i k))
    (all_from_at test xs (suc i) k d (and_right (test i x) (all_from test (suc i) xs) t) (le_of_suc-le-suc h))

-- so a table that gives f at each of its places gives it at k
pub all_from-gives : (f : ℕ → ℕ) (table : List ℕ) (k d : ℕ)
    → all_from (λ (i x : ℕ). eqb x (f i)) 0 table ≡ true → k < length table → get_or table k d ≡ f k
all_from-gives f table k d t h =
    eqb-true (get_or table k d) (f k)
    (subst (λ (n : ℕ). eqb (get_or table k d) (f n) ≡ true) (zero-add k) (all_from_at (λ (i x : ℕ). eqb x (f i)) table 0 k d t h))

-- ---- stores

zero≢suc : (n : ℕ) → 0 ≡ suc n → ⊥
zero≢suc n e = omega arith

-- the same store in two lists of one length leaves them alike where they were alike
pub set-alike : {A : Type 0} (l k : List A) (i j : ℕ) (a d : A)
    → length l ≡ length k → get_or l j d ≡ get_or k j d → get_or (set l i a) j d ≡ get_or (set k i a) j d
set-alike [] [] i j a d n e = refl
set-alike [] (y ∷ k) i j a d n e = absurd (zero≢suc (length k) n)
set-alike (x ∷ l) [] i j a d n e = absurd (zero≢suc (length l) (sym n))
set-alike (x ∷ l) (y ∷ k) zero zero a d n e = refl
set-alike (x ∷ l) (y ∷ k) zero (suc j) a d n e = e
set-alike (x ∷ l) (y ∷ k) (suc i) zero a d n e = e
set-alike (x ∷ l) (y ∷ k) (suc i) (suc j) a d n e = set-alike l k i j a d (ap pred n) e
