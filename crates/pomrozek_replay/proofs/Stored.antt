-- Words stored in short memories, and calls with the numbers that they hold.
use Prim.Native.Nat.{ℕ}
use mathlib.Core.Path.{◌≡◌, refl, subst}
use mathlib.Core.Bool.{Bool}
use mathlib.Core.List.{List, [], ◌∷◌}
use native.Mathlib.Omega.{arith}
use lib.ListN.{length, set}
use Rattle.recording_step.specs.SessionMemory.{SessionMemories}
use Rattle.recording_feed.specs.declared.Fed.{Fed}
use Rattle.recording_feed.specs.declared.Ended.{Ended}
use Rattle.recording_feed.specs.Feed.{FeedCall, EndCall}

-- two words stored in a list of two, and three in one of three
pub two : (l : List ℕ) (a b : ℕ) → length l ≡ 2 → set (set l 0 a) 1 b ≡ a ∷ b ∷ []
two [] a b n = absurd (let z : ◌≡◌ {A = ℕ} 0 2 = n in omega arith)
two (x ∷ []) a b n = absurd (let z : ◌≡◌ {A = ℕ} 1 2 = n in omega arith)
two (x ∷ y ∷ []) a b n = refl
two (x ∷ y ∷ z ∷ l) a b n = absurd (let q : ◌≡◌ {A = ℕ} (length (x ∷ y ∷ z ∷ l)) 2 = n in omega arith)

pub three : (l : List ℕ) (a b d : ℕ) → length l ≡ 3 → set (set (set l 0 a) 1 b) 2 d ≡ a ∷ b ∷ d ∷ []
three [] a b d n = absurd (let z : ◌≡◌ {A = ℕ} 0 3 = n in omega arith)
three (x ∷ []) a b d n = absurd (let z : ◌≡◌ {A = ℕ} 1 3 = n in omega arith)
three (x ∷ y ∷ []) a b d n = absurd (let z : ◌≡◌ {A = ℕ} 2 3 = n in omega arith)
three (x ∷ y ∷ z ∷ []) a b d n = refl
three (x ∷ y ∷ z ∷ w ∷ l) a b d n = absurd (let q : ◌≡◌ {A = ℕ} (length (x ∷ y ∷ z ∷ w ∷ l)) 3 = n in omega arith)

-- a call with the numbers that the stream's words hold
pub fed_by : (m : ℕ → SessionMemories) {m' : SessionMemories} {carry piece out carry' out' : List ℕ} {r : Fed} {count count₁ held held₁ : ℕ} {over over₁ : Bool}
    → count ≡ count₁ → held ≡ held₁ → over ≡ over₁
    → FeedCall (m count) carry held over piece 0 out m' carry' out' r → FeedCall (m count₁) carry held₁ over₁ piece 0 out m' carry' out' r
fed_by m {m'} {carry} {piece} {out} {carry'} {out'} {r} {count} {count₁} {held} {held₁} {over} {over₁} first second third call =
    subst (λ (x : Bool). FeedCall (m count₁) carry held₁ x piece 0 out m' carry' out' r) third
    (subst (λ (h : ℕ). FeedCall (m count₁) carry h over piece 0 out m' carry' out' r) second
    (subst (λ (n : ℕ). FeedCall (m n) carry held over piece 0 out m' carry' out' r) first call))

pub ended_by : {carry out out' : List ℕ} {r : Ended} {held held₁ : ℕ} {over over₁ : Bool} → held ≡ held₁ → over ≡ over₁
    → EndCall carry held over out out' r → EndCall carry held₁ over₁ out out' r
ended_by {carry} {out} {out'} {r} {held} {held₁} {over} {over₁} first second call =
    subst (λ (x : Bool). EndCall carry held₁ x out out' r) second (subst (λ (h : ℕ). EndCall carry h over out out' r) first call)
