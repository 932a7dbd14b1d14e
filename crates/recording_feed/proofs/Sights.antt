-- What is in sight, where the carry is settled, is what the bytes that are there begin with; and where its body stands.
use Prim.Native.Nat.{ℕ, ◌+◌, ◌≤◌, ◌<◌}
use mathlib.Core.Path.{◌≡◌, refl, sym, ap, ap₂, ◌∙◌, subst, subst⁻¹}
use mathlib.Core.Bool.{Bool, true, false}
use mathlib.Core.List.{List, ◌++◌}
use mathlib.Core.Logic.{⊎_elim}
use native.Mathlib.Nat.{add-sub_cancel_left}
use native.Mathlib.Omega.{arith}
use lib.ListN.{length, take, drop, length-drop, take-append-drop}
use lib.Seq.{take-append-le, drop-append-le, drop-drop, length-take-le}
use lib.Dec.{eqb}
use borrow.Author.Tests.{eqb-true, eqb-false}
use Rattle.rules.specs.declared.Found.{Found}
use Rattle.rules.specs.declared.Found.TheVariants.{Whole, Bad, Partial, Nothing}
use Rattle.rules.specs.Bytes.{byte_at, u16_at}
use Rattle.rules.specs.Recording.{found, is_whole, is_bad, field_of, field_in, field_length}
use Rattle.rules.proofs.Tests.{decide, clash, or_left, cond-true, cond-false}
use Rattle.rules.proofs.Recording.{Finding, nothing, bad_tag, bad_length, tag_alone, head_alone, whole, finding, whole-field, found-behind, field_same, rest_same}
use Rattle.recording_feed.specs.declared.cursor.Cursor.{Cursor}
use Rattle.recording_feed.specs.declared.cursor.Sight.{Sight}
use Rattle.recording_feed.specs.declared.cursor.Sight.TheVariants.{Record, More}
use Rattle.recording_feed.specs.Pending.{pending, part_by, sight_in, sight_of, broken_in}
use Rattle.recording_feed.specs.Feed.{passed_bytes}

-- a part that lies within the first bytes of a list
pub part-within : (l : List ℕ) (m n k : ℕ) → m + n ≤ k → k ≤ length l → take n (drop m (take k l)) ≡ take n (drop m l)
part-within l m n k h i =
    let size = length-take-le k l i in
    sym
    (ap (λ (x : List ℕ). take n (drop m x)) (sym (take-append-drop k l))
    ∙ ap (take n) (drop-append-le m (take k l) (drop k l) (omega (arith, size)))
    ∙ take-append-le n (drop m (take k l)) (drop k l) (rw length-drop (omega (arith, size))))

-- a whole record: its tag and length are those of the bytes
whole_is : (bytes : List ℕ) (tag n : ℕ) → found bytes ≡ Whole tag n → (tag ≡ byte_at bytes 0) × (n ≡ u16_at bytes 1)
whole_is bytes tag n is = cases (found bytes) (finding bytes) is
  where
    cases : (f : Found) → Finding bytes f → f ≡ Whole tag n → (tag ≡ byte_at bytes 0) × (n ≡ u16_at bytes 1)
    cases f (nothing none) e = clash {x = false} (ap is_whole e) refl
    cases f (bad_tag some bad) e = clash {x = false} (ap is_whole e) refl
    cases f (bad_length three bad) e = clash {x = false} (ap is_whole e) refl
    cases f (tag_alone some good short) e = clash {x = false} (ap is_whole e) refl
    cases f (head_alone three good cut) e = clash {x = false} (ap is_whole e) refl
    cases f (whole three good there) e = (cc, cc)

-- a record in sight
pub record Seen (carry : List ℕ) (held : ℕ) (piece : List ℕ) (at tag : ℕ) (c : Cursor) : Type 0 where
  pub is_whole_lem : is_whole (found (pending carry held piece at)) ≡ true
  pub field : field_in (pending carry held piece at) ≡ field_of tag (part_by carry piece c)
  pub passed : passed_bytes carry held piece at c.carried c.end ≡ drop (field_length (pending carry held piece at)) (pending carry held piece at)
  pub in_carry : c.carried ≡ true → (3 ≤ c.end) × (c.end ≤ held)
  pub in_piece : c.carried ≡ false → (at + 3 ≤ c.end) × (c.end ≤ length piece)

-- in the piece, where nothing is held
seen_piece : (carry piece : List ℕ) (at tag n : ℕ) → at ≤ length piece → found (drop at piece) ≡ Whole tag n
    → Seen carry 0 piece at tag (record { carried = false; start = at + 3; end = at + 3 + n })
unfolding passed_bytes
seen_piece carry piece at tag n there is =
    let w = whole-field (drop at piece) (ap is_whole is) in
    let read = whole_is (drop at piece) tag n is in
    let size = length-drop at piece in
    record {
      is_whole_lem = ap is_whole is;
      field =
          ap₂ field_of (sym read.0)
          (ap₂ (λ (k : ℕ) (l : List ℕ). take k l) (sym read.1 ∙ sym (add-sub_cancel_left (at + 3) n)) (drop-drop 3 at piece));
      passed =
          (let place : at + 3 + n ≡ at + (3 + u16_at (drop at piece) 1) = omega (arith, read.1) in ap (λ (k : ℕ). drop k piece) place) ∙ sym (drop-drop (3 + u16_at (drop at piece) 1) at piece);
      in_carry = λ t. clash {x = false} t refl;
      in_piece = λ _. (omega arith, omega (arith, w.ends, size, read.1));
    }

-- in the carry, which alone says what comes next
seen_carry : (carry piece : List ℕ) (held at tag n : ℕ) → held ≤ length carry → found (take held carry) ≡ Whole tag n
    → Seen carry held piece at tag (record { carried = true; start = 3; end = 3 + n })
unfolding passed_bytes
seen_carry carry piece held at tag n fits is =
    let b = take held carry in
    let there : is_whole (found b) ≡ true = ap is_whole is in
    let w = whole-field b there in
    let read = whole_is b tag n is in
    let size = length-take-le held carry fits in
    record {
      is_whole_lem = ap is_whole (found-there there) ∙ there;
      field =
          field_same b (drop at piece) there
          ∙ ap₂ field_of (sym read.0)
          (ap (λ (k : ℕ). take k (drop 3 b)) (sym read.1)
          ∙ part-within carry 3 n held (omega (arith, w.ends, size, read.1)) fits
          ∙ ap (λ (k : ℕ). take k (drop 3 carry)) (sym (add-sub_cancel_left 3 n)));
      passed = ap (λ (k : ℕ). drop (3 + k) b ++ drop at piece) read.1 ∙ sym (rest_same b (drop at piece) there);
      in_carry = λ _. (omega arith, omega (arith, w.ends, size, read.1));
      in_piece = λ f. clash {x = true} refl f;
    }
  where
    found-there : is_whole (found (take held carry)) ≡ true → found (take held carry ++ drop at piece) ≡ found (take held carry)
    found-there t = found-behind (take held carry) (drop at piece) (or_left (is_bad (found (take held carry))) t)

-- ---- from what is in sight

-- where nothing is held, or the carry alone says what comes next
abbrev pub Alone : List ℕ → ℕ → List ℕ → ℕ → Type 0
Alone carry held piece at = 0 < held → found (take held carry) ≡ found (pending carry held piece at)

-- what is in sight was found in one of the two, and in the bytes that are there
found_in : (carry piece : List ℕ) (held at : ℕ) → Alone carry held piece at → (P : Sight → Found → Type 0)
    → (held ≡ 0 → P (sight_in false at (found (drop at piece))) (found (drop at piece)))
    → (0 < held → P (sight_in true 0 (found (take held carry))) (found (take held carry)))
    → P (sight_of carry held piece at) (found (pending carry held piece at))
unfolding sight_of
found_in carry piece held at alone P in_piece in_carry =
    ⊎_elim
    (λ t.
    let none = eqb-true held 0 t in
    subst⁻¹ (λ (x : Sight). P x (found (pending carry held piece at))) (cond-true _ _ t)
    (subst⁻¹ (λ (k : ℕ). P (sight_in false at (found (drop at piece))) (found (take k carry ++ drop at piece))) none (in_piece none)))
    (λ f.
    let some : 0 < held = (let other = eqb-false held 0 f in omega arith) in
    subst⁻¹ (λ (x : Sight). P x (found (pending carry held piece at))) (cond-false _ _ f) (subst (P (sight_in true 0 (found (take held carry)))) (alone some) (in_carry some)))
    (decide (eqb held 0))

no_more : (tag : ℕ) (c : Cursor) → Record tag c ≡ More → ⊥
no_more tag c e = let z : ◌≡◌ {A = ℕ} 0 1 = cc in omega arith

-- a record: in the carry or in the piece
pub record_seen_lem : (carry piece : List ℕ) (held at tag : ℕ) (c : Cursor) → held ≤ length carry → at ≤ length piece → Alone carry held piece at
    → Record tag c ≡ sight_of carry held piece at → Seen carry held piece at tag c
unfolding sight_of
record_seen_lem carry piece held at tag c fits there alone is =
    ⊎_elim
    (λ t.
    let none = eqb-true held 0 t in
    subst⁻¹ (λ (k : ℕ). Seen carry k piece at tag c) none (piece_case (found (drop at piece)) refl (is ∙ cond-true _ _ t)))
    (λ f. carry_case (found (take held carry)) refl (is ∙ cond-false _ _ f)) (decide (eqb held 0))
  where
    piece_case : (f : Found) → found (drop at piece) ≡ f → Record tag c ≡ sight_in false at f → Seen carry 0 piece at tag c
    piece_case (Whole t n) here e =
        let tags : t ≡ tag = cc in
        let places : record { carried = false; start = at + 3; end = at + 3 + n } ≡ c = cc in
        subst (λ (x : ℕ). Seen carry 0 piece at x c) tags (subst (Seen carry 0 piece at t) places (seen_piece carry piece at t n there here))
    piece_case Bad here e = clash {x = true} refl (ap broken_in (sym e))
    piece_case Partial here e = absurd (no_more tag c e)
    piece_case Nothing here e = absurd (no_more tag c e)

    carry_case : (f : Found) → found (take held carry) ≡ f → Record tag c ≡ sight_in true 0 f → Seen carry held piece at tag c
    carry_case (Whole t n) here e =
        let tags : t ≡ tag = cc in
        let places : record { carried = true; start = 0 + 3; end = 0 + 3 + n } ≡ c = cc in
        subst (λ (x : ℕ). Seen carry held piece at x c) tags (subst (Seen carry held piece at t) places (seen_carry carry piece held at t n fits here))
    carry_case Bad here e = clash {x = true} refl (ap broken_in (sym e))
    carry_case Partial here e = absurd (no_more tag c e)
    carry_case Nothing here e = absurd (no_more tag c e)

-- no record is in sight
abbrev pub NoRecord : Sight → Type 0
NoRecord x = (tag : ℕ) (cursor : Cursor) → x ≡ Record tag cursor → ⊥

-- no record: none is whole, and a bad one is broken
pub none_seen : (carry piece : List ℕ) (held at : ℕ) → Alone carry held piece at → NoRecord (sight_of carry held piece at)
    → (is_whole (found (pending carry held piece at)) ≡ false) × (broken_in (sight_of carry held piece at) ≡ is_bad (found (pending carry held piece at)))
none_seen carry piece held at alone =
    found_in carry piece held at alone (λ (x : Sight) (f : Found). NoRecord x → (is_whole f ≡ false) × (broken_in x ≡ is_bad f))
    (λ _. told false at (found (drop at piece))) (λ _. told true 0 (found (take held carry)))
  where
    told : (carried : Bool) (x : ℕ) (f : Found) → NoRecord (sight_in carried x f) → (is_whole f ≡ false) × (broken_in (sight_in carried x f) ≡ is_bad f)
    told carried x (Whole tag n) none = absurd (none _ _ refl)
    told carried x Bad none = (refl, refl)
    told carried x Partial none = (refl, refl)
    told carried x Nothing none = (refl, refl)
