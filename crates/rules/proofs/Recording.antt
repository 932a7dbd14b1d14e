-- What bytes begin with, by the tests that lead there; that more bytes change nothing of what is decided; and how a recording is taken apart, field by
-- field.
use Prim.Native.Nat.{ℕ, zero, suc, ◌+◌, ◌*◌, ◌%◌, ◌≤◌, ◌<◌}
use mathlib.Core.Path.{◌≡◌, refl, sym, ap, ap₂, subst, ◌∙◌}
use mathlib.Core.Bool.{Bool, true, false, cond, ◌&&◌, ◌||◌}
use mathlib.Core.List.{List, [], ◌++◌, append_assoc}
use mathlib.Core.Logic.{⊎_elim}
use native.Mathlib.Omega.{arith}
use lib.ListN.{length, take, drop, length-append, length-drop, get_or-append}
use lib.Seq.{take-append-le, drop-append-le}
use lib.Dec.{eqb, leb, ltb}
use borrow.Author.Tests.{eq-eqb, ne_eqb, leb-true, lt-ltb, le-ltb, ltb-true, ltb-false, eqb-true, eqb-false}
use Rattle.rules.specs.declared.Found.{Found}
use Rattle.rules.specs.declared.Found.TheVariants.{Whole, Bad, Partial, Nothing}
use Rattle.rules.specs.Table.{first_of}
use Rattle.rules.specs.Bytes.{byte_at, u16_at}
use Rattle.rules.specs.Recording.{tag_good, length_good, found, is_whole, is_bad, Field, field_in, field_length, Split, in_front, split_in, split, Session, carry_out, session_after, lines_of, last_line, transcript}
use Rattle.rules.proofs.Tests.{decide, clash, or_left, cond-true, cond-false}

-- ---- tags and lengths

-- a tag that has a good length is good
pub length-tag : (tag n : ℕ) → length_good tag n ≡ true → tag_good tag ≡ true
unfolding length_good first_of
length-tag tag n = cases (eqb tag 1) (eqb tag 2) (eqb tag 3) (eqb tag 4) (eqb tag 6) _ _ _ _ _
  where
    cases : (a b c d e v w x y z : Bool)
        → cond a v (cond b w (cond c x (cond d y (cond e z false)))) ≡ true → (a || b || c || d || e) ≡ true
    cases true b c d e v w x y z t = refl
    cases false true c d e v w x y z t = refl
    cases false false true d e v w x y z t = refl
    cases false false false true e v w x y z t = refl
    cases false false false false true v w x y z t = refl
    cases false false false false false v w x y z t = t

-- no good length is above 1,020
pub length-limit : (tag n : ℕ) → length_good tag n ≡ true → n ≤ 1020
unfolding length_good first_of
length-limit tag n =
    cases (eqb tag 1) (eqb tag 2) (eqb tag 3) (eqb tag 4) (eqb tag 6)
  where
    few : leb n 512 ≡ true → n ≤ 1020
    few t = let h = leb-true n 512 t in omega arith

    first : (x y : Bool) → (x && y) ≡ true → x ≡ true
    first true y t = refl
    first false y t = t

    second : (x y : Bool) → (x && y) ≡ true → y ≡ true
    second true y t = t
    second false y t = clash {x = false} t refl

    cases : (a b c d e : Bool)
        → cond a (leb n 512)
        (cond b (leb n 1020 && eqb (n % 4) 0)
        (cond c (leb 1 n && leb n 512)
        (cond d (leb n 512) (cond e (leb n 512) false)))) ≡ true → n ≤ 1020
    cases true b c d e t = few t
    cases false true c d e t = leb-true n 1020 (first _ _ t)
    cases false false true d e t = few (second (leb 1 n) _ t)
    cases false false false true e t = few t
    cases false false false false true t = few t
    cases false false false false false t = clash {x = false} t refl

-- ---- what bytes begin with

module _ (bytes : List ℕ) where
  pub found_nothing : length bytes ≡ 0 → found bytes ≡ Nothing
  unfolding found first_of
  found_nothing none = rw (eq-eqb (length bytes) 0 none)

  module _ (some : 0 < length bytes) where
    past_none : eqb (length bytes) 0 ≡ false
    past_none = ne_eqb (length bytes) 0 (λ e. omega arith)

    pub found-bad_tag : tag_good (byte_at bytes 0) ≡ false → found bytes ≡ Bad
    unfolding found first_of
    found-bad_tag bad = rw (past_none, bad)

    pub found-tag : tag_good (byte_at bytes 0) ≡ true → length bytes < 3 → found bytes ≡ Partial
    unfolding found first_of
    found-tag good short = rw (past_none, good, lt-ltb (length bytes) 3 short)

  module _ (three : 3 ≤ length bytes) where
    pub found-bad_length : length_good (byte_at bytes 0) (u16_at bytes 1) ≡ false → found bytes ≡ Bad
    unfolding found first_of
    found-bad_length bad =
        ⊎_elim (λ good. rw (past_none (omega arith), good, le-ltb (length bytes) 3 three, bad))
        (λ no. found-bad_tag (omega arith) no) (decide (tag_good (byte_at bytes 0)))

    module _ (good : length_good (byte_at bytes 0) (u16_at bytes 1) ≡ true) where
      pub found-head : length bytes < 3 + u16_at bytes 1 → found bytes ≡ Partial
      unfolding found first_of
      found-head cut =
          rw (past_none (omega arith), length-tag _ _ good, le-ltb (length bytes) 3 three, good, lt-ltb (length bytes) (3 + u16_at bytes 1) cut)

      pub found-whole : 3 + u16_at bytes 1 ≤ length bytes → found bytes ≡ Whole (byte_at bytes 0) (u16_at bytes 1)
      unfolding found first_of
      found-whole there =
          rw (past_none (omega arith), length-tag _ _ good, le-ltb (length bytes) 3 three, good, le-ltb (length bytes) (3 + u16_at bytes 1) there)

-- what was found, with what it says of the bytes
pub data Finding (bytes : List ℕ) : Found → Type 0 where
  nothing : length bytes ≡ 0 → Finding bytes Nothing
  bad_tag : 0 < length bytes → tag_good (byte_at bytes 0) ≡ false → Finding bytes Bad
  bad_length : 3 ≤ length bytes → length_good (byte_at bytes 0) (u16_at bytes 1) ≡ false → Finding bytes Bad
  tag_alone : 0 < length bytes → tag_good (byte_at bytes 0) ≡ true → length bytes < 3 → Finding bytes Partial
  head_alone : 3 ≤ length bytes → length_good (byte_at bytes 0) (u16_at bytes 1) ≡ true → length bytes < 3 + u16_at bytes 1 → Finding bytes Partial
  whole : 3 ≤ length bytes → length_good (byte_at bytes 0) (u16_at bytes 1) ≡ true → 3 + u16_at bytes 1 ≤ length bytes
      → Finding bytes (Whole (byte_at bytes 0) (u16_at bytes 1))

pub finding : (bytes : List ℕ) → Finding bytes (found bytes)
finding bytes = ⊎_elim (λ t. is (found_nothing bytes (eqb-true _ 0 t)) (nothing (eqb-true _ 0 t))) (λ f. some (filled f)) (decide (eqb (length bytes) 0))
  where
    is : {f : Found} → found bytes ≡ f → Finding bytes f → Finding bytes (found bytes)
    is same x = subst (λ (f : Found). Finding bytes f) (sym same) x

    filled : eqb (length bytes) 0 ≡ false → 0 < length bytes
    filled f = let no = eqb-false (length bytes) 0 f in omega arith

    good : 3 ≤ length bytes → length_good (byte_at bytes 0) (u16_at bytes 1) ≡ true → Finding bytes (found bytes)
    good three fits =
        ⊎_elim (λ t. let cut = ltb-true _ _ t in is (found-head bytes three fits cut) (head_alone three fits cut))
        (λ f. let there = ltb-false _ _ f in is (found-whole bytes three fits there) (whole three fits there))
        (decide (ltb (length bytes) (3 + u16_at bytes 1)))

    three : 3 ≤ length bytes → Finding bytes (found bytes)
    three h =
        ⊎_elim (λ fits. good h fits) (λ bad. is (found-bad_length bytes h bad) (bad_length h bad))
        (decide (length_good (byte_at bytes 0) (u16_at bytes 1)))

    tagged : 0 < length bytes → tag_good (byte_at bytes 0) ≡ true → Finding bytes (found bytes)
    tagged h fits =
        ⊎_elim (λ t. let short = ltb-true _ _ t in is (found-tag bytes h fits short) (tag_alone h fits short))
        (λ f. three (ltb-false _ _ f)) (decide (ltb (length bytes) 3))

    some : 0 < length bytes → Finding bytes (found bytes)
    some h =
        ⊎_elim (λ fits. tagged h fits) (λ bad. is (found-bad_tag bytes h bad) (bad_tag h bad)) (decide (tag_good (byte_at bytes 0)))

-- ---- more bytes behind

module _ (a b : List ℕ) where
  pub tag_behind : 0 < length a → byte_at (a ++ b) 0 ≡ byte_at a 0
  tag_behind some = get_or-append a b 0 0 some

  pub length-behind : 3 ≤ length a → u16_at (a ++ b) 1 ≡ u16_at a 1
  length-behind three =
      ap₂ (λ (x y : ℕ). x + 256 * y) (get_or-append a b 0 1 (omega arith)) (get_or-append a b 0 2 (omega arith))

  -- a whole field, and a bad record, stay what they are
  pub found-behind : (is_whole (found a) || is_bad (found a)) ≡ true → found (a ++ b) ≡ found a
  found-behind decided = cases (found a) refl (finding a) decided
    where
      cases : (f : Found) → found a ≡ f → Finding a f → (is_whole f || is_bad f) ≡ true → found (a ++ b) ≡ found a
      cases f is (nothing none) t = clash {x = false} t refl
      cases f is (bad_tag some bad) t =
          let more : 0 < length (a ++ b) = rw length-append (omega arith) in
          found-bad_tag (a ++ b) more (rw (tag_behind some) bad) ∙ sym is
      cases f is (bad_length three bad) t =
          let more : 3 ≤ length (a ++ b) = rw length-append (omega arith) in
          found-bad_length (a ++ b) more (rw (tag_behind (omega arith), length-behind three) bad) ∙ sym is
      cases f is (tag_alone some good short) t = clash {x = false} t refl
      cases f is (head_alone three good cut) t = clash {x = false} t refl
      cases f is (whole three good there) t =
          let more : 3 ≤ length (a ++ b) = rw length-append (omega arith) in
          let ends : 3 + u16_at (a ++ b) 1 ≤ length (a ++ b) = rw (length-behind three, length-append) (omega arith) in
          found-whole (a ++ b) more (rw (tag_behind (omega arith), length-behind three) good) ends
          ∙ ap₂ (λ (x y : ℕ). Whole x y) (tag_behind (omega arith)) (length-behind three)
          ∙ sym is

-- a whole field has its tag and length, and lies within the bytes
pub record WholeField (bytes : List ℕ) : Type 0 where
  pub three : 3 ≤ length bytes
  pub good : length_good (byte_at bytes 0) (u16_at bytes 1) ≡ true
  pub ends : field_length bytes ≤ length bytes

pub whole-field : (bytes : List ℕ) → is_whole (found bytes) ≡ true → WholeField bytes
whole-field bytes is = cases (found bytes) (finding bytes) is
  where
    cases : (f : Found) → Finding bytes f → is_whole f ≡ true → WholeField bytes
    cases f (nothing none) t = clash {x = false} t refl
    cases f (bad_tag some bad) t = clash {x = false} t refl
    cases f (bad_length three bad) t = clash {x = false} t refl
    cases f (tag_alone some good short) t = clash {x = false} t refl
    cases f (head_alone three good cut) t = clash {x = false} t refl
    cases f (whole three good there) t = record { three = three; good = good; ends = there }

module _ (a b : List ℕ) (is : is_whole (found a) ≡ true) where
  w : WholeField a
  w = whole-field a is

  pub length-same : field_length (a ++ b) ≡ field_length a
  length-same = ap (λ (n : ℕ). 3 + n) (length-behind a b w.three)

  pub field_same : field_in (a ++ b) ≡ field_in a
  field_same =
      let three = w.three in
      let ends = w.ends in
      let body : u16_at a 1 ≤ length (drop 3 a) = rw length-drop (omega arith) in
      ap₂ (λ (t : ℕ) (l : List ℕ). record { tag = t; body = l }) (tag_behind a b (omega arith))
      (ap₂ (λ (n : ℕ) (l : List ℕ). take n l) (length-behind a b three) (drop-append-le 3 a b three) ∙ take-append-le (u16_at a 1) (drop 3 a) b body)

  pub rest_same : drop (field_length (a ++ b)) (a ++ b) ≡ drop (field_length a) a ++ b
  rest_same = ap (λ (n : ℕ). drop n (a ++ b)) length-same ∙ drop-append-le (field_length a) a b w.ends

-- ---- a recording taken apart

-- what is left behind a whole field is shorter
pub rest_shorter : (bytes : List ℕ) (k : ℕ) → is_whole (found bytes) ≡ true → length bytes ≤ suc k → length (drop (field_length bytes) bytes) ≤ k
rest_shorter bytes k is h = let w = (whole-field bytes is).three in rw length-drop (omega arith)

-- any number of fields that is not below that of the bytes will do
fuel : (k j : ℕ) (bytes : List ℕ) → length bytes ≤ k → length bytes ≤ j → split_in k bytes ≡ split_in j bytes
unfolding split_in
fuel zero zero bytes h i = refl
fuel zero (suc j) bytes h i = let none : length bytes ≡ 0 = omega arith in sym (cond-false _ _ (ap is_whole (found_nothing bytes none)))
fuel (suc k) zero bytes h i = let none : length bytes ≡ 0 = omega arith in cond-false _ _ (ap is_whole (found_nothing bytes none))
fuel (suc k) (suc j) bytes h i =
    turns (is_whole (found bytes)) refl
    (λ is. fuel k j (drop (field_length bytes) bytes) (rest_shorter bytes k is h) (rest_shorter bytes j is i))
  where
    turns : (x : Bool) → is_whole (found bytes) ≡ x
        → (is_whole (found bytes) ≡ true → split_in k (drop (field_length bytes) bytes) ≡ split_in j (drop (field_length bytes) bytes))
        → split_in (suc k) bytes ≡ split_in (suc j) bytes
    turns true is again = cond-true _ _ is ∙ ap (in_front (field_in bytes)) (again is) ∙ sym (cond-true _ _ is)
    turns false other again = cond-false _ _ other ∙ sym (cond-false _ _ other)

-- a recording that begins with a whole field, and one that does not
pub split-whole : (bytes : List ℕ) → is_whole (found bytes) ≡ true
    → split bytes ≡ in_front (field_in bytes) (split (drop (field_length bytes) bytes))
unfolding split split_in
split-whole bytes is =
    fuel (length bytes) (suc (length bytes)) bytes (omega arith) (omega arith)
    ∙ cond-true _ _ is
    ∙ ap (in_front (field_in bytes))
    (fuel (length bytes) (length (drop (field_length bytes) bytes)) (drop (field_length bytes) bytes) (rw length-drop (omega arith)) (omega arith))

pub split-none : (bytes : List ℕ) → is_whole (found bytes) ≡ false → split bytes ≡ record { fields = []; rest = bytes }
unfolding split split_in
split-none bytes other = fuel (length bytes) (suc (length bytes)) bytes (omega arith) (omega arith) ∙ cond-false _ _ other

-- no whole field begins where a recording is not taken apart any further
pub rest_none : (bytes : List ℕ) → is_whole (found (split bytes).rest) ≡ false
unfolding split split_in in_front
rest_none bytes = ends (length bytes) bytes (omega arith)
  where
    ends : (k : ℕ) (l : List ℕ) → length l ≤ k → is_whole (found (split_in k l).rest) ≡ false
    ends zero l h = let none : length l ≡ 0 = omega arith in ap is_whole (found_nothing l none)
    ends (suc k) l h = turns (is_whole (found l)) refl (λ is. ends k (drop (field_length l) l) (rest_shorter l k is h))
      where
        turns : (x : Bool) → is_whole (found l) ≡ x
            → (is_whole (found l) ≡ true → is_whole (found (split_in k (drop (field_length l) l)).rest) ≡ false)
            → is_whole (found (split_in (suc k) l).rest) ≡ false
        turns true is again = ap (λ (p : Split). is_whole (found p.rest)) (cond-true _ _ is) ∙ again is
        turns false other again = ap (λ (p : Split). is_whole (found p.rest)) (cond-false _ _ other) ∙ other

-- ---- what a recording prints

pub transcript-whole : (s : Session) (bytes : List ℕ) → is_whole (found bytes) ≡ true
    → transcript s bytes ≡ (carry_out s (field_in bytes)).line ++ transcript (carry_out s (field_in bytes)).session (drop (field_length bytes) bytes)
unfolding transcript lines_of in_front
transcript-whole s bytes is =
    ap (λ (p : Split). lines_of s p.fields ++ last_line (found p.rest)) (split-whole bytes is) ∙ append_assoc (carry_out s (field_in bytes)).line _ _

pub transcript-none : (s : Session) (bytes : List ℕ) → is_whole (found bytes) ≡ false → transcript s bytes ≡ last_line (found bytes)
unfolding transcript lines_of
transcript-none s bytes other = ap (λ (p : Split). lines_of s p.fields ++ last_line (found p.rest)) (split-none bytes other)

-- a whole field is carried out, and the others follow, with more bytes behind them
pub transcript-behind : (s : Session) (a b : List ℕ) → is_whole (found a) ≡ true
    → transcript s (a ++ b) ≡ (carry_out s (field_in a)).line ++ transcript (carry_out s (field_in a)).session (drop (field_length a) a ++ b)
transcript-behind s a b is =
    transcript-whole s (a ++ b) (ap is_whole (found-behind a b (or_left (is_bad (found a)) is)) ∙ is)
    ∙ ap₂ (λ (f : Field) (l : List ℕ). (carry_out s f).line ++ transcript (carry_out s f).session l) (field_same a b is) (rest_same a b is)

-- the whole fields of the first bytes are carried out, and the others follow what is left of these
pub transcript-append : (s : Session) (a b : List ℕ)
    → transcript s (a ++ b) ≡ lines_of s (split a).fields ++ transcript (session_after s (split a).fields) ((split a).rest ++ b)
unfolding split split_in in_front lines_of session_after
transcript-append s a b = parts (length a) s a
  where
    parts : (k : ℕ) (s : Session) (a : List ℕ)
        → transcript s (a ++ b) ≡ lines_of s (split_in k a).fields ++ transcript (session_after s (split_in k a).fields) ((split_in k a).rest ++ b)
    parts zero s a = refl
    parts (suc k) s a =
        turns (is_whole (found a)) refl (parts k (carry_out s (field_in a)).session (drop (field_length a) a))
      where
        line : List ℕ
        line = (carry_out s (field_in a)).line

        later : Session
        later = (carry_out s (field_in a)).session

        left : List ℕ
        left = drop (field_length a) a

        turns : (x : Bool) → is_whole (found a) ≡ x
            → transcript later (left ++ b) ≡ lines_of later (split_in k left).fields ++ transcript (session_after later (split_in k left).fields) ((split_in k left).rest ++ b)
            → transcript s (a ++ b)
            ≡ lines_of s (split_in (suc k) a).fields ++ transcript (session_after s (split_in (suc k) a).fields) ((split_in (suc k) a).rest ++ b)
        turns true is again =
            transcript-behind s a b is
            ∙ ap (λ (l : List ℕ). line ++ l) again
            ∙ sym (append_assoc line _ _)
            ∙ ap (λ (p : Split). lines_of s p.fields ++ transcript (session_after s p.fields) (p.rest ++ b)) (sym (cond-true _ _ is))
        turns false other again =
            ap (λ (p : Split). lines_of s p.fields ++ transcript (session_after s p.fields) (p.rest ++ b)) (sym (cond-false _ _ other))

-- ---- how long what is left can be

-- a field that is not whole and not bad has at most 1,022 bytes
pub partial_short : (bytes : List ℕ) → is_whole (found bytes) ≡ false → is_bad (found bytes) ≡ false → length bytes < 1023
partial_short bytes other fine = cases (found bytes) (finding bytes) other fine
  where
    cases : (f : Found) → Finding bytes f → is_whole f ≡ false → is_bad f ≡ false → length bytes < 1023
    cases f (nothing none) t u = omega arith
    cases f (bad_tag some bad) t u = clash {x = true} refl u
    cases f (bad_length three bad) t u = clash {x = true} refl u
    cases f (tag_alone some good short) t u = omega arith
    cases f (head_alone three good cut) t u = let few = length-limit (byte_at bytes 0) (u16_at bytes 1) good in omega arith
    cases f (whole three good there) t u = clash {x = true} refl t
