-- One call of the feeding function: how it goes by what its bytes begin with; and that what it prints, and what is printed of the bytes that it leaves, is
-- what is printed of the bytes that it had.
use Prim.Native.Nat.{ℕ, zero, suc, ◌-◌, ◌≤◌, ◌<◌}
use mathlib.Core.Path.{◌≡◌, refl, sym, ap, subst⁻¹, ◌∙◌}
use mathlib.Core.Bool.{Bool, true, false, ◌||◌}
use mathlib.Core.List.{List, ◌++◌, append_assoc}
use mathlib.Core.Logic.{⊎_elim}
use native.Mathlib.Omega.{arith}
use lib.ListN.{length, drop, length-drop}
use lib.Dec.{ltb}
use borrow.Author.Tests.{lt-ltb, le-ltb, ltb-true, ltb-false}
use Rattle.rules.specs.declared.Found.{Found}
use Rattle.rules.specs.declared.Found.TheVariants.{Whole, Bad, Partial, Nothing}
use Rattle.rules.specs.Table.{first_of}
use Rattle.rules.specs.Recording.{found, is_whole, is_bad, field_in, field_length, Session, carry_out, transcript}
use Rattle.rules.proofs.Tests.{decide, clash, or_left, or_right, or_cases}
use Rattle.rules.proofs.Recording.{found_nothing, rest_shorter, transcript-behind}
use Rattle.recording_texts.specs.Texts.{line_size}
use Rattle.recording_stream.specs.Turn.{Turn, waiting, no_room, broken, behind_line, turn_in, turn}
use Rattle.recording_stream.proofs.Stream.{bad_last}

-- a record is there: a whole one, or a bad one
abbrev pub decided : List ℕ → Bool
decided bytes = is_whole (found bytes) || is_bad (found bytes)

bad_not_whole : (f : Found) → is_bad f ≡ true → is_whole f ≡ false
bad_not_whole (Whole tag n) t = sym t
bad_not_whole Bad t = refl
bad_not_whole Partial t = refl
bad_not_whole Nothing t = refl

whole-not_bad : (f : Found) → is_whole f ≡ true → is_bad f ≡ false
whole-not_bad (Whole tag n) t = refl
whole-not_bad Bad t = sym t
whole-not_bad Partial t = refl
whole-not_bad Nothing t = refl

-- how a call goes on, by its room and its bytes
pub data Goes (room : ℕ) (bytes : List ℕ) : Type 0 where
  waits : decided bytes ≡ false → Goes room bytes
  stops : decided bytes ≡ true → room < line_size → Goes room bytes
  breaks : is_bad (found bytes) ≡ true → line_size ≤ room → Goes room bytes
  carries : is_whole (found bytes) ≡ true → line_size ≤ room → Goes room bytes

pub goes : (room : ℕ) (bytes : List ℕ) → Goes room bytes
goes room bytes =
    ⊎_elim (λ is-there. ⊎_elim (λ t. stops is-there (ltb-true room line_size t)) (λ f. there is-there (ltb-false room line_size f)) (decide (ltb room line_size)))
    (λ other. waits other) (decide (decided bytes))
  where
    there : decided bytes ≡ true → line_size ≤ room → Goes room bytes
    there is-there fits = ⊎_elim (λ is. carries is fits) (λ bad. breaks bad fits) (or_cases (is_whole (found bytes)) (is_bad (found bytes)) is-there)

-- ---- a call of at most one record more

module _ (k room : ℕ) (s : Session) (bytes : List ℕ) where
  abbrev line : List ℕ
  line = (carry_out s (field_in bytes)).line

  abbrev later : Session
  later = (carry_out s (field_in bytes)).session

  abbrev left : List ℕ
  left = drop (field_length bytes) bytes

  pub in_waits : decided bytes ≡ false → turn_in (suc k) room s bytes ≡ waiting s bytes false
  unfolding turn_in first_of
  in_waits other = rw other

  pub in_stops : decided bytes ≡ true → room < line_size → turn_in (suc k) room s bytes ≡ no_room s bytes
  unfolding turn_in first_of
  in_stops is-there h = rw (is-there, lt-ltb room line_size h)

  pub in_breaks : is_bad (found bytes) ≡ true → line_size ≤ room → turn_in (suc k) room s bytes ≡ broken s
  unfolding turn_in first_of
  in_breaks bad h = rw (or_right (is_whole (found bytes)) bad, le-ltb room line_size h, bad)

  pub in_carries : is_whole (found bytes) ≡ true → line_size ≤ room
      → turn_in (suc k) room s bytes ≡ behind_line line (turn_in k (room - length line) later left)
  unfolding turn_in first_of
  in_carries is h = rw (or_left (is_bad (found bytes)) is, le-ltb room line_size h, whole-not_bad (found bytes) is)

-- any number of records that is not below that of the bytes will do
enough : (k j room : ℕ) (s : Session) (bytes : List ℕ) → length bytes ≤ k → length bytes ≤ j → turn_in k room s bytes ≡ turn_in j room s bytes
unfolding turn_in
enough zero zero room s bytes h i = refl
enough zero (suc j) room s bytes h i = let none : length bytes ≡ 0 = omega arith in sym (in_waits j room s bytes (ap (λ (f : Found). is_whole f || is_bad f) (found_nothing bytes none)))
enough (suc k) zero room s bytes h i = let none : length bytes ≡ 0 = omega arith in in_waits k room s bytes (ap (λ (f : Found). is_whole f || is_bad f) (found_nothing bytes none))
enough (suc k) (suc j) room s bytes h i =
    cases (goes room bytes)
    (λ is. enough k j (room - length (line k room s bytes)) (later k room s bytes) (left k room s bytes) (rest_shorter bytes k is h) (rest_shorter bytes j is i))
  where
    cases : Goes room bytes
        → (is_whole (found bytes) ≡ true
        → turn_in k (room - length (line k room s bytes)) (later k room s bytes) (left k room s bytes)
        ≡ turn_in j (room - length (line k room s bytes)) (later k room s bytes) (left k room s bytes))
        → turn_in (suc k) room s bytes ≡ turn_in (suc j) room s bytes
    cases (waits other) again = in_waits k room s bytes other ∙ sym (in_waits j room s bytes other)
    cases (stops is-there few) again = in_stops k room s bytes is-there few ∙ sym (in_stops j room s bytes is-there few)
    cases (breaks bad fits) again = in_breaks k room s bytes bad fits ∙ sym (in_breaks j room s bytes bad fits)
    cases (carries is fits) again = in_carries k room s bytes is fits ∙ ap (behind_line (line k room s bytes)) (again is) ∙ sym (in_carries j room s bytes is fits)

-- ---- a call, by what its bytes begin with

module _ (room : ℕ) (s : Session) (bytes : List ℕ) where
  one_more_lem : turn room s bytes ≡ turn_in (suc (length bytes)) room s bytes
  unfolding turn
  one_more_lem = enough (length bytes) (suc (length bytes)) room s bytes (omega arith) (omega arith)

  pub turn-waits : decided bytes ≡ false → turn room s bytes ≡ waiting s bytes false
  turn-waits other = one_more_lem ∙ in_waits (length bytes) room s bytes other

  pub turn-stops : decided bytes ≡ true → room < line_size → turn room s bytes ≡ no_room s bytes
  turn-stops is-there few = one_more_lem ∙ in_stops (length bytes) room s bytes is-there few

  pub turn-breaks : is_bad (found bytes) ≡ true → line_size ≤ room → turn room s bytes ≡ broken s
  turn-breaks bad fits = one_more_lem ∙ in_breaks (length bytes) room s bytes bad fits

  pub turn-carries : is_whole (found bytes) ≡ true → line_size ≤ room
      → turn room s bytes
      ≡ behind_line (carry_out s (field_in bytes)).line
      (turn (room - length (carry_out s (field_in bytes)).line) (carry_out s (field_in bytes)).session (drop (field_length bytes) bytes))
  unfolding turn
  turn-carries is fits =
      one_more_lem
      ∙ in_carries (length bytes) room s bytes is fits
      ∙ ap (behind_line (carry_out s (field_in bytes)).line)
      (enough (length bytes) (length (drop (field_length bytes) bytes)) _ _ (drop (field_length bytes) bytes) (rw length-drop (omega arith)) (omega arith))

-- ---- what a call prints

-- of a call that is not over, what is printed of the bytes that it leaves follows; of one that is over, nothing
pub record Prints (s : Session) (bytes more : List ℕ) (t : Turn) : Type 0 where
  pub goes_on : t.over ≡ false → transcript s (bytes ++ more) ≡ t.printed ++ transcript t.session (t.left ++ more)
  pub ends : t.over ≡ true → transcript s (bytes ++ more) ≡ t.printed

turn-in_prints : (k room : ℕ) (s : Session) (bytes more : List ℕ) → Prints s bytes more (turn_in k room s bytes)
unfolding turn_in waiting no_room broken behind_line
turn-in_prints zero room s bytes more = record { goes_on = λ _. refl; ends = λ t. clash {x = false} t refl }
turn-in_prints (suc k) room s bytes more =
    cases (goes room bytes) (turn-in_prints k (room - length (line k room s bytes)) (later k room s bytes) (left k room s bytes) more)
  where
    cases : Goes room bytes
        → Prints (later k room s bytes) (left k room s bytes) more (turn_in k (room - length (line k room s bytes)) (later k room s bytes) (left k room s bytes))
        → Prints s bytes more (turn_in (suc k) room s bytes)
    cases (waits other) again =
        subst⁻¹ (Prints s bytes more) (in_waits k room s bytes other) (record { goes_on = λ _. refl; ends = λ t. clash {x = false} t refl })
    cases (stops is-there few) again =
        subst⁻¹ (Prints s bytes more) (in_stops k room s bytes is-there few) (record { goes_on = λ _. refl; ends = λ t. clash {x = false} t refl })
    cases (breaks bad fits) again =
        subst⁻¹ (Prints s bytes more) (in_breaks k room s bytes bad fits)
        (record {
          goes_on = λ f. clash {x = true} refl f;
          ends = λ _. bad_last s bytes more (bad_not_whole (found bytes) bad) bad;
        })
    cases (carries is fits) again =
        subst⁻¹ (Prints s bytes more) (in_carries k room s bytes is fits)
        (record {
          goes_on =
              λ f.
              transcript-behind s bytes more is
              ∙ ap (λ (l : List ℕ). line k room s bytes ++ l) (again.goes_on f)
              ∙ sym (append_assoc (line k room s bytes) _ _);
          ends = λ t. transcript-behind s bytes more is ∙ ap (λ (l : List ℕ). line k room s bytes ++ l) (again.ends t);
        })

pub turn-prints : (room : ℕ) (s : Session) (bytes more : List ℕ) → Prints s bytes more (turn room s bytes)
unfolding turn
turn-prints room s bytes more = turn-in_prints (length bytes) room s bytes more

-- ---- how a call ends

-- where a record waits for room, the recording is not over; where none does, and it is not over, no record is there
pub record Ends (t : Turn) : Type 0 where
  pub full_on : t.full ≡ true → t.over ≡ false
  pub settled : t.full ≡ false → t.over ≡ false → decided t.left ≡ false

turn-in_ends : (k room : ℕ) (s : Session) (bytes : List ℕ) → length bytes ≤ k → Ends (turn_in k room s bytes)
unfolding turn_in waiting no_room broken behind_line
turn-in_ends zero room s bytes h =
    let none : length bytes ≡ 0 = omega arith in
    record { full_on = λ t. refl; settled = λ _ _. ap (λ (f : Found). is_whole f || is_bad f) (found_nothing bytes none) }
turn-in_ends (suc k) room s bytes h =
    cases (goes room bytes)
    (λ is. turn-in_ends k (room - length (line k room s bytes)) (later k room s bytes) (left k room s bytes) (rest_shorter bytes k is h))
  where
    cases : Goes room bytes
        → (is_whole (found bytes) ≡ true → Ends (turn_in k (room - length (line k room s bytes)) (later k room s bytes) (left k room s bytes)))
        → Ends (turn_in (suc k) room s bytes)
    cases (waits other) again = subst⁻¹ Ends (in_waits k room s bytes other) (record { full_on = λ t. refl; settled = λ _ _. other })
    cases (stops is-there few) again =
        subst⁻¹ Ends (in_stops k room s bytes is-there few) (record { full_on = λ t. refl; settled = λ f _. clash {x = true} refl f })
    cases (breaks bad fits) again =
        subst⁻¹ Ends (in_breaks k room s bytes bad fits)
        (record { full_on = λ t. clash {x = false} t refl; settled = λ _ f. clash {x = true} refl f })
    cases (carries is fits) again =
        subst⁻¹ Ends (in_carries k room s bytes is fits) (record { full_on = (again is).full_on; settled = (again is).settled })

pub turn-ends : (room : ℕ) (s : Session) (bytes : List ℕ) → Ends (turn room s bytes)
unfolding turn
turn-ends room s bytes = turn-in_ends (length bytes) room s bytes (omega arith)
