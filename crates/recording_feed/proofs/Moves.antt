-- What goes to the carry: bytes behind those that it holds leave the bytes that are there as they were; and a record is completed so far that the carry
-- alone says what comes next.
use Prim.Native.Nat.{ℕ, ◌+◌, ◌-◌, ◌*◌, ◌≤◌, ◌<◌, min}
use mathlib.Core.Path.{◌≡◌, refl, sym, ap, ap₂, ◌∙◌}
use mathlib.Core.Bool.{true, false, ◌||◌}
use mathlib.Core.List.{List, ◌++◌, append-nil, append_assoc}
use mathlib.Core.Logic.{⊎_elim}
use native.Mathlib.Nat.{add-zero, add_assoc}
use native.Mathlib.Omega.{arith}
use lib.ListN.{length, take, drop, length-append, length-drop, take-append-drop, drop_of_length-le}
use lib.Seq.{take_at, get_or-take, drop-drop, length-take-le}
use lib.Dec.{leb}
use borrow.Author.Tests.{eq-eqb, ne_eqb, leb-true, leb-false}
use Rattle.rules.specs.declared.Found.{Found}
use Rattle.rules.specs.Bytes.{byte_at, u16_at}
use Rattle.rules.specs.Recording.{length_good, found, is_whole, is_bad}
use Rattle.rules.proofs.Tests.{decide, cond-true, cond-false}
use Rattle.rules.proofs.Recording.{found-bad_length, found-whole, found-behind, tag_behind, length-behind}
use Rattle.recording_texts.specs.Texts.{laid}
use Rattle.recording_feed.specs.declared.cursor.Sight.{Sight}
use Rattle.recording_feed.specs.Pending.{pending, sight_in, sight_of}
use Rattle.recording_feed.specs.Carry.{Moved, Settled, Comes}

-- ---- bytes of the piece behind those of the carry

module _ (carry piece carry' : List ℕ) (held at r : ℕ) (fits : held + r ≤ length carry) (there : at + r ≤ length piece)
    (over : carry' ≡ laid carry held (take r (drop at piece))) where
  abbrev text : List ℕ
  text = take r (drop at piece)

  text-length : length text ≡ r
  text-length = length-take-le r (drop at piece) (rw length-drop (omega arith))

  held-length : length (take held carry) ≡ held
  held-length = length-take-le held carry (omega arith)

  front : length (take held carry ++ text) ≡ held + r
  front = length-append (take held carry) text ∙ ap₂ (λ (x y : ℕ). x + y) held-length text-length

  pub moved_holds : take (held + r) carry' ≡ take held carry ++ text
  moved_holds = ap (take (held + r)) over ∙ take_at (take held carry ++ text) (drop (held + length text) carry) (held + r) front

  pub bytes-moved : Moved carry held piece at carry' r
  bytes-moved =
      record {
        same =
            ap (λ (l : List ℕ). l ++ drop (at + r) piece) moved_holds
            ∙ append_assoc (take held carry) text (drop (at + r) piece)
            ∙ ap (λ (l : List ℕ). take held carry ++ l) (ap (λ (l : List ℕ). text ++ l) (sym (drop-drop r at piece)) ∙ take-append-drop r (drop at piece));
        fits = fits;
        there = there;
        sized =
            ap length over
            ∙ length-append (take held carry ++ text) (drop (held + length text) carry)
            ∙ (let rest = length-drop (held + length text) carry in let size = front in let few = text-length in omega arith);
      }

-- a piece that is used up
pub used-up : (carry piece : List ℕ) (held at : ℕ) → at ≡ length piece → pending carry held piece at ≡ take held carry
used-up carry piece held at is =
    ap (λ (l : List ℕ). take held carry ++ l) (drop_of_length-le piece {i = at} (omega arith)) ∙ append-nil (take held carry)

-- ---- a record completed

-- nothing is held: what comes next is in the piece
pub piece_comes : (carry piece : List ℕ) (held at : ℕ) {sight : Sight} → held ≡ 0 → at ≤ length piece → sight ≡ sight_in false at (found (drop at piece))
    → Comes carry held piece at carry (record { sight = sight; held = held; at = at })
unfolding sight_of
piece_comes carry piece held at none there seen =
    record {
      same = refl;
      fits = omega arith;
      there = there;
      sized = refl;
      seen = seen ∙ sym (cond-true _ _ (eq-eqb held 0 none));
      alone = λ some. absurd (omega arith);
    }

-- or it is in the carry, where that is settled
pub carry_comes : (carry piece carry' : List ℕ) (held at moved : ℕ) {sight : Sight} → 0 < held → Settled carry held piece at carry' moved
    → sight ≡ sight_in true 0 (found (drop 0 (take (held + moved) carry')))
    → Comes carry held piece at carry' (record { sight = sight; held = held + moved; at = at + moved })
unfolding sight_of
carry_comes carry piece carry' held at moved some settled seen =
    record {
      same = settled.moved.same;
      fits = settled.moved.fits;
      there = settled.moved.there;
      sized = settled.moved.sized;
      seen = seen ∙ sym (cond-false _ _ (ne_eqb (held + moved) 0 (λ e. omega arith)));
      alone = λ more. settled.alone more ∙ ap found (sym settled.moved.same);
    }

-- the bytes that the carry holds say what comes next where the piece is used up, and where they are decided
module _ (carry piece carry' : List ℕ) (held at r : ℕ) (moved : Moved carry held piece at carry' r) where
  pub settled_end : at + r ≡ length piece → Settled carry held piece at carry' r
  settled_end is =
      record { moved = moved; alone = λ some. ap found (sym (used-up carry' piece (held + r) (at + r) is) ∙ moved.same) }

  pub settled_decided : (is_whole (found (take (held + r) carry')) || is_bad (found (take (held + r) carry'))) ≡ true → Settled carry held piece at carry' r
  settled_decided decided =
      record {
        moved = moved;
        alone = λ some. sym (found-behind (take (held + r) carry') (drop (at + r) piece) decided) ∙ ap found moved.same;
      }

-- two moves are one, and the second says what comes next
module _ (carry piece carry₁ carry₂ : List ℕ) (held at f g : ℕ) (first : Moved carry held piece at carry₁ f) where
  moved_twice : Moved carry₁ (held + f) piece (at + f) carry₂ g → Moved carry held piece at carry₂ (f + g)
  moved_twice second =
      record {
        same =
            ap₂ (λ (x y : ℕ). pending carry₂ x piece y) (sym (add_assoc held f g)) (sym (add_assoc at f g)) ∙ second.same ∙ first.same;
        fits = let h = second.fits in let s = first.sized in omega arith;
        there = let h = second.there in omega arith;
        sized = second.sized ∙ first.sized;
      }

  pub settled_later : Settled carry₁ (held + f) piece (at + f) carry₂ g → Settled carry held piece at carry₂ (f + g)
  settled_later second =
      record {
        moved = moved_twice second.moved;
        alone =
            λ some. ap (λ (n : ℕ). found (take n carry₂)) (sym (add_assoc held f g)) ∙ second.alone (omega arith) ∙ ap found first.same;
      }

-- ---- what the first bytes of the carry are

module _ (carry : List ℕ) (held : ℕ) (three : 3 ≤ held) (fits : held ≤ length carry) where
  holds_three : 3 ≤ length (take held carry)
  holds_three = rw (length-take-le held carry) three

  pub tag_held : byte_at (take held carry) 0 ≡ byte_at carry 0
  tag_held = get_or-take held carry 0 0 (omega arith)

  pub length-held : u16_at (take held carry) 1 ≡ u16_at carry 1
  length-held = ap₂ (λ (x y : ℕ). x + 256 * y) (get_or-take held carry 1 0 (omega arith)) (get_or-take held carry 2 0 (omega arith))

  -- a bad length
  pub bad_held : length_good (byte_at carry 0) (u16_at carry 1) ≡ false → (is_whole (found (take held carry)) || is_bad (found (take held carry))) ≡ true
  bad_held bad = ap (λ (f : Found). is_whole f || is_bad f) (found-bad_length (take held carry) holds_three (ap₂ length_good tag_held length-held ∙ bad))

-- ---- what a fill leaves

module _ (carry piece carry' : List ℕ) (held size at r : ℕ) (fits : held ≤ length carry) (room : size ≤ length carry) (there : at ≤ length piece)
    (count : r ≡ min (size - held) (length piece - at)) (over : carry' ≡ laid carry held (take r (drop at piece))) where
  pub filled : Moved carry held piece at carry' r
  filled = bytes-moved carry piece carry' held at r (omega arith) (omega arith) over

  -- where fewer bytes are held than were asked for, the piece is used up
  pub filled_end : held + r < size → at + r ≡ length piece
  filled_end few = omega arith

  -- a body that was asked for by its length
  pub filled_body : 3 ≤ held → length_good (byte_at carry 0) (u16_at carry 1) ≡ true → size ≡ 3 + u16_at carry 1 → Settled carry held piece at carry' r
  filled_body three good is =
      ⊎_elim (λ t. settled_decided carry piece carry' held at r filled (whole (leb-true size (held + r) t)))
      (λ f. settled_end carry piece carry' held at r filled (filled_end (leb-false size (held + r) f))) (decide (leb size (held + r)))
    where
      front : List ℕ
      front = take held carry

      text : List ℕ
      text = take r (drop at piece)

      holds : take (held + r) carry' ≡ front ++ text
      holds = moved_holds carry piece carry' held at r (omega arith) (omega arith) over

      long : 3 ≤ length front
      long = holds_three carry held three fits

      size_is : u16_at (front ++ text) 1 ≡ u16_at carry 1
      size_is = length-behind front text long ∙ length-held carry held three fits

      tag_is : byte_at (front ++ text) 0 ≡ byte_at carry 0
      tag_is = tag_behind front text (omega (arith, long)) ∙ tag_held carry held three fits

      whole : size ≤ held + r → (is_whole (found (take (held + r) carry')) || is_bad (found (take (held + r) carry'))) ≡ true
      whole enough =
          let all : length (front ++ text) ≡ held + r = ap length (sym holds) ∙ length-take-le (held + r) carry' (let s = filled.sized in let h = filled.fits in omega arith) in
          ap (λ (f : Found). is_whole f || is_bad f)
          (ap found holds
          ∙ found-whole (front ++ text) (omega arith) (ap₂ length_good tag_is size_is ∙ good) (rw (size_is, all) (omega arith)))

-- a bad length: nothing is moved
pub left-bad : (carry piece : List ℕ) (held at : ℕ) → 3 ≤ held → held ≤ length carry → at ≤ length piece
    → length_good (byte_at carry 0) (u16_at carry 1) ≡ false → Settled carry held piece at carry 0
left-bad carry piece held at three fits there bad =
    settled_decided carry piece carry held at 0
    (record {
      same = ap₂ (λ (x y : ℕ). pending carry x piece y) (add-zero held) (add-zero at);
      fits = omega arith;
      there = omega arith;
      sized = refl;
    })
    (ap (λ (n : ℕ). is_whole (found (take n carry)) || is_bad (found (take n carry))) (add-zero held) ∙ bad_held carry held three fits bad)
