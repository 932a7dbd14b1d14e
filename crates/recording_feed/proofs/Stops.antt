-- How a call ends, told in numbers: it waits for more, for room, or the recording is over. And what is passed over.
use Prim.Native.Nat.{ℕ, ◌+◌, ◌-◌, ◌≤◌, ◌<◌, min}
use mathlib.Core.Path.{◌≡◌, refl, sym, ap, ap₂, ◌∙◌, subst, subst⁻¹}
use mathlib.Core.Bool.{Bool, true, false, cond, ◌||◌}
use mathlib.Core.List.{List, [], ◌++◌}
use mathlib.Core.Logic.{⊎_elim}
use native.Mathlib.Nat.{add-zero, zero-add}
use native.Mathlib.Omega.{arith}
use lib.ListN.{length, take, drop, length-append, length-drop, drop_of_length-le}
use lib.Seq.{take_all, take_at, length-take-le}
use lib.Dec.{leb, lit≤}
use borrow.Author.Tests.{le-leb, leb-true, leb-false, lt-ltb, le-ltb}
use Rattle.rules.specs.declared.Found.{Found}
use Rattle.rules.specs.Table.{first_of}
use Rattle.rules.specs.Answer.{buffer_after}
use Rattle.rules.specs.Recording.{found, is_whole, is_bad, Session, bad_line, last_line}
use Rattle.rules.proofs.Tests.{decide, clash, cond-true}
use Rattle.recording_texts.specs.Texts.{line_size, laid}
use Rattle.recording_texts.proofs.Printing.{laid_none}
use Rattle.recording_stream.specs.Stream.{carry_size}
use Rattle.recording_stream.specs.Turn.{Turn, waiting, no_room, broken, turn, turn_from, End, end_from}
use Rattle.recording_stream.proofs.Turn.{turn-waits, turn-stops, turn-breaks}
use Rattle.recording_step.specs.SessionMemory.{SessionMemories, session_in, kept_session}
use Rattle.recording_step.proofs.Fields.{session_kept}
use Rattle.recording_feed.specs.declared.Fed.{Fed}
use Rattle.recording_feed.specs.declared.Ended.{Ended}
use Rattle.recording_feed.specs.Pending.{pending}
use Rattle.recording_feed.specs.Carry.{Kept}
use Rattle.recording_feed.specs.Feed.{passed_bytes, Passed, Told, Stopped, FeedCall, EndCall}
use Rattle.recording_feed.proofs.Sights.{part-within}
use Rattle.recording_feed.proofs.Moves.{used-up}

-- ---- passing over a record

drop-take : (l : List ℕ) (m k : ℕ) → k ≤ length l → drop m (take k l) ≡ take (k - m) (drop m l)
drop-take l m k h =
    ⊎_elim
    (λ t.
    let inside = leb-true m k t in
    sym (take_all (k - m) (drop m (take k l)) (rw length-drop (omega (arith, length-take-le k l h)))) ∙ part-within l m (k - m) k (omega arith) h)
    (λ f.
    let past = leb-false m k f in
    let none : k - m ≡ 0 = omega arith in
    drop_of_length-le (take k l) {i = m} (omega (arith, length-take-le k l h)) ∙ sym (ap (λ (n : ℕ). take n (drop m l)) none)) (decide (leb m k))

passed_carry : (carry carry' : List ℕ) (held at end left : ℕ) → held ≤ length carry → left ≡ cond (leb held (length carry)) (held - end) 0
    → carry' ≡ buffer_after (take left (drop end carry)) carry → Passed carry held at true end carry' (record { held = left; at = at })
unfolding passed_bytes
passed_carry carry carry' held at end left fits count over =
    let is : left ≡ held - end = count ∙ cond-true _ _ (le-leb held (length carry) fits) in
    let size : length (take left (drop end carry)) ≡ left = length-take-le left (drop end carry) (rw length-drop (omega arith)) in
    record {
      bytes =
          λ piece.
          ap (λ (l : List ℕ). l ++ drop at piece)
          (ap (take left) over
          ∙ take_at (take left (drop end carry)) (drop (length (take left (drop end carry))) carry) left size
          ∙ ap (λ (n : ℕ). take n (drop end carry)) is
          ∙ sym (drop-take carry end held fits));
      in_carry = λ _. (is, refl);
      in_piece = λ f. clash {x = true} refl f;
    }

passed_piece : (carry : List ℕ) (held at end : ℕ) → Passed carry held at false end carry (record { held = held; at = end })
unfolding passed_bytes
passed_piece carry held at end =
    record {
      bytes = λ piece. refl;
      in_carry = λ t. clash {x = false} t refl;
      in_piece = λ _. (refl, refl);
    }

-- by where the record stands
pub carry_passed : (carry carry' : List ℕ) (held at end left : ℕ) {carried : Bool} → carried ≡ true → held ≤ length carry
    → left ≡ cond (leb held (length carry)) (held - end) 0
    → carry' ≡ buffer_after (take left (drop end carry)) carry → Passed carry held at carried end carry' (record { held = left; at = at })
carry_passed carry carry' held at end left is fits count over =
    subst⁻¹ (λ (b : Bool). Passed carry held at b end carry' (record { held = left; at = at })) is (passed_carry carry carry' held at end left fits count over)

pub piece_passed : (carry : List ℕ) (held at end : ℕ) {carried : Bool} → carried ≡ false → Passed carry held at carried end carry (record { held = held; at = end })
piece_passed carry held at end is =
    subst⁻¹ (λ (b : Bool). Passed carry held at b end carry (record { held = held; at = end })) is (passed_piece carry held at end)

-- ---- the end of a call

-- how many bytes are there
pub pending-length : (carry piece : List ℕ) (held at : ℕ) → held ≤ length carry → length (pending carry held piece at) ≡ held + (length piece - at)
pending-length carry piece held at fits =
    length-append (take held carry) (drop at piece) ∙ ap₂ (λ (x y : ℕ). x + y) (length-take-le held carry fits) (length-drop at piece)

module _ (carry piece out : List ℕ) (held at used : ℕ) (s : Session) where
  abbrev bytes : List ℕ
  bytes = pending carry held piece at

  abbrev t : Turn
  t = turn (length out - used) s bytes

  -- no record is there: the rest of the piece goes to the carry
  pub told_waits : (carry' : List ℕ) (moved : ℕ) → length carry ≡ carry_size → is_whole (found bytes) ≡ false → is_bad (found bytes) ≡ false
      → Kept carry held piece at carry' moved
      → Stopped s t piece out used carry' out (record { used = used; held = held + moved; at = at + moved; over = false; full = false })
  unfolding waiting
  told_waits carry' moved size other fine kept =
      let is : t ≡ waiting s bytes false = turn-waits (length out - used) s bytes (ap₂ ◌||◌ other fine) in
      subst⁻¹
      (λ (x : Turn). Stopped s x piece out used carry' out (record { used = used; held = held + moved; at = at + moved; over = false; full = false }))
      is
      (record {
        told =
            record {
              printed = laid_none out used;
              count = sym (add-zero used);
              left = kept.moved.same;
              over = refl;
              full = refl;
              held = let h = kept.moved.fits in omega arith;
              place = kept.moved.there;
              used-up = λ _. kept.all;
            };
        session = refl;
      })

  -- a record waits for room
  pub told_stops : (is_whole (found bytes) || is_bad (found bytes)) ≡ true → length out - used < line_size → held ≤ carry_size → at ≤ length piece
      → Stopped s t piece out used carry out (record { used = used; held = held; at = at; over = false; full = true })
  unfolding no_room
  told_stops decided few fits there =
      subst⁻¹
      (λ (x : Turn). Stopped s x piece out used carry out (record { used = used; held = held; at = at; over = false; full = true }))
      (turn-stops (length out - used) s bytes decided few)
      (record {
        told =
            record {
              printed = laid_none out used;
              count = sym (add-zero used);
              left = refl;
              over = refl;
              full = refl;
              held = fits;
              place = there;
              used-up = λ f. clash {x = true} refl f;
            };
        session = refl;
      })

  -- a bad record, and its line
  pub told_breaks : (out' : List ℕ) (printed : ℕ) → is_bad (found bytes) ≡ true → line_size ≤ length out - used → printed ≡ length bad_line → out' ≡ laid out used bad_line
      → Stopped s t piece out used carry out' (record { used = used + printed; held = 0; at = length piece; over = true; full = false })
  unfolding broken
  told_breaks out' printed bad room count over =
      subst⁻¹
      (λ (x : Turn). Stopped s x piece out used carry out' (record { used = used + printed; held = 0; at = length piece; over = true; full = false }))
      (turn-breaks (length out - used) s bytes bad room)
      (record {
        told =
            record {
              printed = over;
              count = ap (λ (n : ℕ). used + n) count;
              left = used-up carry piece 0 (length piece) refl;
              over = refl;
              full = refl;
              held = lit≤ tt;
              place = omega arith;
              used-up = λ _. refl;
            };
        session = refl;
      })

-- ---- a recording that is over, and places past the end

pub over_told : (m : SessionMemories) (carry piece out : List ℕ) (held at : ℕ) {over : Bool} → over ≡ true
    → FeedCall m carry held over piece at out m carry out (record { used = 0; held = 0; at = length piece; over = true; full = false })
unfolding turn_from waiting
over_told m carry piece out held at is =
    subst⁻¹ (λ (x : Bool). FeedCall m carry held x piece at out m carry out (record { used = 0; held = 0; at = length piece; over = true; full = false })) is
    (record {
      told =
          record {
            printed = laid_none out 0;
            count = refl;
            left = used-up carry piece 0 (length piece) refl;
            over = refl;
            full = refl;
            held = lit≤ tt;
            place = omega arith;
            used-up = λ _. refl;
          };
      session = session_kept m;
    })

take_min : (n : ℕ) (l : List ℕ) → take (min n (length l)) l ≡ take n l
take_min n l =
    ⊎_elim (λ t. let h = leb-true n (length l) t in let e : min n (length l) ≡ n = omega arith in ap (λ (k : ℕ). take k l) e)
    (λ f. let h = leb-false n (length l) f in take_all (min n (length l)) l (omega arith) ∙ sym (take_all n l (omega arith))) (decide (leb n (length l)))

drop_min : (n : ℕ) (l : List ℕ) → drop (min n (length l)) l ≡ drop n l
drop_min n l =
    ⊎_elim (λ t. let h = leb-true n (length l) t in let e : min n (length l) ≡ n = omega arith in ap (λ (k : ℕ). drop k l) e)
    (λ f. let h = leb-false n (length l) f in drop_of_length-le l {i = min n (length l)} (omega arith) ∙ sym (drop_of_length-le l {i = n} (omega arith))) (decide (leb n (length l)))

-- of the carry and of the piece no more is taken than there is
pub pending-min : (carry piece : List ℕ) (held at kept next : ℕ) → length carry ≡ carry_size → kept ≡ min held carry_size → next ≡ min at (length piece)
    → pending carry kept piece next ≡ pending carry held piece at
pending-min carry piece held at kept next size first second =
    ap₂ (λ (l m : List ℕ). l ++ m) (ap (λ (n : ℕ). take n carry) (first ∙ ap (min held) (sym size)) ∙ take_min held carry) (ap (λ (n : ℕ). drop n piece) second ∙ drop_min at piece)

-- the same call over the same bytes
pub same_bytes : (m m' : SessionMemories) (carry piece out carry' out' : List ℕ) (held at kept next : ℕ) (r : Fed) {over : Bool} → over ≡ false
    → pending carry kept piece next ≡ pending carry held piece at
    → FeedCall m carry kept false piece next out m' carry' out' r → FeedCall m carry held over piece at out m' carry' out' r
same_bytes m m' carry piece out carry' out' held at kept next r is same call =
    subst⁻¹ (λ (x : Bool). FeedCall m carry held x piece at out m' carry' out' r) is
    (record {
      told = subst (λ (l : List ℕ). Told (turn_from false (length out) (session_in m) l) piece out 0 carry' out' r) same call.told;
      session = call.session ∙ ap (λ (l : List ℕ). kept_session (turn_from false (length out) (session_in m) l).session) same;
    })

-- ---- the announced end

module _ (carry out : List ℕ) (held : ℕ) {over : Bool} where
  pub end_over : over ≡ true → EndCall carry held over out out (record { used = 0; over = true; full = false })
  unfolding end_from first_of
  end_over is = subst⁻¹ (λ (x : Bool). EndCall carry held x out out (record { used = 0; over = true; full = false })) is
      (record { printed = refl; count = refl; ends = refl; waits = refl })

  module _ (on : over ≡ false) where
    pub end_full : length out < line_size → EndCall carry held over out out (record { used = 0; over = false; full = true })
    unfolding end_from first_of
    end_full few =
        let is : end_from over (length out) (take held carry) ≡ record { over = false; full = true; printed = [] } = rw (on, lt-ltb (length out) line_size few) in
        record {
          printed = ap (λ (e : End). buffer_after e.printed out) (sym is);
          count = ap (λ (e : End). length e.printed) (sym is);
          ends = ap (λ (e : End). e.over) (sym is);
          waits = ap (λ (e : End). e.full) (sym is);
        }

    pub end_line_lem : (out' : List ℕ) (kept n : ℕ) (f : Found) → length carry ≡ carry_size → kept ≡ min held carry_size → line_size ≤ length out
        → f ≡ found (drop 0 (take kept carry)) → n ≡ length (last_line f) → out' ≡ buffer_after (last_line f) out
        → EndCall carry held over out out' (record { used = n; over = true; full = false })
    unfolding end_from first_of
    end_line_lem out' kept n f size few room found-is count line =
        let same : f ≡ found (take held carry) = found-is ∙ ap found (ap (λ (k : ℕ). take k carry) (few ∙ ap (min held) (sym size)) ∙ take_min held carry) in
        let is : end_from over (length out) (take held carry) ≡ record { over = true; full = false; printed = last_line (found (take held carry)) } =
        rw (on, le-ltb (length out) line_size room)
        in
        record {
          printed = line ∙ ap (λ (x : Found). buffer_after (last_line x) out) same ∙ ap (λ (e : End). buffer_after e.printed out) (sym is);
          count = count ∙ ap (λ (x : Found). length (last_line x)) same ∙ ap (λ (e : End). length e.printed) (sym is);
          ends = ap (λ (e : End). e.over) (sym is);
          waits = ap (λ (e : End). e.full) (sym is);
        }

-- ---- how much of the output is used

-- a text that is laid over a buffer lies within it
text-within : (held text held' : List ℕ) → held' ≡ buffer_after text held → length text ≤ length held'
text-within held text held' over = let all = ap length over ∙ length-append text (drop (length text) held) in omega arith

pub fed_within : {m m' : SessionMemories} {carry piece out carry' out' : List ℕ} {held at : ℕ} {over : Bool} {r : Fed}
    → FeedCall m carry held over piece at out m' carry' out' r → r.used ≤ length out'
fed_within {m = m} {carry = carry} {piece = piece} {out = out} {out' = out'} {held = held} {at = at} {over = over} call =
    let t = turn_from over (length out) (session_in m) (pending carry held piece at) in
    omega
    (arith, call.told.count, text-within out t.printed out' (call.told.printed ∙ ap (λ (n : ℕ). t.printed ++ drop n out) (zero-add (length t.printed))))

pub ended_within : {carry out out' : List ℕ} {held : ℕ} {over : Bool} {r : Ended} → EndCall carry held over out out' r → r.used ≤ length out'
ended_within {carry = carry} {out = out} {out' = out'} {held = held} {over = over} call =
    omega (arith, call.count, text-within out (end_from over (length out) (take held carry)).printed out' call.printed)
