-- How far a call has come: the lines that are printed stand at the start of the output, and what is left of the call is a turn of its own.
use Prim.Native.Nat.{ℕ, ◌+◌, ◌-◌, ◌≤◌, ◌<◌}
use mathlib.Core.Path.{◌≡◌, refl, sym, ap, ap₂, ◌∙◌, subst⁻¹}
use mathlib.Core.Bool.{true, false}
use mathlib.Core.List.{List, ◌++◌, append_assoc}
use native.Mathlib.Nat.{sub-zero, zero-add}
use native.Mathlib.Omega.{arith}
use lib.ListN.{length, take, drop, length-append, length-drop}
use lib.Seq.{take_at, drop_at, drop-drop, length-take-le}
use borrow.Author.Tests.{le-leb}
use borrow.Rule.Slice.PartMut.{mid_of, put_mid}
use Rattle.rules.specs.Answer.{buffer_after}
use Rattle.rules.specs.Recording.{found, is_whole, Field, field_in, field_length, Session, Done, carry_out}
use mathlib.Core.Logic.{⊎_elim}
use Rattle.rules.proofs.Tests.{decide, cond-true}
use Rattle.record.proofs.Kept.{twice}
use Rattle.recording_texts.specs.Texts.{line_size, laid, has_room, printed}
use Rattle.recording_stream.specs.Turn.{Turn, behind_line, turn, turn_from}
use Rattle.recording_stream.proofs.Turn.{turn-carries}
use Rattle.recording_step.specs.SessionMemory.{SessionMemories, session_memories, session_in, kept_session}
use Rattle.recording_step.specs.Fields.{FieldPlayed}
use Rattle.recording_step.proofs.Fields.{session_kept}
use Rattle.recording_feed.specs.declared.cursor.Cursor.{Cursor}
use Rattle.recording_feed.specs.declared.Fed.{Fed}
use Rattle.recording_feed.specs.declared.Place.{Place}
use Rattle.recording_feed.specs.Pending.{pending}
use Rattle.recording_feed.specs.Feed.{Passed, Stopped, FeedCall}
use Rattle.recording_feed.proofs.Buffers.{part-is, laid-part}
use Rattle.recording_feed.proofs.Turns.{kept_turn, turn-kept}
use Rattle.recording_feed.proofs.Sights.{Seen}

-- from a session and bytes with this output, to these memories and bytes, with `used` bytes of it printed
pub record Reached (s : Session) (bytes out₀ : List ℕ) (m : SessionMemories) (left out : List ℕ) (used : ℕ) : Type 0 where
  pub turns : kept_turn (turn (length out₀) s bytes) ≡ kept_turn (behind_line (take used out) (turn (length out₀ - used) (session_in m) left))
  pub behind : drop used out ≡ drop used out₀
  pub sized : length out ≡ length out₀
  pub within : used ≤ length out₀

pub reach_start : (m : SessionMemories) (bytes out : List ℕ) → Reached (session_in m) bytes out m bytes out 0
unfolding behind_line
reach_start m bytes out =
    record {
      turns = ap (λ (n : ℕ). kept_turn (turn n (session_in m) bytes)) (sym (sub-zero (length out)));
      behind = refl;
      sized = refl;
      within = omega arith;
    }

-- the same bytes, wherever they stand
pub reach_same : {s : Session} {bytes out₀ : List ℕ} {m : SessionMemories} {left out : List ℕ} {used : ℕ} (left' : List ℕ) → left' ≡ left
    → Reached s bytes out₀ m left out used → Reached s bytes out₀ m left' out used
reach_same {s} {bytes} {out₀} {m} {left} {out} {used} left' same reached = subst⁻¹ (λ (l : List ℕ). Reached s bytes out₀ m l out used) same reached

-- a text laid over the start of a buffer
pub laid-first : (held text : List ℕ) → laid held 0 text ≡ buffer_after text held
laid-first held text = ap (λ (n : ℕ). text ++ drop n held) (zero-add (length text))

-- what is kept of a session that is kept
pub kept-twice : (s : Session) → kept_session (kept_session s) ≡ kept_session s
kept-twice s = λ i. record { state = twice s.state i; words = s.words }

module _ (s : Session) (bytes out₀ : List ℕ) (m m' : SessionMemories) (left out : List ℕ) (used n : ℕ) (reached : Reached s bytes out₀ m left out used)
    (room : line_size ≤ length out - used) (part' : List ℕ) (f : Field) (is : field_in left ≡ f)
    (played : FieldPlayed m f (mid_of used (length out - used) out) m' part' n) where
  abbrev done : Done
  done = carry_out (session_in m) (field_in left)

  abbrev line : List ℕ
  line = done.line

  fits : used ≤ length out
  fits = omega arith

  there : has_room (mid_of used (length out - used) out) ≡ true
  there = le-leb line_size (length (mid_of used (length out - used) out)) (rw (part-is out used fits, length-drop) room)

  lines : (carry_out (session_in m) f).line ≡ line
  lines = ap (λ (x : Field). (carry_out (session_in m) x).line) (sym is)

  text : printed (has_room (mid_of used (length out - used) out)) (carry_out (session_in m) f).line ≡ line
  text = cond-true _ _ there ∙ lines

  pub line-length : n ≡ length line
  line-length = played.prints.count ∙ ap length text

  line-laid : put_mid used (length out - used) out part' ≡ laid out used line
  line-laid =
      ap (put_mid used (length out - used) out) (played.prints.over ∙ ap (laid (mid_of used (length out - used) out) 0) text ∙ laid-first (mid_of used (length out - used) out) line)
      ∙ laid-part out used fits line

  session_is : session_in m' ≡ kept_session done.session
  session_is = played.session ∙ cond-true _ _ there ∙ ap (λ (x : Field). kept_session (carry_out (session_in m) x).session) (sym is)

  pub line-fits : used + n ≤ length out
  line-fits = let short = played.prints.short in omega arith

  front : length (take used out ++ line) ≡ used + n
  front = length-append (take used out) line ∙ ap₂ (λ (x y : ℕ). x + y) (length-take-le used out fits) (sym line-length)

  module _ (whole : is_whole (found left) ≡ true) where
    pub reach_step : Reached s bytes out₀ m' (drop (field_length left) left) (put_mid used (length out - used) out part') (used + n)
    unfolding behind_line
    reach_step =
        record {
          turns =
              reached.turns
              ∙ ap (λ (u : Turn). kept_turn (behind_line (take used out) u)) (turn-carries (length out₀ - used) (session_in m) left whole (rw reached.sized at room))
              ∙ ap (λ (u : Turn). behind_line (take used out) (behind_line line u))
              (turn-kept (length out₀ - used - length line) done.session (session_in m') (drop (field_length left) left)
              (sym (ap kept_session session_is ∙ kept-twice done.session)))
              ∙ joins
              ∙ ap₂ (λ (l : List ℕ) (k : ℕ). kept_turn (behind_line l (turn k (session_in m') (drop (field_length left) left)))) (sym printed-now) rooms;
          behind =
              ap (drop (used + n)) line-laid
              ∙ drop_at (take used out ++ line) (drop (used + length line) out) (used + n) front
              ∙ ap (λ (k : ℕ). drop (used + k) out) (sym line-length)
              ∙ sym (drop-drop n used out)
              ∙ ap (drop n) reached.behind
              ∙ drop-drop n used out₀;
          sized = ap length line-laid ∙ whole_length ∙ reached.sized;
          within = let h = line-fits in let z = reached.sized in omega arith;
        }
      where
        rest : List ℕ
        rest = drop (field_length left) left

        joins : behind_line (take used out) (behind_line line (kept_turn (turn (length out₀ - used - length line) (session_in m') rest)))
            ≡ kept_turn (behind_line (take used out ++ line) (turn (length out₀ - used - length line) (session_in m') rest))
        joins =
            let u = turn (length out₀ - used - length line) (session_in m') rest in
            ap (λ (l : List ℕ). record { session = kept_session u.session; left = u.left; over = u.over; full = u.full; printed = l })
            (sym (append_assoc (take used out) line u.printed))

        printed-now : take (used + n) (put_mid used (length out - used) out part') ≡ take used out ++ line
        printed-now = ap (take (used + n)) line-laid ∙ take_at (take used out ++ line) (drop (used + length line) out) (used + n) front

        rooms : length out₀ - used - length line ≡ length out₀ - (used + n)
        rooms = let e = line-length in omega arith

        whole_length : length (laid out used line) ≡ length out
        whole_length =
            length-append (take used out ++ line) (drop (used + length line) out)
            ∙ (let a = front in let b = length-drop (used + length line) out in let e = line-length in let h = line-fits in omega arith)

-- ---- behind a record

-- fewer bytes are there, and the place is within the carry and the piece
pub record Shorter (held : ℕ) (piece : List ℕ) (at : ℕ) (r : Place) : Type 0 where
  pub fewer : r.held + (length piece - r.at) < held + (length piece - at)
  pub held_in_lem : r.held ≤ held
  pub place_in : r.at ≤ length piece

pub passed_shorter : (carry carry' piece : List ℕ) (held at tag : ℕ) (c : Cursor) (r : Place) → at ≤ length piece
    → Seen carry held piece at tag c → Passed carry held at c.carried c.end carry' r → Shorter held piece at r
passed_shorter carry carry' piece held at tag c r there seen passed =
    ⊎_elim
    (λ t.
    let ends = seen.in_carry t in
    let left = passed.in_carry t in
    record { fewer = omega (arith, ends, left); held_in_lem = omega (arith, ends, left); place_in = omega (arith, left) })
    (λ f.
    let ends = seen.in_piece f in
    let left = passed.in_piece f in
    record { fewer = omega (arith, ends, left); held_in_lem = omega (arith, left); place_in = omega (arith, ends, left) }) (decide c.carried)

-- ---- a call that stops

module _ (m₀ m : SessionMemories) (carry₀ : List ℕ) (held₀ : ℕ) (piece : List ℕ) (at₀ : ℕ) (out₀ left out : List ℕ) (used : ℕ) (carry' out' : List ℕ) (r : Fed)
    (reached : Reached (session_in m₀) (pending carry₀ held₀ piece at₀) out₀ m left out used)
    (stopped : Stopped (session_in m) (turn (length out - used) (session_in m) left) piece out used carry' out' r) where
  abbrev whole-turn : Turn
  whole-turn = turn (length out₀) (session_in m₀) (pending carry₀ held₀ piece at₀)

  abbrev last : Turn
  last = turn (length out - used) (session_in m) left

  turns-are : kept_turn whole-turn ≡ kept_turn (behind_line (take used out) last)
  turns-are = reached.turns ∙ ap (λ (k : ℕ). kept_turn (behind_line (take used out) (turn (k - used) (session_in m) left))) (sym reached.sized)

  shown : whole-turn.printed ≡ take used out ++ last.printed
  unfolding behind_line
  shown = ap (λ (u : Turn). u.printed) turns-are

  fits_out : used ≤ length out
  fits_out = let a = reached.within in let b = reached.sized in omega arith

  size : length (take used out ++ last.printed) ≡ used + length last.printed
  size = length-append (take used out) last.printed ∙ ap (λ (x : ℕ). x + length last.printed) (length-take-le used out fits_out)

  kept-behind : (k : ℕ) → drop (used + k) out ≡ drop (used + k) out₀
  kept-behind k = sym (drop-drop k used out) ∙ ap (drop k) reached.behind ∙ drop-drop k used out₀

  pub reach_told : FeedCall m₀ carry₀ held₀ false piece at₀ out₀ m carry' out' r
  unfolding turn_from behind_line
  reach_told =
      let told = stopped.told in
      record {
        told =
            record {
              printed =
                  told.printed
                  ∙ ap (λ (l : List ℕ). (take used out ++ last.printed) ++ l) (kept-behind (length last.printed))
                  ∙ ap (λ (k : ℕ). (take used out ++ last.printed) ++ drop k out₀) (sym size)
                  ∙ sym (ap (laid out₀ 0) shown ∙ laid-first out₀ (take used out ++ last.printed));
              count = told.count ∙ sym size ∙ ap length (sym shown) ∙ sym (zero-add (length whole-turn.printed));
              left = told.left ∙ ap (λ (u : Turn). u.left) (sym turns-are);
              over = told.over ∙ ap (λ (u : Turn). u.over) (sym turns-are);
              full = told.full ∙ ap (λ (u : Turn). u.full) (sym turns-are);
              held = told.held;
              place = told.place;
              used-up = told.used-up;
            };
        session =
            session_kept m
            ∙ ap kept_session (sym stopped.session)
            ∙ ap (λ (u : Turn). u.session) (sym turns-are);
      }

  -- the words stand as the call says
  pub reach_words : (stand : ℕ) → stand ≡ m.stand
      → FeedCall m₀ carry₀ held₀ false piece at₀ out₀ (session_memories m.board m.access m.records m.words stand) carry' out' r
  reach_words stand is =
      subst⁻¹
      (λ (k : ℕ). FeedCall m₀ carry₀ held₀ false piece at₀ out₀ (session_memories m.board m.access m.records m.words k) carry' out' r)
      is
      reach_told
