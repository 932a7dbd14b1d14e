-- The claim of specs/Statement.antt holds.
use Prim.Native.Nat.{ℕ}
use mathlib.Core.Path.{◌≡◌, refl, sym, ap, ap₂, ◌∙◌}
use mathlib.Core.Bool.{Bool, true, false}
use mathlib.Core.List.{List, [], ◌∷◌, ◌++◌, append_assoc, append-nil}
use native.Mathlib.Nat.{zero-add}
use lib.ListN.{length, take, drop}
use lib.Seq.{take-append_seam}
use lib.Dec.{ltb}
use Rattle.rules.specs.Table.{first_of}
use Rattle.rules.specs.Recording.{found, is_whole, is_bad, Field, Session, carry_out, lines_of, last_line, split, transcript}
use Rattle.rules.proofs.Tests.{clash, or_false_left}
use Rattle.rules.proofs.Recording.{transcript-none}
use Rattle.recording_texts.specs.Texts.{line_size}
use Rattle.recording_stream.specs.Stream.{joined_pieces}
use Rattle.recording_stream.specs.Turn.{Turn, turn, turn_from, end_from}
use Rattle.recording_stream.proofs.Turn.{turn-prints, turn-ends}
use Rattle.recording_step.specs.SessionMemory.{SessionMemories, session_in, kept_session}
use Rattle.recording_step.proofs.Kept.{carry_alike}
use Rattle.recording_feed.specs.declared.Fed.{Fed}
use Rattle.recording_feed.specs.declared.Ended.{Ended}
use Rattle.recording_feed.specs.Pending.{pending}
use Rattle.recording_feed.specs.Feed.{FeedCall, EndCall}
use Rattle.recording_feed.specs.Statement.{again, next, over, end, TranscriptOfTheCode}
use Rattle.recording_feed.proofs.Moves.{used-up}
use Rattle.recording_feed.proofs.Reach.{laid-first, kept-twice}

-- ---- what the memories do not keep plays no part in what is printed

lines_kept : (s t : Session) (fields : List Field) → kept_session s ≡ kept_session t → lines_of s fields ≡ lines_of t fields
unfolding lines_of
lines_kept s t [] same = refl
lines_kept s t (f ∷ fields) same =
    let alike = carry_alike s t same f in
    ap₂ (λ (l m : List ℕ). l ++ m) alike.line (lines_kept (carry_out s f).session (carry_out t f).session fields alike.session)

transcript-kept : (s t : Session) (bytes : List ℕ) → kept_session s ≡ kept_session t → transcript s bytes ≡ transcript t bytes
unfolding transcript
transcript-kept s t bytes same = ap (λ (l : List ℕ). l ++ last_line (found (split bytes).rest)) (lines_kept s t (split bytes).fields same)

-- ---- one call

module _ (m m' : SessionMemories) (carry piece out carry' out' : List ℕ) (held at : ℕ) (r : Fed) (call : FeedCall m carry held false piece at out m' carry' out' r) where
  abbrev bytes : List ℕ
  bytes = pending carry held piece at

  abbrev t : Turn
  t = turn (length out) (session_in m) bytes

  -- the bytes that it used of the output
  printed-is : take r.used out' ≡ t.printed
  unfolding turn_from
  printed-is =
      ap₂ (λ (n : ℕ) (l : List ℕ). take n l) (call.told.count ∙ zero-add (length t.printed)) (call.told.printed ∙ laid-first out t.printed)
      ∙ take-append_seam t.printed (drop (length t.printed) out)

  -- what is printed of the bytes that it leaves, from the memories that it leaves
  later-is : (more : List ℕ) → transcript (session_in m') (pending carry' r.held piece r.at ++ more) ≡ transcript t.session (t.left ++ more)
  unfolding turn_from
  later-is more =
      transcript-kept (session_in m') t.session _ (ap kept_session call.session ∙ kept-twice t.session)
      ∙ ap (λ (l : List ℕ). transcript t.session (l ++ more)) call.told.left

  goes_on : (more : List ℕ) → r.over ≡ false
      → take r.used out' ++ transcript (session_in m') (pending carry' r.held piece r.at ++ more) ≡ transcript (session_in m) (bytes ++ more)
  unfolding turn_from
  goes_on more on =
      ap₂ (λ (l k : List ℕ). l ++ k) printed-is (later-is more) ∙ sym ((turn-prints (length out) (session_in m) bytes more).goes_on (sym call.told.over ∙ on))

  full_on : r.full ≡ true → r.over ≡ false
  unfolding turn_from
  full_on full = call.told.over ∙ (turn-ends (length out) (session_in m) bytes).full_on (sym call.told.full ∙ full)

  ends_at : (more : List ℕ) → r.over ≡ true → take r.used out' ≡ transcript (session_in m) (bytes ++ more)
  unfolding turn_from
  ends_at more is = printed-is ∙ sym ((turn-prints (length out) (session_in m) bytes more).ends (sym call.told.over ∙ is))

  -- the piece is used up: what is left is in the carry, and no record is there
  carry_left : r.full ≡ false → take r.held carry' ≡ pending carry' r.held piece r.at
  carry_left full = sym (used-up carry' piece r.held r.at (call.told.used-up full))

  none_left : r.full ≡ false → r.over ≡ false → is_whole (found (take r.held carry')) ≡ false
  unfolding turn_from
  none_left full on =
      ap (λ (l : List ℕ). is_whole (found l)) (carry_left full ∙ call.told.left)
      ∙ or_false_left (is_whole (found t.left)) (is_bad (found t.left))
      ((turn-ends (length out) (session_in m) bytes).settled (sym call.told.full ∙ full) (sym call.told.over ∙ on))

-- the announced end, where it does not wait for room
end_printed : (carry last last' : List ℕ) (held : ℕ) (e : Ended) → EndCall carry held false last last' e → e.full ≡ false
    → take e.used last' ≡ last_line (found (take held carry))
unfolding end_from first_of
end_printed carry last last' held e call waits =
    let line = (end_from false (length last) (take held carry)).printed in
    ap₂ (λ (n : ℕ) (l : List ℕ). take n l) call.count call.printed
    ∙ take-append_seam line (drop (length line) last)
    ∙ told (ltb (length last) line_size) refl
  where
    told : (x : Bool) → ltb (length last) line_size ≡ x → (end_from false (length last) (take held carry)).printed ≡ last_line (found (take held carry))
    told true few = clash (call.waits ∙ rw few) waits
    told false room = rw room

-- ---- whole traces

pub transcript-of_the_code : TranscriptOfTheCode
unfolding joined_pieces
transcript-of_the_code m carry held piece at pieces printed (again {m' = m'} {out = out} {carry' = carry'} {out' = out'} {later = later} {r = r} call full rest) =
    ap (λ (l : List ℕ). take r.used out' ++ l) (transcript-of_the_code m' carry' r.held piece r.at pieces later rest)
    ∙ goes_on m m' carry piece out carry' out' held at r call (joined_pieces pieces) (full_on m m' carry piece out carry' out' held at r call full)
transcript-of_the_code m carry held piece at pieces printed (next {m' = m'} {after = after} {out = out} {carry' = carry'} {out' = out'} {later = later} {pieces = more} {r = r} call full on rest) =
    ap (λ (l : List ℕ). take r.used out' ++ l)
    (transcript-of_the_code m' carry' r.held after 0 more later rest
    ∙ ap (transcript (session_in m')) (ap (λ (l : List ℕ). (l ++ after) ++ joined_pieces more) (carry_left m m' carry piece out carry' out' held at r call full) ∙ append_assoc (pending carry' r.held piece r.at) after (joined_pieces more)))
    ∙ goes_on m m' carry piece out carry' out' held at r call (after ++ joined_pieces more) on
transcript-of_the_code m carry held piece at pieces printed (over {m' = m'} {out = out} {carry' = carry'} {out' = out'} {r = r} call is) =
    ends_at m m' carry piece out carry' out' held at r call (joined_pieces pieces) is
transcript-of_the_code m carry held piece at pieces printed (end {m' = m'} {out = out} {carry' = carry'} {out' = out'} {last = last} {last' = last'} {r = r} {e = e} call full on ended waits) =
    ap (λ (l : List ℕ). take r.used out' ++ l)
    (end_printed carry' last last' r.held e ended waits
    ∙ sym (transcript-none (session_in m') (take r.held carry') (none_left m m' carry piece out carry' out' held at r call full on))
    ∙ ap (transcript (session_in m')) (carry_left m m' carry piece out carry' out' held at r call full ∙ sym (append-nil (pending carry' r.held piece r.at))))
    ∙ goes_on m m' carry piece out carry' out' held at r call [] on
