-- The claims of specs/Statement.antt hold.
use mathlib.Core.Path.{◌≡◌, refl, sym, ap, ◌∙◌}
use mathlib.Core.Bool.{Bool, true, false, cond}
use mathlib.Core.List.{List, [], ◌++◌, append_assoc, append-nil}
use native.Mathlib.Omega.{arith}
use Prim.Native.Nat.{ℕ}
use Rattle.rules.specs.Recording.{found, is_whole, is_bad, last_line, transcript}
use borrow.Author.Tests.{le-ltb}
use Rattle.rules.specs.Table.{first_of}
use Rattle.recording_texts.specs.Texts.{line_size}
use Rattle.rules.proofs.Tests.{or_false_left}
use Rattle.rules.proofs.Recording.{found_nothing, transcript-none}
use Rattle.recording_stream.specs.Stream.{started, after_end, end_line, joined_pieces}
use Rattle.recording_stream.specs.Turn.{waiting, turn, turn_from, end_from}
use Rattle.recording_stream.specs.Statement.{AnyCutting, CarryShort, NothingAfterEnd, OverStays, EndPrints, again, next, over, end, CallsPrint}
use Rattle.recording_stream.proofs.Stream.{over_prints, pieces_print, pieces_short}
use Rattle.recording_stream.proofs.Turn.{turn-prints, turn-ends}

pub any_cutting : AnyCutting
unfolding started
any_cutting s pieces = pieces_print (started s) pieces refl (ap is_whole (found_nothing [] refl))

pub carry_short : CarryShort
unfolding started
carry_short s pieces = pieces_short (started s) pieces (omega arith)

pub nothing_after_end : NothingAfterEnd
unfolding after_end
nothing_after_end st pieces = over_prints (after_end st) pieces refl

pub over_stays : OverStays
unfolding turn_from waiting
over_stays room s bytes = (refl, refl)

pub end_prints : EndPrints
unfolding end_from end_line first_of
end_prints st room fits = at-end st.over
  where
    at-end : (over : Bool) → (end_from over room st.carry).printed ≡ cond over [] (last_line (found st.carry))
    at-end true = refl
    at-end false = rw (le-ltb room line_size fits)

pub calls_print : CallsPrint
unfolding joined_pieces
calls_print s bytes pieces printed (again {later = later} room full rest) =
    let t = turn room s bytes in
    ap (λ (l : List ℕ). t.printed ++ l) (calls_print t.session t.left pieces later rest)
    ∙ sym ((turn-prints room s bytes (joined_pieces pieces)).goes_on ((turn-ends room s bytes).full_on full))
calls_print s bytes pieces printed (next {piece = piece} {pieces = more} {later = later} room full on rest) =
    let t = turn room s bytes in
    ap (λ (l : List ℕ). t.printed ++ l)
    (calls_print t.session (t.left ++ piece) more later rest ∙ ap (transcript t.session) (append_assoc t.left piece (joined_pieces more)))
    ∙ sym ((turn-prints room s bytes (piece ++ joined_pieces more)).goes_on on)
calls_print s bytes pieces printed (over room is) = sym ((turn-prints room s bytes (joined_pieces pieces)).ends is)
calls_print s bytes pieces printed (end room full on) =
    let t = turn room s bytes in
    let none = or_false_left (is_whole (found t.left)) (is_bad (found t.left)) ((turn-ends room s bytes).settled full on) in
    ap (λ (l : List ℕ). t.printed ++ l)
    (sym (transcript-none t.session t.left none) ∙ ap (transcript t.session) (sym (append-nil t.left)))
    ∙ sym ((turn-prints room s bytes []).goes_on on)
