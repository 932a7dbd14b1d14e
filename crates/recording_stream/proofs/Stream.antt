-- What a stream prints is the transcript of the bytes that it holds and of those to come; and how long its carry is.
use Prim.Native.Nat.{ℕ, ◌<◌}
use mathlib.Core.Path.{◌≡◌, refl, sym, ap, ap₂, subst⁻¹, ◌∙◌}
use mathlib.Core.Bool.{Bool, true, false, cond}
use mathlib.Core.List.{List, [], ◌∷◌, ◌++◌, append_assoc, append-nil}
use native.Mathlib.Omega.{arith}
use lib.ListN.{length}
use Rattle.rules.specs.declared.Found.{Found}
use Rattle.rules.specs.declared.Found.TheVariants.{Whole, Bad, Partial, Nothing}
use Rattle.rules.specs.Recording.{found, is_whole, is_bad, split, Session, session_after, lines_of, bad_line, last_line, transcript}
use Rattle.rules.proofs.Tests.{clash, or_right, cond-true, cond-false}
use Rattle.rules.proofs.Recording.{found-behind, transcript-none, transcript-append, rest_none, partial_short}
use Rattle.recording_stream.specs.Stream.{carry_size, Stream, piece_leaves, piece_prints, after_piece, piece_lines, end_line, after_pieces, printed_over, joined_pieces}

-- a stream that is over prints nothing more
pub over_prints : (st : Stream) (pieces : List (List ℕ)) → st.over ≡ true → printed_over st pieces ≡ []
unfolding printed_over end_line piece_lines after_piece
over_prints st [] is = cond-true _ _ is
over_prints st (piece ∷ pieces) is =
    ap (λ (l : List ℕ). l ++ printed_over (after_piece st piece) pieces) (cond-true _ _ is)
    ∙ over_prints (after_piece st piece) pieces (ap (λ (x : Stream). x.over) (cond-true st _ is) ∙ is)

-- what follows a bad record is not looked at
pub bad_last : (s : Session) (bytes more : List ℕ) → is_whole (found bytes) ≡ false → is_bad (found bytes) ≡ true → transcript s (bytes ++ more) ≡ bad_line
bad_last s bytes more other bad =
    transcript-none s (bytes ++ more) (ap is_whole same ∙ other) ∙ ap last_line same ∙ last (found bytes) bad
  where
    same : found (bytes ++ more) ≡ found bytes
    same = found-behind bytes more (or_right (is_whole (found bytes)) bad)

    last : (f : Found) → is_bad f ≡ true → last_line f ≡ bad_line
    last (Whole tag n) t = clash {x = false} t refl
    last Bad t = refl
    last Partial t = clash {x = false} t refl
    last Nothing t = clash {x = false} t refl

-- a carry, which begins with no whole field, and the pieces behind it
pub pieces_print : (st : Stream) (pieces : List (List ℕ)) → st.over ≡ false → is_whole (found st.carry) ≡ false
    → printed_over st pieces ≡ transcript st.session (st.carry ++ joined_pieces pieces)
unfolding printed_over end_line joined_pieces piece_lines after_piece piece_leaves piece_prints
pieces_print st [] on none =
    cond-false _ _ on
    ∙ sym (transcript-none st.session st.carry none)
    ∙ ap (transcript st.session) (sym (append-nil st.carry))
pieces_print st (piece ∷ pieces) on none =
    turns (is_bad (found rest)) refl
    (λ fine. pieces_print left pieces (ap (λ (x : Stream). x.over) after ∙ fine) (ap (λ (x : Stream). is_whole (found x.carry)) after ∙ ap (λ (l : List ℕ). is_whole (found l)) (cond-false [] rest fine) ∙ rest_none all))
  where
    all : List ℕ
    all = st.carry ++ piece

    rest : List ℕ
    rest = (split all).rest

    left : Stream
    left = after_piece st piece

    after : left ≡ piece_leaves st.session (split all)
    after = cond-false st _ on

    later : Session
    later = session_after st.session (split all).fields

    lines : List ℕ
    lines = lines_of st.session (split all).fields

    -- the transcript: the lines of the whole fields, and what comes behind them
    prints : transcript st.session (st.carry ++ (piece ++ joined_pieces pieces)) ≡ lines ++ transcript later (rest ++ joined_pieces pieces)
    prints =
        ap (transcript st.session) (sym (append_assoc st.carry piece (joined_pieces pieces)))
        ∙ transcript-append st.session all (joined_pieces pieces)

    turns : (x : Bool) → is_bad (found rest) ≡ x
        → (is_bad (found rest) ≡ false → printed_over left pieces ≡ transcript left.session (left.carry ++ joined_pieces pieces))
        → piece_lines st piece ++ printed_over left pieces ≡ transcript st.session (st.carry ++ (piece ++ joined_pieces pieces))
    turns true bad again =
        ap₂ (λ (l m : List ℕ). l ++ m)
        (cond-false [] _ on ∙ ap (λ (l : List ℕ). lines ++ l) (cond-true bad_line [] bad))
        (over_prints left pieces (ap (λ (x : Stream). x.over) after ∙ bad))
        ∙ append-nil (lines ++ bad_line)
        ∙ ap (λ (l : List ℕ). lines ++ l) (sym (bad_last later rest (joined_pieces pieces) (rest_none all) bad))
        ∙ sym prints
    turns false fine again =
        ap₂ (λ (l m : List ℕ). l ++ m)
        (cond-false [] _ on ∙ ap (λ (l : List ℕ). lines ++ l) (cond-false bad_line [] fine) ∙ append-nil lines)
        (again fine ∙ ap (λ (x : Stream). transcript x.session (x.carry ++ joined_pieces pieces)) after ∙ ap (λ (l : List ℕ). transcript later (l ++ joined_pieces pieces)) (cond-false [] rest fine))
        ∙ sym prints

-- ---- the carry

abbrev Short : Stream → Type 0
Short st = length st.carry < carry_size

piece_short : (st : Stream) (piece : List ℕ) → Short st → Short (after_piece st piece)
unfolding after_piece piece_leaves
piece_short st piece h = turns st.over refl
  where
    rest : List ℕ
    rest = (split (st.carry ++ piece)).rest

    kept : (x : Bool) → is_bad (found rest) ≡ x → length (cond (is_bad (found rest)) [] rest) < carry_size
    kept true bad = subst⁻¹ (λ (l : List ℕ). length l < carry_size) (cond-true [] rest bad) (omega arith)
    kept false fine =
        subst⁻¹ (λ (l : List ℕ). length l < carry_size) (cond-false [] rest fine) (partial_short rest (rest_none (st.carry ++ piece)) fine)

    turns : (x : Bool) → st.over ≡ x → Short (after_piece st piece)
    turns true is = subst⁻¹ Short (cond-true st _ is) h
    turns false on = subst⁻¹ Short (cond-false st _ on) (kept (is_bad (found rest)) refl)

pub pieces_short : (st : Stream) (pieces : List (List ℕ)) → Short st → Short (after_pieces st pieces)
unfolding after_pieces
pieces_short st [] h = h
pieces_short st (piece ∷ pieces) h = pieces_short (after_piece st piece) pieces (piece_short st piece h)
