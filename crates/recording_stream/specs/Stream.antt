-- Document 02, L12, "Recordings in pieces": a recording that comes in pieces of any size, whose end is announced.
use Rattle.std.specs.Prelude.{ℕ, Bool, true, false, cond, List, [], ◌∷◌, ◌++◌}
use Rattle.rules.specs.Recording.{found, is_bad, Split, split, Session, session_after, lines_of, bad_line, last_line}

-- "the carry buffer has 1,023 bytes, enough for the largest field with its tag and length"
abbrev pub carry_size : ℕ
carry_size = 1023

-- between two pieces: the session; the "carry", 02's term, which has the bytes of a field that is not whole yet; and whether the recording is over, by
-- a bad record or by its announced end
pub record Stream : Type 0 where
  pub session : Session
  pub carry : List ℕ
  pub over : Bool

-- before the first piece
unfoldable pub started : Session → Stream
started s = record { session = s; carry = []; over = false }

-- a piece, of which these are the fields, with the carry before them: every whole field is carried out, and what is left over is the new carry. A bad
-- record ends the recording
unfoldable pub piece_leaves : Session → Split → Stream
piece_leaves s p =
    record {
      session = session_after s p.fields;
      carry = cond (is_bad (found p.rest)) [] p.rest;
      over = is_bad (found p.rest);
    }

unfoldable pub piece_prints : Session → Split → List ℕ
piece_prints s p = lines_of s p.fields ++ cond (is_bad (found p.rest)) bad_line []

-- the stream after a piece, and what the piece prints; once the recording is over, nothing
unfoldable pub after_piece : Stream → List ℕ → Stream
after_piece st piece = cond st.over st (piece_leaves st.session (split (st.carry ++ piece)))

unfoldable pub piece_lines : Stream → List ℕ → List ℕ
piece_lines st piece = cond st.over [] (piece_prints st.session (split (st.carry ++ piece)))

-- the end announced: `cut record` where a field is not whole, and only then; the recording is over
unfoldable pub after_end : Stream → Stream
after_end st = record { session = st.session; carry = []; over = true }

unfoldable pub end_line : Stream → List ℕ
end_line st = cond st.over [] (last_line (found st.carry))

-- the stream after pieces, and what is printed over them and the announced end
unfoldable pub after_pieces : Stream → List (List ℕ) → Stream
after_pieces st [] = st
after_pieces st (piece ∷ pieces) = after_pieces (after_piece st piece) pieces

unfoldable pub printed_over : Stream → List (List ℕ) → List ℕ
printed_over st [] = end_line st
printed_over st (piece ∷ pieces) = piece_lines st piece ++ printed_over (after_piece st piece) pieces

-- the pieces joined
unfoldable pub joined_pieces : List (List ℕ) → List ℕ
joined_pieces [] = []
joined_pieces (piece ∷ pieces) = piece ++ joined_pieces pieces
