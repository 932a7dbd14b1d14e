-- A field carried out, by its tag: from a call over the lent memories, as status words, or not at all.
use Prim.Native.Nat.{ℕ, ◌≤◌, ◌<◌}
use mathlib.Core.Path.{◌≡◌, refl, sym, ap, ap₂, ◌∙◌, subst⁻¹}
use mathlib.Core.Bool.{false}
use mathlib.Core.List.{List, []}
use lib.ListN.{length, take, drop}
use lib.Seq.{take-append_seam}
use lib.Dec.{eqb, lit≤}
use borrow.Author.Tests.{le-leb, lt-leb}
use Rattle.rules.specs.Table.{first_of}
use Rattle.rules.specs.Answer.{buffer_after}
use Rattle.rules.specs.State.{State}
use Rattle.rules.specs.Call.{Call}
use Rattle.rules.specs.Recording.{list_tag, status_tag, message_tag, block_tag, board_tag, Field, field_of, Session, words_in, list_call, message_call, block_call, board_call, Done, called, standing, carry_out}
use Rattle.rules.proofs.Tests.{cond-true, cond-false}
use Rattle.record.specs.Memory.{memories}
use Rattle.record.proofs.Kept.{held_kept}
use Rattle.recording_texts.specs.Texts.{line_size, Printed}
use Rattle.recording_texts.proofs.Printing.{laid_none, nothing_printed}
use Rattle.recording_step.specs.SessionMemory.{SessionMemories, session_memories, session_in, kept_session}
use Rattle.recording_step.specs.Fields.{CallPlayed, FieldPlayed}

-- ---- what each tag does

module _ (s : Session) (body : List ℕ) where
  pub carry_list : carry_out s (field_of list_tag body) ≡ called s (list_call body)
  unfolding carry_out first_of
  carry_list = refl

  pub carry_status : carry_out s (field_of status_tag body) ≡ standing s (words_in body)
  unfolding carry_out first_of
  carry_status = refl

  pub carry_message : carry_out s (field_of message_tag body) ≡ called s (message_call body s.words)
  unfolding carry_out first_of
  carry_message = refl

  pub carry_block : carry_out s (field_of block_tag body) ≡ called s (block_call body)
  unfolding carry_out first_of
  carry_block = refl

  pub carry_board : carry_out s (field_of board_tag body) ≡ called s (board_call body)
  unfolding carry_out first_of
  carry_board = refl

  pub carry_none : (tag : ℕ) → eqb tag list_tag ≡ false → eqb tag status_tag ≡ false → eqb tag message_tag ≡ false → eqb tag block_tag ≡ false → eqb tag board_tag ≡ false
      → carry_out s (field_of tag body) ≡ record { session = s; line = [] }
  unfolding carry_out first_of
  carry_none tag a b c d e = rw (a, b, c, d, e)

-- ---- a field carried out

module _ (m m' : SessionMemories) (f : Field) (line line' : List ℕ) (n : ℕ) where
  -- from what is done where there is room
  from_done : line_size ≤ length line → (d : Done) → carry_out (session_in m) f ≡ d
      → Printed line d.line line' n → session_in m' ≡ kept_session d.session → FieldPlayed m f line m' line' n
  from_done room d is shown left =
      let there = le-leb line_size (length line) room in
      record {
        prints =
            subst⁻¹ (λ (t : List ℕ). Printed line t line' n) (cond-true _ [] there ∙ ap (λ (x : Done). x.line) is) shown;
        session = left ∙ ap (λ (x : Done). kept_session x.session) (sym is) ∙ sym (cond-true _ _ there);
      }

-- a session that is kept whole
pub session_kept : (m : SessionMemories) → session_in m ≡ kept_session (session_in m)
session_kept m = ap (λ (s : State). record { state = s; words = take m.stand m.words }) (sym (held_kept (memories m.board m.access m.records)))

module _ (board access records words line : List ℕ) (stand : ℕ) (f : Field) where
  abbrev held : SessionMemories
  held = session_memories board access records words stand

  -- where there is no room, nothing is
  pub no_room_lem : length line < line_size → FieldPlayed held f line held line 0
  no_room_lem few =
      let none = lt-leb line_size (length line) few in
      record { prints = nothing_printed line _ _ none; session = sym (cond-false _ _ none) }

  -- a call, over memories of which it changed some; the words stand on
  pub from_call : line_size ≤ length line → (board' access' records' line' : List ℕ) (n : ℕ) (c : Call)
      → carry_out (session_in held) f ≡ called (session_in held) c
      → CallPlayed (memories board access records) c line (memories board' access' records') line' n
      → FieldPlayed held f line (session_memories board' access' records' words stand) line' n
  unfolding called
  from_call room board' access' records' line' n c is played =
      from_done _ _ f line line' n room (called (session_in held) c) is played.prints
      (ap (λ (s : State). record { state = s; words = take stand words }) played.state)

  -- status words
  pub from_words : line_size ≤ length line → (body words' : List ℕ) (stand' : ℕ)
      → carry_out (session_in held) f ≡ standing (session_in held) (words_in body)
      → stand' ≡ length (words_in body)
      → words' ≡ buffer_after (words_in body) words
      → FieldPlayed held f line (session_memories board access records words' stand') line 0
  unfolding standing
  from_words room body words' stand' is count over =
      from_done _ _ f line line 0 room (standing (session_in held) (words_in body)) is
      (record { count = refl; over = laid_none line 0; short = lit≤ tt })
      ((λ i.
      record {
        state = sym (held_kept (memories board access records)) i;
        words = (ap₂ take count over ∙ take-append_seam (words_in body) (drop (length (words_in body)) words)) i;
      }))

  -- a tag that is none
  pub from_none : line_size ≤ length line
      → carry_out (session_in held) f ≡ record { session = session_in held; line = [] }
      → FieldPlayed held f line held line 0
  from_none room is =
      from_done _ _ f line line 0 room _ is (record { count = refl; over = laid_none line 0; short = lit≤ tt })
      (session_kept held)
