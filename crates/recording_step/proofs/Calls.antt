-- A call carried out over lent memories, from what the call and its line promise.
use Prim.Native.Nat.{ℕ, ◌≤◌}
use mathlib.Core.Path.{◌≡◌, refl, sym, ap, ap₂, ◌∙◌, subst, subst⁻¹}
use mathlib.Core.Bool.{Bool, ◌&&◌, and-true}
use mathlib.Core.List.{List, []}
use native.Mathlib.Omega.{arith}
use lib.ListN.{length, take, drop, length-take}
use lib.Seq.{take-append_seam}
use lib.Dec.{leb}
use borrow.Author.Tests.{le-leb}
use Rattle.rules.specs.declared.Report.{Report}
use Rattle.rules.specs.Verdict.{Verdict}
use Rattle.rules.specs.Description.{board_verdict}
use Rattle.rules.specs.AccessList.{verdict_of}
use Rattle.rules.specs.Block.{block_verdict}
use Rattle.rules.specs.Message.{Query, largest_answer}
use Rattle.rules.specs.Answer.{buffer_after, report_of}
use Rattle.rules.specs.State.{listed, Records, State, stored}
use Rattle.rules.specs.Call.{board, list, block, verdict_to, after_message, answer_to, Lent, query_of, next}
use Rattle.rules.specs.Recording.{abi_major, abi_minor, lent_in, list_call, message_call, block_call, board_call, list_word, block_word, board_word, offer_line, message_line, line_of}
use Rattle.rules.proofs.Tests.{cond-true}
use Rattle.board.specs.Memory.{board_in}
use Rattle.access.specs.Memory.{listed_in, setup_in}
use Rattle.access.proofs.Kept.{listed-some}
use Rattle.record.specs.Memory.{Memories, memories, state_in, state_of, kept}
use Rattle.record.proofs.Kept.{held_kept}
use Rattle.call_offer.specs.Calls.{BoardCall, ListCall, BlockCall}
use Rattle.call_message.specs.Calls.{MessageCall}
use Rattle.call_message.proofs.EachCall.{written_short}
use Rattle.recording_texts.specs.Texts.{line_size, has_room, printed, Printed}
use Rattle.recording_lines.specs.Offers.{PrintedOffer}
use Rattle.recording_step.specs.Fields.{CallPlayed}

-- no more is written than any answer has
pub written_few : {m : Memories} {lent : Lent} {records' buffer : List ℕ} {told : Report}
    → MessageCall m lent records' buffer told → told.written ≤ largest_answer
written_few call =
    subst⁻¹ (λ (r : Report). r.written ≤ largest_answer) call.report (written_short _ _)

-- the line of what a message call reports and leaves at the start of its buffer
line-is : (s : State) (q : Query) (told : Report) (held buffer : List ℕ)
    → told ≡ (answer_to s q).report
    → buffer ≡ buffer_after (answer_to s q).bytes held
    → message_line told (take told.written buffer) ≡ message_line (answer_to s q).report (answer_to s q).bytes
unfolding answer_to report_of
line-is s q told held buffer same wrote =
    let bytes = (answer_to s q).bytes in
    ap₂ message_line same
    (ap₂ take (ap (λ (r : Report). r.written) same) wrote ∙ take-append_seam bytes (drop (length bytes) held))

module _ (m : Memories) (line line' : List ℕ) (n : ℕ) (room : line_size ≤ length line) where
  -- whether something was accepted, as the state and as the memory has it
  listed-held : listed (state_of m).setup.source ≡ listed_in m.access
  unfolding state_in setup_in
  listed-held = listed-some (listed_in m.access)

  -- a line that is another text's too, printed where there is room
  shows : {test : Bool} (text is : List ℕ) → test ≡ has_room line → text ≡ is → Printed line (printed test text) line' n → Printed line is line' n
  shows text is same other shown =
      subst (λ (t : List ℕ). Printed line t line' n) (cond-true text [] (same ∙ le-leb line_size (length line) room) ∙ other) shown

  module _ (body : List ℕ) where
    pub board_played : (board' : List ℕ) (told : Verdict)
        → BoardCall m.board m.access body board' told
        → PrintedOffer line board_word told line' n
        → CallPlayed m (board_call body) line (memories board' m.access m.records) line' n
    unfolding line_of verdict_to
    board_played board' told call shown =
        let is : told ≡ verdict_to (state_of m) (board body) = call.verdict ∙ ap (λ (x : Bool). board_verdict x body) (sym listed-held) in
        record { prints = shows _ _ refl (ap (offer_line board_word) is) shown; state = call.state m.records }

    pub list_played : (access' : List ℕ) (told : Verdict)
        → ListCall m.board m.access body access' told
        → PrintedOffer line list_word told line' n
        → CallPlayed m (list_call body) line (memories m.board access' m.records) line' n
    unfolding line_of verdict_to state_in setup_in
    list_played access' told call shown =
        let is : told ≡ verdict_to (state_of m) (list body) = call.verdict ∙ ap (λ (x : Bool). verdict_of (board_in m.board) x body) (sym listed-held) in
        record { prints = shows _ _ refl (ap (offer_line list_word) is) shown; state = call.state m.records }

    pub block_played : (access' : List ℕ) (told : Verdict)
        → BlockCall m.board m.access abi_major abi_minor body access' told
        → PrintedOffer line block_word told line' n
        → CallPlayed m (block_call body) line (memories m.board access' m.records) line' n
    unfolding line_of verdict_to state_in setup_in
    block_played access' told call shown =
        let is : told ≡ verdict_to (state_of m) (block abi_major abi_minor body) =
        call.verdict ∙ ap (λ (x : Bool). block_verdict (board_in m.board) x abi_major abi_minor body) (sym listed-held) in
        record { prints = shows _ _ refl (ap (offer_line block_word) is) shown; state = call.state m.records }

    pub message_played : (words records' buffer : List ℕ) (told : Report)
        → MessageCall m (lent_in body words) records' buffer told
        → Printed line (printed (has_room line && leb (length (take told.written buffer)) largest_answer) (message_line told (take told.written buffer))) line' n
        → CallPlayed m (message_call body words) line (memories m.board m.access records') line' n
    unfolding line_of next after_message stored state_in
    message_played words records' buffer told call shown =
        let wrote = written_few call in
        let short : length (take told.written buffer) ≤ largest_answer = rw length-take (omega arith) in
        let fits = le-leb (length (take told.written buffer)) largest_answer short in
        let after = memories m.board m.access records' in
        let left : state_of after ≡ next (state_of m) (message_call body words) =
        ap (λ (rs : Records). record { setup = setup_in (board_in m.board) m.access; records = rs }) call.records
        in
        record {
          prints =
              shows _ _ (ap (λ (x : Bool). has_room line && x) fits ∙ and-true (has_room line))
              (line-is (state_of m) (query_of (lent_in body words)) told (lent_in body words).buffer buffer call.report call.buffer) shown;
          state = sym (held_kept after) ∙ ap kept left;
        }
