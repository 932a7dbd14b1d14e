-- `recording_step::play_offer` meets its contract: each tag has its call, and no more.
use Prim.Native.Nat.{ℕ}
use mathlib.Core.Path.{ap, ◌∙◌}
use borrow.Author.Tests.{ne_eqb}
use borrow.Author.Rules.{rules}
use Rattle.recording_lines.specs.Offers.{PrintedOffer}
use Rattle.rules.specs.Recording.{block_word, list_tag, block_tag, board_tag, field_of, list_call, block_call, board_call, carry_out}
use Rattle.record.specs.Memory.{memories}
use Rattle.recording_step.specs.SessionMemory.{session_memories, session_in}
use Rattle.recording_step.proofs.Calls.{list_played, block_played, board_played}
use Rattle.recording_step.proofs.Fields.{carry_list, carry_block, carry_board, carry_none, from_call, from_none}
use Rattle.recording_step.proofs.play_offer.Goals as goal

pub returns-then-tag-eq-TAG_LIST : goal.returns-then-tag-eq-TAG_LIST
returns-then-tag-eq-TAG_LIST c = λ records words stand.
    let a = c.args in
    let m = memories a.board.now a.access.now records in
    let s = session_in (session_memories a.board.now a.access.now records words stand) in
    from_call a.board.now a.access.now records words a.line.now stand (field_of a.tag a.body.now) c.requires.line_size_in_bounds _ _ _ _ _ (list_call a.body.now)
    (ap (λ (t : ℕ). carry_out s (field_of t a.body.now)) c.if-tag-eq-TAG_LIST.true ∙ carry_list s a.body.now)
    (list_played m a.line.now _ _ c.requires.line_size_in_bounds a.body.now _ _ c.offer_list.ensures c.print_list.ensures)

pub returns-then-tag-eq-TAG_BLOCK : goal.returns-then-tag-eq-TAG_BLOCK
returns-then-tag-eq-TAG_BLOCK c = λ records words stand.
    let a = c.args in
    let m = memories a.board.now a.access.now records in
    let s = session_in (session_memories a.board.now a.access.now records words stand) in
    from_call a.board.now a.access.now records words a.line.now stand (field_of a.tag a.body.now) c.requires.line_size_in_bounds _ _ _ _ _ (block_call a.body.now)
    (ap (λ (t : ℕ). carry_out s (field_of t a.body.now)) c.if-tag-eq-TAG_BLOCK.true ∙ carry_block s a.body.now)
    (
    let shown : PrintedOffer a.line.now block_word c.offer_block.result c.print_block.new.line c.print_block.result = search rules in
    block_played m a.line.now _ _ c.requires.line_size_in_bounds a.body.now _ _ c.offer_block.ensures shown
    )

pub returns-then-tag-eq-TAG_BOARD : goal.returns-then-tag-eq-TAG_BOARD
returns-then-tag-eq-TAG_BOARD c = λ records words stand.
    let a = c.args in
    let m = memories a.board.now a.access.now records in
    let s = session_in (session_memories a.board.now a.access.now records words stand) in
    from_call a.board.now a.access.now records words a.line.now stand (field_of a.tag a.body.now) c.requires.line_size_in_bounds _ _ _ _ _ (board_call a.body.now)
    (ap (λ (t : ℕ). carry_out s (field_of t a.body.now)) c.if-tag-eq-TAG_BOARD.true ∙ carry_board s a.body.now)
    (board_played m a.line.now _ _ c.requires.line_size_in_bounds a.body.now _ _ c.offer_board.ensures c.print_board.ensures)

pub returns : goal.returns
returns c = λ records words stand.
    let a = c.args in
    let s = session_in (session_memories a.board.now a.access.now records words stand) in
    from_none a.board.now a.access.now records words a.line.now stand (field_of a.tag a.body.now) c.requires.line_size_in_bounds
    (carry_none s a.body.now a.tag (ne_eqb _ list_tag c.if-tag-eq-TAG_LIST.false) c.requires.message_tag_value.1 c.requires.message_tag_value.0 (ne_eqb _ block_tag c.if-tag-eq-TAG_BLOCK.false) (ne_eqb _ board_tag c.if-tag-eq-TAG_BOARD.false))
