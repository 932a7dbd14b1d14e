-- The board memory of the start: what the offer of document 01's board leaves, and that it reads as that board.
use Prim.Native.Nat.{ℕ}
use mathlib.Core.Path.{◌≡◌, ap, ◌∙◌}
use mathlib.Core.Bool.{false}
use mathlib.Core.List.{List}
use Rattle.rules.specs.Verdict.{accepted}
use Rattle.rules.specs.Description.{our_bytes, our_description, ours}
use Rattle.rules.proofs.Tests.{cond-true}
use Rattle.rules.proofs.Descriptions.{ours-taken, ours-described}
use Rattle.board.specs.Memory.{board_in, board_bytes}
use Rattle.board.proofs.Read.{board_back}
use Rattle.board_setup.specs.Setup.{board_after}

-- the description of document 01's board is accepted before a list, so that the memory gets its board
pub start-taken : (before bytes : List ℕ) {after : List ℕ} → after ≡ board_after before false bytes → bytes ≡ our_bytes → after ≡ board_bytes ours
unfolding board_after accepted
start-taken before bytes offered are =
    offered ∙ ap (board_after before false) are ∙ cond-true _ _ (ap accepted ours-taken) ∙ ap board_bytes ours-described

pub start-read : board_in (board_bytes ours) ≡ ours
unfolding ours
start-read = board_back our_description
