-- `board_setup::start` meets its contract: its bytes are the description of document 01's board.
use mathlib.Core.Path.{refl}
use Rattle.board_setup.proofs.Started.{start-taken}
use Rattle.board_setup.proofs.starting.start.Goals as goal

pub returns : goal.returns
returns c = start-taken _ _ c.set_board-taken.ensures.memory refl
