-- `board::clear` meets its contract. The loop's invariant: the first i bytes are those of a board with nothing listed.
use Prim.Native.Nat.{ℕ}
use mathlib.Core.Path.{ap, ◌∙◌}
use mathlib.Core.List.{List}
use native.Mathlib.Omega.{arith}
use lib.ListN.{set, length-set}
use Rattle.board.proofs.EmptyBoard.{clear_next}
use Rattle.board.proofs.store.clear.Goals as goal

pub loop-i-preserved : goal.loop-i-preserved
loop-i-preserved c =
    let l = c.loop-i in (
      length-set l.board l.i c.clear_byte.result ∙ l.invariant.0,
      ap (λ (m : List ℕ). set m l.i c.clear_byte.result) l.invariant.1 ∙ clear_next c.args.board.now l.i (omega arith) (omega arith) c.clear_byte.ensures,
    )
