-- The access memory after the list call and the block call: what an accepted list puts there, alone or in a block.
use Rattle.std.specs.Prelude.{ℕ, cond, List}
use Rattle.rules.specs.Board.{Board}
use Rattle.rules.specs.Verdict.{Verdict, accepted}
use Rattle.rules.specs.AccessList.{verdict_of}
use Rattle.rules.specs.Block.{list_part, block_verdict}
use Rattle.access.specs.Memory.{listed_in}
use Rattle.access.specs.InForce.{in_force}

-- the memory after an offer that comes to this verdict and has this list: accepted, the list is in force; refused, nothing changes
unfoldable pub access_by : Verdict → Board → List ℕ → List ℕ → List ℕ
access_by v b m list = cond (accepted v) (in_force b list) m

-- after a list call
unfoldable pub access_after : Board → List ℕ → List ℕ → List ℕ
access_after b m list = access_by (verdict_of b (listed_in m) list) b m list

-- and after a block call: of a good block the list is in force, and nothing is taken from one with any fault
unfoldable pub access_after_block : Board → List ℕ → ℕ → ℕ → List ℕ → List ℕ
access_after_block b m major minor block = access_by (block_verdict b (listed_in m) major minor block) b m (list_part block)
