use Prim.Native.Nat.{◌≤◌, ◌-◌}
use mathlib.Core.Path.{◌≡◌}
use Rattle.board.specs.Memory.{board_in}
use Rattle.rules.specs.AccessList.{entry_table, verdict_of}
use Rattle.access_list.proofs.Substructure.{verdict_from}
use Rattle.access_list.proofs.Verdicts.{bad_from}
use Rattle.access_list.proofs.judge_list.Given as goal

abbrev pub invariant-loop-k : goal.invariant-loop-k
invariant-loop-k l = bad_from (board_in l.board) l.part 0 ≡ bad_from (board_in l.board) l.part l.k

abbrev pub invariant-entries : goal.invariant-entries
invariant-entries l = (l.e ≤ 32) × (verdict_of (board_in l.board) l.listed l.list ≡ verdict_from (entry_table (board_in l.board)) 9 l.list l.e)

abbrev pub decreases-entries : goal.decreases-entries
decreases-entries l = 32 - l.e
