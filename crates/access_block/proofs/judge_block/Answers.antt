-- `access_block::judge_block` meets its contract: each return is a line of the table, or what a part of the block comes to, after those above it.
use native.Mathlib.Omega.{arith}
use mathlib.Core.Path.{sym}
use Rattle.std.proofs.Common.{rules}
use Rattle.rules.specs.Block.{block_verdict}
use Rattle.board.specs.Memory.{board_in}
use Rattle.access_block.proofs.Tables.{PartsLeft, past-abi, bad_list, bad_hierarchy, otp-decides}
use Rattle.access_block.proofs.judge_block.Goals as goal
use Rattle.access_block.proofs.judge_block.Goals.{After-judge_list}

-- once the list is judged, the parts decide
parts_left : (c : After-judge_list) → PartsLeft (board_in c.args.board.now) c.args.block.now
    (block_verdict (board_in c.args.board.now) c.args.listed c.args.major c.args.minor c.args.block.now) c.judge_list.result
parts_left c =
    past-abi _ c.args.listed c.args.major c.args.minor c.args.block.now c.if-listed.false (omega arith)
    c.byte_at.ensures c.if-byte_at-major.false c.byte_at-else-byte_at-major.ensures c.if-byte_at-minor.false c.judge_list.ensures

pub returns-in_err-judge_list : goal.returns-in_err-judge_list
returns-in_err-judge_list c =
    let told = bad_list (parts_left (goal.at.returns-in_err-judge_list c).After-judge_list) c.in_err-judge_list.was in search rules

pub returns-in_err-judge_hierarchy : goal.returns-in_err-judge_hierarchy
returns-in_err-judge_hierarchy c =
    let told = bad_hierarchy (parts_left (goal.at.returns-in_err-judge_hierarchy c).After-judge_list) c.in_ok-judge_list.was
    c.judge_hierarchy.ensures c.in_err-judge_hierarchy.was in
    search rules

pub returns : goal.returns
returns c =
    sym
    (otp-decides (parts_left (goal.at.returns c).After-judge_list) c.in_ok-judge_list.was
    c.judge_hierarchy.ensures c.in_ok-judge_hierarchy.was c.check_otp.ensures)
