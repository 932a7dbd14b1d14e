-- `access_list::judge_list` meets its contract. The entry loop's invariant: the entries passed have no fault, so those from e on decide. The
-- secondary loop's: those passed are good, so those from k on decide.
use Prim.Native.Nat.{ℕ, ◌+◌, ◌*◌, ◌-◌}
use mathlib.Core.Path.{◌≡◌, sym, ◌∙◌}
use mathlib.Core.Bool.{cond}
use mathlib.Core.List.{List}
use lib.ListN.{take, drop}
use native.Mathlib.Omega.{arith}
use Rattle.std.proofs.Common.{rules}
use Rattle.rules.specs.Verdict.{Verdict, Accepted}
use Rattle.std.specs.Prelude.{Err}
use Rattle.rules.specs.declared.Fault.{Fault}
use Rattle.rules.specs.declared.Fault.TheVariants.{A3, A4, A8}
use Rattle.rules.specs.Board.{Board}
use Rattle.board.specs.Memory.{board_in}
use Rattle.rules.proofs.Tests.{cond-true, cond-false}
use Rattle.rules.specs.AccessList.{content_table, verdict_of}
use Rattle.access_list.specs.Entries.{parts_before}
use Rattle.access_list.proofs.Substructure.{past_head, verdict_from, from_last}
use Rattle.rules.proofs.Parts.{part_cut}
use Rattle.access_list.proofs.Verdicts.{past_length, bad_from, secondary_bad, secondary_good, secondaries_good, left-from, turn-unused, turn-bad, turn-good}
use Rattle.std.proofs.lemmas.Bool.{not_from_true, not_from_false}
use Rattle.access_list.proofs.judge_list.Goals as goal
use Rattle.access_list.proofs.judge_list.Goals.{After-check_entry}

pub entries-init : goal.entries-init
unfolding content_table verdict_from parts_before
entries-init c =
    let head = c in
    let a = head.args in
    let list = a.list.now in (
      omega arith,
      past_length _ a.listed list head.if-listed.false head.if-list-ne-LIST_BYTES.false
          ∙ past_head 0xF1EA (Err A3) 292 (Err A4) list _ head.u16_at.ensures head.if-u16_at-ne-LIST_MAGIC.false c.u16_at-2.ensures c.if-u16_at.false,
    )

-- ---- a turn of the entry loop

pub entries-preserved-then-processor-eq0 : goal.entries-preserved-then-processor-eq0
entries-preserved-then-processor-eq0 c =
    let turn = c in
    let list = turn.args.list.now in
    let e = turn.entries.e in (
      omega arith,
      turn.entries.invariant.1
          ∙ turn-unused _ list e (omega arith) (part_cut 9 list e) c.byte_at-processor.ensures c.if-processor-eq0.true,
    )

-- ---- once A5 to A7 are judged of a used entry
module _ (j : After-check_entry) where
  abbrev b : Board
  b = board_in j.args.board.now

  abbrev list : List ℕ
  list = j.args.list.now

  abbrev e : ℕ
  e = j.entries.e

  abbrev part : List ℕ
  part = take (4 + 9 * e + 9 - (4 + 9 * e)) (drop (4 + 9 * e) list)

  abbrev whole : Verdict
  whole = verdict_of b j.args.listed list

  fault_decides : {fault : Fault} → j.check_entry.result ≡ Err fault → whole ≡ Err fault
  fault_decides bad =
      j.entries.invariant.1
      ∙ turn-bad b list e (omega arith) (part_cut 9 list e) j.byte_at-processor.ensures (λ zero. omega arith)
      j.named_before-named.ensures j.check_entry.ensures bad

  secondaries_decide : j.check_entry.result ≡ Accepted → whole ≡ cond (bad_from b part 0) (Err A8) (left-from b list (e + 1))
  secondaries_decide good =
      j.entries.invariant.1
      ∙ turn-good b list e (omega arith) (part_cut 9 list e) j.byte_at-processor.ensures (λ zero. omega arith)
      j.named_before-named.ensures j.check_entry.ensures good

pub loop-k-preserved : goal.loop-k-preserved
loop-k-preserved c =
    c.loop-k.invariant
    ∙ secondary_good _ _ c.loop-k.k (omega arith) c.is_host.ensures c.u16_at-in-loop-k.ensures (not_from_true _ c.if-not-is_host.false)

pub entries-preserved : goal.entries-preserved
entries-preserved c =
    let all : c.loop-k.k ≡ 3 = omega arith in (
      omega arith,
      secondaries_decide (goal.at.entries-preserved c).After-check_entry c.in_ok-check_entry.was
          ∙ cond-false _ _ (c.loop-k.invariant ∙ secondaries_good _ _ c.loop-k.k all),
    )

pub returns-then-e-eq-ENTRIES : goal.returns-then-e-eq-ENTRIES
returns-then-e-eq-ENTRIES c =
    let list = c.args.list.now in
    sym (c.entries.invariant.1 ∙ from_last _ 9 list _ c.if-e-eq-ENTRIES.true)

pub returns-in_err-check_entry : goal.returns-in_err-check_entry
returns-in_err-check_entry c =
    let told = fault_decides (goal.at.returns-in_err-check_entry c).After-check_entry c.in_err-check_entry.was in search rules

pub returns-then-not-is_host : goal.returns-then-not-is_host
returns-then-not-is_host c =
    sym
    (secondaries_decide (goal.at.returns-then-not-is_host c).After-check_entry c.in_ok-check_entry.was
    ∙ cond-true _ _
    (c.loop-k.invariant
    ∙ secondary_bad _ _ c.loop-k.k (omega arith) c.is_host.ensures c.u16_at-in-loop-k.ensures (not_from_false _ c.if-not-is_host.true)))
