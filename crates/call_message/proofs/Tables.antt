-- The outcome table in two parts: where the rows before the type are passed the rows from the type on decide, else the first of them.
use Prim.Native.Nat.{ℕ}
use mathlib.Core.Path.{◌≡◌, refl, sym, ap, ◌∙◌}
use mathlib.Core.Bool.{Bool, true, false, ◌&&◌, and-false}
use mathlib.Core.List.{List, [], ◌∷◌}
use lib.Dec.{eqb}
use Rattle.std.specs.Prelude.{Err}
use Rattle.rules.specs.declared.Kind.{Kind}
use Rattle.rules.specs.declared.Kind.TheVariants.{Request, WaitStatus}
use Rattle.rules.specs.declared.Refusal.TheVariants.{R1, R2, N1, N2, N7, N9}
use Rattle.rules.specs.Table.{◌gives◌, first_of}
use Rattle.rules.specs.Message.{Query, is_kind}
use Rattle.rules.specs.Outcome.{Outcome, OK, View, before_type, on_type, behind_type, admission, from_N4, from_type, outcome_table, outcome_number, carried_out}
use Rattle.rules.specs.Answer.{ok_or, waited, tells_role}
use Rattle.rules.proofs.Tests.{clash, or_false_left, cond-false}
use Rattle.board.specs.Memory.{board_in}
use Rattle.access.specs.Memory.{listed_in}
use Rattle.record.specs.Memory.{Memories, view_in}
use Rattle.message_operation.specs.declared.Decision.{Decision}
use Rattle.message_operation.specs.Operation.{seen_in, memory_after, decision_on, alone, Decides}

-- the whole table is the rows before the type, and then those from the type on
whole-table : (k : Kind) (v : View) (q : Query)
    → first_of OK (outcome_table v q k) ≡ first_of (first_of OK (from_type v q k)) (before_type v.board v.listed q)
unfolding outcome_table admission before_type on_type behind_type from_N4 from_type first_of
whole-table k v q = refl

-- four rows of any tests: passed, or not
four_passed : (a b c d : Bool) (below : Outcome) → first_of OK ((a gives Err R1) ∷ (b gives Err R2) ∷ (c gives Err N1) ∷ (d gives Err N2) ∷ []) ≡ OK
    → first_of below ((a gives Err R1) ∷ (b gives Err R2) ∷ (c gives Err N1) ∷ (d gives Err N2) ∷ []) ≡ below
unfolding first_of
four_passed true b c d below ok = cc
four_passed false true c d below ok = cc
four_passed false false true d below ok = cc
four_passed false false false true below ok = cc
four_passed false false false false below ok = refl

-- a refusal among them decides, and is neither OK nor the end of a wait, nor N7
pub record Early (o whole : Outcome) : Type 0 where
  pub decides : whole ≡ o
  pub unwaited : ok_or N9 o ≡ false
  pub untold : ok_or N7 o ≡ false

four_refused : (a b c d : Bool) (below o : Outcome) → o ≡ first_of OK ((a gives Err R1) ∷ (b gives Err R2) ∷ (c gives Err N1) ∷ (d gives Err N2) ∷ [])
    → carried_out o ≡ false
    → Early o (first_of below ((a gives Err R1) ∷ (b gives Err R2) ∷ (c gives Err N1) ∷ (d gives Err N2) ∷ []))
unfolding first_of carried_out
four_refused true b c d below o is bad = record { decides = sym is; unwaited = rw is; untold = rw is }
four_refused false true c d below o is bad = record { decides = sym is; unwaited = rw is; untold = rw is }
four_refused false false true d below o is bad = record { decides = sym is; unwaited = rw is; untold = rw is }
four_refused false false false true below o is bad = record { decides = sym is; unwaited = rw is; untold = rw is }
four_refused false false false false below o is bad = clash (ap carried_out is) bad

-- what the rows before the type come to
abbrev pub first_rows : Memories → Query → Outcome
first_rows m q = first_of OK (before_type (board_in m.board) (listed_in m.access) q)

module _ {k : Kind} {m : Memories} {q : Query} where
  pub passed_on : {first : Outcome} {records' : List ℕ} {d : Decision} → first ≡ first_rows m q → first ≡ OK → Decides from_type k m q records' d
      → Decides outcome_table k m q records' d
  unfolding before_type view_in
  passed_on told ok decided =
      record {
        decision =
            decided.decision
            ∙ ap (decision_on k (seen_in m q) q)
            (sym (whole-table k (seen_in m q) q ∙ four_passed _ _ _ _ (first_of OK (from_type (seen_in m q) q k)) (sym told ∙ ok)));
        records = decided.records;
      }

  pub refused_first : {first : Outcome} {d : Decision} → first ≡ first_rows m q → carried_out first ≡ false → d ≡ alone first
      → Decides outcome_table k m q m.records d
  unfolding before_type view_in decision_on waited tells_role memory_after
  refused_first {first} told bad is =
      let early = four_refused _ _ _ _ (first_of OK (from_type (seen_in m q) q k)) first told bad in
      let no-wait : waited k first ≡ false = ap (λ (x : Bool). is_kind k WaitStatus && x) early.unwaited ∙ and-false (is_kind k WaitStatus) in
      let no-role : tells_role k first ≡ false = ap (λ (x : Bool). is_kind k Request && x) early.untold ∙ and-false (is_kind k Request) in
      let none : ◌≡◌ {A = Decision} (alone first) (decision_on k (seen_in m q) q first) = rw (no-wait, no-role) in
      let silent = or_false_left (carried_out first) (eqb (outcome_number first) 9) early.unwaited in
      record {
        decision = is ∙ none ∙ ap (decision_on k (seen_in m q) q) (sym (whole-table k (seen_in m q) q ∙ early.decides));
        records = sym (cond-false _ m.records (ap (λ (x : Decision). carried_out x.outcome) is ∙ silent));
      }
