-- What is found where N4, N6 and N7 are passed, and the row that refuses where they are not, as the outcome table has them: once for every type.
use Prim.Native.Nat.{ℕ}
use mathlib.Core.Path.{◌≡◌, refl, sym, subst⁻¹, ap, ◌∙◌}
use mathlib.Core.Bool.{Bool, true, false, cond, not}
use mathlib.Core.List.{List}
use lib.ListN.{length}
use lib.Dec.{ltb}
use borrow.Author.Tests.{not-true, not-false}
use Rattle.std.specs.Prelude.{Result, Ok, Err}
use Rattle.std.specs.Result.{MatchResult}
use Rattle.std.proofs.lemmas.Result.{MatchResult-at_ok, MatchResult-at_err}
use Rattle.rules.specs.declared.Kind.{Kind}
use Rattle.rules.specs.declared.Kind.TheVariants.{Request, WaitStatus}
use Rattle.rules.specs.declared.Record.{Record}
use Rattle.rules.specs.declared.Refusal.{Refusal}
use Rattle.rules.specs.declared.Refusal.TheVariants.{N4, N6, N7}
use Rattle.rules.specs.Table.{first_of}
use Rattle.rules.specs.Board.{Board, row_of, on_board}
use Rattle.rules.specs.Role.{permitted}
use Rattle.rules.specs.Message.{Query, size_of, is_kind, processor_of, subject_of}
use Rattle.rules.specs.Outcome.{too_short, not_offered, has_right, is_controller, carried_out}
use Rattle.rules.specs.Answer.{ok_or}
use Rattle.access.specs.Memory.{entry_at, view_with}
use Rattle.record.specs.Memory.{Memories, record_at}
use Rattle.message_operation.specs.declared.Decision.{Decision}
use Rattle.message_operation.specs.declared.admission.Subject.{Subject}
use Rattle.message_operation.specs.Operation.{subject_row, alone, Carries}
use Rattle.message_operation.specs.Admission.{row_named, with_right, controlled, permitted_row}
use Rattle.message_operation.proofs.Rows.{Refused, Reached, Loaded, board_held, record_seen, too_short_lem, off_board_lem, lacks_right, refuses, plainly, requests-early}

-- ---- results by their tests

module _ {A : Type 0} (P : A → Type 0) (Q : Refusal → Type 0) where
  -- a line that refuses, and what is behind it
  refused_by : (test : Bool) {e : Refusal} (r : Result A Refusal) → (test ≡ true → Q e) → (test ≡ false → MatchResult r P Q)
      → MatchResult (cond test (Err e) r) P Q
  refused_by true r refuses passes = refuses refl
  refused_by false r refuses passes = passes refl

  righted_by : (R : ℕ → Type 0) (right : ℕ → Bool) (found : ℕ → A) (r : Result ℕ Refusal) → MatchResult r R Q
      → ((row : ℕ) → R row → right row ≡ false → Q N7)
      → ((row : ℕ) → R row → right row ≡ true → P (found row))
      → MatchResult (with_right right found r) P Q
  unfolding with_right first_of
  righted_by R right found (Ok row) told lacks has = by_right (right row) (lacks row told) (has row told)
    where
      by_right : (x : Bool) → (x ≡ false → Q N7) → (x ≡ true → P (found row)) → MatchResult (cond (not x) (Err N7) (Ok (found row))) P Q
      by_right true lacks has = has refl
      by_right false lacks has = lacks refl
  righted_by R right found (Err refusal) told lacks has = told

-- ---- what the code finds

module _ (b : Board) (k : Kind) (q : Query) (offered : not_offered k ≡ false) where
  there : {state : Record} → too_short k q ≡ false → on_board b (subject_of q) ≡ true → Reached b k q (row_of b (processor_of q.message)) state state
  unfolding subject_of
  there whole on = record { whole = whole; offered = offered; here = refl; on = on; same = refl }

  -- N4 and N6 are passed, or refuse
  pub row_told : (access : List ℕ) (state : Record)
      → MatchResult (row_named b q.message (size_of k)) (λ row. Reached b k q row state state) (λ e. Refused b k q access state (Err e))
  unfolding row_named first_of subject_of
  row_told access state =
      refused_by _ _ _ _ too_short_lem
      (λ whole.
      refused_by _ _ _ _ (λ off. off_board_lem whole offered (not-true _ off))
      (λ on. there whole (not-false _ on)))

  -- the record at the row that was found is the one that the rules see
  loaded : {row : ℕ} {state : Record} (memory : List ℕ) → Reached b k q row state state → Loaded b k q memory row (record_at b memory row)
  loaded memory r =
      record {
        reached =
            record { whole = r.whole; offered = r.offered; here = r.here; on = r.on; same = ap (record_at b memory) r.here };
      }

  -- neither is N7
  row_early : MatchResult (row_named b q.message (size_of k)) (λ _. Unit) (λ e. ok_or N7 (Err e) ≡ false)
  unfolding row_named first_of carried_out
  row_early = by_tests (ltb (length q.message) (size_of k)) (not (on_board b (processor_of q.message)))
    where
      by_tests : (short off : Bool)
          → MatchResult (cond short (Err N4) (cond off (Err N6) (Ok (row_of b (processor_of q.message))))) (λ _. Unit) (λ e. ok_or N7 (Err e) ≡ false)
      by_tests true off = refl
      by_tests false true = refl
      by_tests false false = tt

  -- and N7 where the controller alone has the right
  pub controlled_told : (access memory : List ℕ) → ((row : ℕ) (state : Record) → is_controller state q.channel ≡ has_right k (view_with b access row state) q)
      → MatchResult (controlled b memory q.channel q.message (size_of k))
      (λ s. (Loaded b k q memory s.row s.state) × (is_controller s.state q.channel ≡ true))
      (λ e. Refused b k q access (record_at b memory (subject_row b q)) (Err e))
  unfolding controlled
  controlled_told access memory rights =
      righted_by _ _ _ _ _ _ (row_told access (record_at b memory (subject_row b q)))
      (λ row r lacks. lacks_right (loaded memory r).reached (rights row (record_at b memory row)) lacks)
      (λ row r has. (loaded memory r, has))

  -- and where every permitted host has it, whatever the record
  pub permitted_told : (access : List ℕ) (state : Record) → ((row : ℕ) → permitted b (entry_at access row) q.channel ≡ has_right k (view_with b access row state) q)
      → MatchResult (permitted_row b access q.channel q.message (size_of k))
      (λ row. (Reached b k q row state state) × (permitted b (entry_at access row) q.channel ≡ true))
      (λ e. Refused b k q access state (Err e))
  unfolding permitted_row
  permitted_told access state rights =
      righted_by _ _ _ _ _ _ (row_told access state)
      (λ row r lacks. lacks_right r (rights row) lacks)
      (λ row r has. (r, has))

-- ---- a type that the controller alone may send, and that reports the outcome alone

module _ (k : Kind) (m : Memories) (q : Query) (offered : not_offered k ≡ false)
    (rights : (row : ℕ) (state : Record) → is_controller state q.channel ≡ has_right k (view_with (board_held m) m.access row state) q)
    {r : Result Subject Refusal} (is : r ≡ controlled (board_held m) m.records q.channel q.message (size_of k)) where
  pub held : {s : Subject} → r ≡ Ok s → (Loaded (board_held m) k q m.records s.row s.state) × (is_controller s.state q.channel ≡ true)
  held here = MatchResult-at_ok _ _ _ (sym is ∙ here) (controlled_told (board_held m) k q offered m.access m.records rights)

  pub not_held : {e : Refusal} → is_kind k Request ≡ false → is_kind k WaitStatus ≡ false → r ≡ Err e → Carries k m q m.records (alone (Err e))
  not_held unasked unwaited here =
      plainly unasked unwaited
      (refuses (MatchResult-at_err _ _ _ (sym is ∙ here) (controlled_told (board_held m) k q offered m.access m.records rights)))

-- ---- a request, whose right is looked at with the role

module _ (m : Memories) (q : Query) {r : Result ℕ Refusal} (is : r ≡ row_named (board_held m) q.message (size_of Request)) where
  pub named : {row : ℕ} {state : Record} → r ≡ Ok row → state ≡ record_at (board_held m) m.records row → Loaded (board_held m) Request q m.records row state
  named {row} here same =
      subst⁻¹ (Loaded (board_held m) Request q m.records row) same
      (loaded (board_held m) Request q refl m.records
      (MatchResult-at_ok _ _ _ (sym is ∙ here) (row_told (board_held m) Request q refl m.access (record_at (board_held m) m.records row))))

  pub not_named : {e : Refusal} {d : Decision} → r ≡ Err e → d ≡ alone (Err e) → Carries Request m q m.records d
  not_named here told =
      requests-early
      (refuses (MatchResult-at_err _ _ _ (sym is ∙ here) (row_told (board_held m) Request q refl m.access (record_seen m q))))
      (MatchResult-at_err _ _ _ (sym is ∙ here) (row_early (board_held m) Request q refl))
      told

-- ---- a type that every permitted host may send

-- past N7, whatever record the rules see: the row that was found is the processor's, and the sender is permitted
pub record Passed (k : Kind) (m : Memories) (q : Query) (row : ℕ) : Type 0 where
  pub reached : Reached (board_held m) k q row (record_seen m q) (record_seen m q)
  pub right : permitted (board_held m) (entry_at m.access row) q.channel ≡ true

module _ (k : Kind) (m : Memories) (q : Query) (offered : not_offered k ≡ false)
    (rights : (row : ℕ) → permitted (board_held m) (entry_at m.access row) q.channel ≡ has_right k (view_with (board_held m) m.access row (record_seen m q)) q)
    {r : Result ℕ Refusal} (is : r ≡ permitted_row (board_held m) m.access q.channel q.message (size_of k)) where
  pub passed_N7 : {row : ℕ} → r ≡ Ok row → Passed k m q row
  passed_N7 here =
      let told = MatchResult-at_ok _ _ _ (sym is ∙ here) (permitted_told (board_held m) k q offered m.access (record_seen m q) rights) in
      record { reached = told.0; right = told.1 }

  pub stopped : {e : Refusal} → r ≡ Err e → Refused (board_held m) k q m.access (record_seen m q) (Err e)
  stopped here = MatchResult-at_err _ _ _ (sym is ∙ here) (permitted_told (board_held m) k q offered m.access (record_seen m q) rights)
