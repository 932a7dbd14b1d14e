-- The rows from N4 on, as the functions test them: which outcome a test that holds gives, once those above it failed, and what that
-- leaves in the record memory. Once for every type; last, a request with its role.
use Prim.Native.Nat.{ℕ, ◌≤◌, ◌<◌}
use mathlib.Core.Path.{◌≡◌, refl, sym, subst, subst⁻¹, ap, ◌∙◌}
use mathlib.Core.Bool.{Bool, true, false, cond, not}
use mathlib.Core.List.{List}
use mathlib.Core.Logic.{⊎_elim}
use lib.ListN.{length}
use lib.Dec.{eqb}
use borrow.Author.Tests.{lt-ltb, le-ltb, ltb-true, not-true, not-false}
use Rattle.std.specs.Prelude.{Err, None, Option}
use Rattle.rules.specs.declared.Kind.{Kind}
use Rattle.rules.specs.declared.Kind.TheVariants.{Request, GetStatus, WaitStatus}
use Rattle.rules.specs.declared.Refusal.TheVariants.{N4, N5, N6, N7, N8}
use Rattle.rules.specs.declared.Record.{Record}
use Rattle.rules.specs.declared.Role.{Role}
use Rattle.rules.specs.Table.{first_of}
use Rattle.rules.specs.Board.{Board, rows, row_of, on_board, class_at, class_of, home_at}
use Rattle.rules.specs.Role.{role_of}
use Rattle.rules.specs.Message.{Query, size_of, is_kind, processor_of, subject_of}
use Rattle.rules.specs.Outcome.{Outcome, OK, View, too_short, not_offered, sender_role, has_right, operands_good, words_missing, wait_failed, behind_type, by_words, from_N4, carried_out, outcome_number}
use Rattle.rules.specs.Effect.{effect_of}
use Rattle.rules.specs.Answer.{ok_or, waited, tells_role}
use Rattle.rules.specs.State.{own_of}
use Rattle.rules.proofs.Tests.{decide, cond-true, cond-false}
use Rattle.board.specs.Memory.{board_in}
use Rattle.access.specs.Memory.{entry_at, view_with}
use Rattle.record.specs.Memory.{Memories, record_at, view_in, with_own, with_control_word, with_record}
use Rattle.record.proofs.LentMemory.{store_same, word_stands, own_stands, own_stored, control_stored}
use Rattle.message_operation.specs.declared.Decision.{Decision}
use Rattle.message_operation.specs.Operation.{subject_row, seen_in, memory_after, decision_on, alone, Carries}

-- ---- what a test of x says of the t that x is

pub told_true : {x t : Bool} → x ≡ t → not x ≡ false → t ≡ true
told_true is h = sym is ∙ not-false _ h

pub told_false : {x t : Bool} → x ≡ t → not x ≡ true → t ≡ false
told_false is h = sym is ∙ not-true _ h

-- ---- the board's rows, as the code tests them

row_on : (b : Board) (p : ℕ) → row_of b p < rows → on_board b p ≡ true
unfolding on_board
row_on b p h = lt-ltb (row_of b p) rows h

-- ---- the outcome

module _ (k : Kind) (v : View) (q : Query) where
  abbrev outcome : Outcome
  outcome = first_of OK (from_N4 v q k)

  is_N4 : too_short k q ≡ true → outcome ≡ (Err N4)
  unfolding from_N4 behind_type first_of
  is_N4 short = cond-true _ _ short

  is_N5 : too_short k q ≡ false → not_offered k ≡ true → outcome ≡ (Err N5)
  unfolding from_N4 behind_type first_of
  is_N5 whole closed = rw (whole, closed)

  module _ (whole : too_short k q ≡ false) (offered : not_offered k ≡ false) where
    is_N6 : on_board v.board (subject_of q) ≡ false → outcome ≡ (Err N6)
    unfolding from_N4 behind_type first_of
    is_N6 off = rw (whole, offered, off)

    module _ (on : on_board v.board (subject_of q) ≡ true) where
      is-N7 : has_right k v q ≡ false → outcome ≡ (Err N7)
      unfolding from_N4 behind_type first_of
      is-N7 lacks = rw (whole, offered, on, lacks)

      module _ (right : has_right k v q ≡ true) where
        is-N8 : operands_good k v q ≡ false → outcome ≡ (Err N8)
        unfolding from_N4 behind_type first_of
        is-N8 wrong = rw (whole, offered, on, right, wrong)

        -- what is left are the rows on status words
        by-words : operands_good k v q ≡ true → outcome ≡ first_of OK (by_words q k)
        unfolding from_N4 behind_type first_of
        by-words good = rw (whole, offered, on, right, good)

-- ---- the rows as the code tests them

-- what a message of type k comes to, with this access memory and this record
pub record Comes (b : Board) (k : Kind) (q : Query) (access : List ℕ) (state : Record) (o : Outcome) : Type 0 where
  pub is : outcome k (view_with b access (subject_row b q) state) q ≡ o

-- and it is a refusal that reports no checks
pub record Refused (b : Board) (k : Kind) (q : Query) (access : List ℕ) (state : Record) (o : Outcome) : Type 0 where
  pub comes : Comes b k q access state o
  pub refused : carried_out o ≡ false
  pub early : eqb (outcome_number o) 9 ≡ false

-- past N8: what is left are the rows on status words
abbrev pub Admitted : Board → Kind → Query → List ℕ → Record → Type 0
Admitted b k q access state = Comes b k q access state (first_of OK (by_words q k))

-- past N6: the message is whole, the processor that it names has this row, and the record at hand is `state'`, which the rules see
pub record Reached (b : Board) (k : Kind) (q : Query) (row : ℕ) (state state' : Record) : Type 0 where
  pub whole : too_short k q ≡ false
  pub offered : not_offered k ≡ false
  pub here : row ≡ subject_row b q
  pub on : on_board b (subject_of q) ≡ true
  pub same : state ≡ state'

-- and it was loaded from that row
pub record Loaded (b : Board) (k : Kind) (q : Query) (memory : List ℕ) (row : ℕ) (state : Record) : Type 0 where
  pub reached : Reached b k q row state (record_at b memory (subject_row b q))

module _ {b : Board} {k : Kind} {q : Query} {access : List ℕ} {state : Record} where
  pub too_short_lem : too_short k q ≡ true → Refused b k q access state (Err N4)
  unfolding carried_out
  too_short_lem short = record { comes = record { is = is_N4 k _ q short }; refused = refl; early = refl }

  pub not_offered_lem : too_short k q ≡ false → not_offered k ≡ true → Refused b k q access state (Err N5)
  unfolding carried_out
  not_offered_lem whole closed = record { comes = record { is = is_N5 k _ q whole closed }; refused = refl; early = refl }

  pub off_board_lem : too_short k q ≡ false → not_offered k ≡ false → on_board b (subject_of q) ≡ false → Refused b k q access state (Err N6)
  unfolding carried_out
  off_board_lem whole offered off =
      record { comes = record { is = is_N6 k _ q whole offered off }; refused = refl; early = refl }

module _ {b : Board} {k : Kind} {q : Query} {row : ℕ} {state : Record} (whole : size_of k ≤ length q.message) (offered : not_offered k ≡ false)
    (here : row ≡ row_of b (processor_of q.message)) (on : row < rows) where
  pub reached : {state' : Record} → state ≡ state' → Reached b k q row state state'
  unfolding subject_of
  reached same =
      record { whole = le-ltb _ _ whole; offered = offered; here = here; on = row_on b _ (rw here at on); same = same }

  pub loaded_at : {memory : List ℕ} → state ≡ record_at b memory row → Loaded b k q memory row state
  unfolding subject_of
  loaded_at {memory} loaded = record { reached = reached (loaded ∙ ap (record_at b memory) here) }

module _ {b : Board} {k : Kind} {q : Query} {row : ℕ} {state state' : Record} (r : Reached b k q row state state') where
  -- the class that the code finds by the row
  pub by_class : {class : ℕ} → class ≡ class_at b row → class ≡ class_of b (subject_of q)
  unfolding class_of
  by_class found = found ∙ ap (class_at b) r.here

  module _ {access : List ℕ} where
    -- what the code sees comes to what the rules see
    as_seen : {o : Outcome} → outcome k (view_with b access row state) q ≡ o → Comes b k q access state' o
    as_seen {o} is =
        record {
          is = subst (λ (s : Record). outcome k (view_with b access (subject_row b q) s) q ≡ o) r.same
              (subst (λ (n : ℕ). outcome k (view_with b access n state) q ≡ o) r.here is);
        }

    pub lacks_right : {x : Bool} → x ≡ has_right k (view_with b access row state) q → x ≡ false → Refused b k q access state' (Err N7)
    unfolding carried_out
    lacks_right is lacks =
        record {
          comes = as_seen (is-N7 k _ q r.whole r.offered r.on (sym is ∙ lacks));
          refused = refl;
          early = refl;
        }

    module _ {x : Bool} (is : x ≡ has_right k (view_with b access row state) q) (has : x ≡ true) where
      pub wrong-operands : {y : Bool} → y ≡ operands_good k (view_with b access row state) q → y ≡ false → Refused b k q access state' (Err N8)
      unfolding carried_out
      wrong-operands good wrong =
          record {
            comes = as_seen (is-N8 k _ q r.whole r.offered r.on (sym is ∙ has) (sym good ∙ wrong));
            refused = refl;
            early = refl;
          }

      pub admitted : {y : Bool} → y ≡ operands_good k (view_with b access row state) q → y ≡ true → Admitted b k q access state'
      admitted good right =
          as_seen (by-words k _ q r.whole r.offered r.on (sym is ∙ has) (sym good ∙ right))

-- ---- the memory

-- the record that was loaded is the one at that row
pub loaded-is : {b : Board} {k : Kind} {q : Query} {memory : List ℕ} {row : ℕ} {state : Record} → Loaded b k q memory row state → state ≡ record_at b memory row
loaded-is {b} {memory = memory} l = l.reached.same ∙ ap (record_at b memory) (sym l.reached.here)

-- at one of the rows
pub loaded-row : {b : Board} {k : Kind} {q : Query} {memory : List ℕ} {row : ℕ} {state : Record} → Loaded b k q memory row state → row < rows
unfolding on_board
loaded-row {b} {q = q} l = subst⁻¹ (λ (n : ℕ). n < rows) l.reached.here (ltb-true (row_of b (subject_of q)) rows l.reached.on)

-- the outcome of a message of type k, and the record memory afterwards
pub record Comes-to (k : Kind) (m : Memories) (q : Query) (records' : List ℕ) (o : Outcome) : Type 0 where
  pub is : o ≡ outcome k (seen_in m q) q
  pub left : records' ≡ memory_after (board_in m.board) k o m.records q

-- the board, and the record that a message sees
abbrev pub board_held : Memories → Board
board_held m = board_in m.board

abbrev pub record_seen : Memories → Query → Record
record_seen m q = record_at (board_held m) m.records (subject_row (board_held m) q)

-- a type that changes no record leaves the memory
pub keeps_records : (k : Kind) (m : Memories) (q : Query) → ((r : Record) → effect_of k q r ≡ r) → (o : Outcome)
    → m.records ≡ memory_after (board_held m) k o m.records q
unfolding memory_after
keeps_records k m q same o =
    let kept : with_record (board_held m) m.records (subject_row (board_held m) q) (effect_of k q (record_seen m q)) ≡ m.records =
    ap (with_record (board_held m) m.records (subject_row (board_held m) q)) (same (record_seen m q)) ∙ store_same (board_held m) m.records (subject_row (board_held m) q)
    in
    ⊎_elim (λ t. sym (cond-true _ m.records t ∙ kept)) (λ f. sym (cond-false _ m.records f)) (decide (carried_out o))

module _ {k : Kind} {m : Memories} {q : Query} where
  -- a refusal leaves it
  pub refuses : {o : Outcome} → Refused (board_held m) k q m.access (record_seen m q) o → Comes-to k m q m.records o
  unfolding memory_after view_in
  refuses r = record { is = sym r.comes.is; left = sym (cond-false _ _ r.refused) }

  -- OK has its effect: for the types that look at no status word
  module _ {row : ℕ} {state next : Record} {memory' : List ℕ} (get : is_kind k GetStatus ≡ false) (wait : is_kind k WaitStatus ≡ false)
      (l : Loaded (board_held m) k q m.records row state) (comes : Admitted (board_held m) k q m.access (record_seen m q)) (effect : next ≡ effect_of k q state) where
    carries : memory' ≡ with_record (board_held m) m.records row next → Comes-to k m q memory' OK
    unfolding memory_after carried_out view_in first_of by_words words_missing wait_failed
    carries stored =
        record {
          is = sym (comes.is ∙ rw (get, wait));
          left = stored
              ∙ ap (with_record (board_held m) m.records row) (effect ∙ ap (effect_of k q) l.reached.same)
              ∙ ap (λ (n : ℕ). with_record (board_held m) m.records n (effect_of k q (record_seen m q))) l.reached.here;
        }

    -- an effect that keeps the control word is stored in what is the processor's own, and one that keeps that in the control word
    pub carries_own : ((r : Record) → (effect_of k q r).control ≡ r.control) → memory' ≡ with_own m.records row (own_of next) → Comes-to k m q memory' OK
    carries_own keeps stored =
        carries
        (stored ∙ own_stored (board_held m) m.records row next (ap (λ (r : Record). r.control) effect ∙ keeps state ∙ ap (λ (r : Record). r.control) (loaded-is l) ∙ word_stands (board_held m) m.records row))

    pub carries_control : ((r : Record) → own_of (effect_of k q r) ≡ own_of r) → memory' ≡ with_control_word m.records (home_at (board_held m) row) next.control
        → Comes-to k m q memory' OK
    carries_control keeps stored =
        carries (stored ∙ control_stored (board_held m) m.records row next (ap own_of effect ∙ keeps state ∙ ap own_of (loaded-is l) ∙ own_stands (board_held m) m.records row (loaded-row l)))

  -- ---- what is decided

  -- what carries this outcome is what the contract asks
  pub decided : {records' : List ℕ} {o : Outcome} {d : Decision} → d ≡ decision_on k (seen_in m q) q o → Comes-to k m q records' o → Carries k m q records' d
  unfolding decision_on
  decided {o = o} carried comes =
      record {
        decision = carried ∙ ap (decision_on k (seen_in m q) q) comes.is;
        records = comes.left ∙ ap (λ (d : Decision). memory_after (board_held m) k d.outcome m.records q) (sym carried);
      }

  -- a type that is neither request nor wait reports the outcome alone
  pub plainly : {records' : List ℕ} {o : Outcome} → is_kind k Request ≡ false → is_kind k WaitStatus ≡ false → Comes-to k m q records' o
      → Carries k m q records' (alone o)
  unfolding decision_on waited tells_role
  plainly unasked unwaited comes = decided (rw (unasked, unwaited)) comes

-- ---- a request

module _ {m : Memories} {records' : List ℕ} {q : Query} {o : Outcome} where
  -- it carries the role from N7 on
  requests : {role : Option Role} {d : Decision} → Comes-to Request m q records' o
      → role ≡ cond (ok_or N7 o) (sender_role (seen_in m q) q) None
      → d ≡ record { outcome = o; checks = 0; micros = 0; role = role }
      → Carries Request m q records' d
  unfolding decision_on waited tells_role
  requests comes told is =
      decided (is ∙ ap (λ (x : Option Role). record { outcome = o; checks = 0; micros = 0; role = x }) told) comes

  pub requests-early : {d : Decision} → Comes-to Request m q records' o → ok_or N7 o ≡ false → d ≡ alone o → Carries Request m q records' d
  requests-early comes early is = requests comes (sym (cond-false _ None early)) is

  -- the role that the code has found by the row
  pub requests-late : {row : ℕ} {state : Record} {role : Option Role} {d : Decision} → Loaded (board_in m.board) Request q m.records row state
      → Comes-to Request m q records' o
      → ok_or N7 o ≡ true
      → role ≡ role_of (board_in m.board) (entry_at m.access row) q.channel
      → d ≡ record { outcome = o; checks = 0; micros = 0; role = role }
      → Carries Request m q records' d
  unfolding view_in
  requests-late l comes late found is =
      requests comes
      (found ∙ ap (λ (n : ℕ). role_of (board_in m.board) (entry_at m.access n) q.channel) l.reached.here ∙ sym (cond-true _ None late))
      is
