-- The offers over plain lists: what their steps leave is what the rules give.
use Prim.Native.Nat.{ℕ}
use mathlib.Core.Path.{◌≡◌, sym, ap, ◌∙◌}
use mathlib.Core.Bool.{Bool}
use mathlib.Core.List.{List}
use mathlib.Core.Logic.{⊎_elim}
use Rattle.std.specs.Prelude.{Err}
use Rattle.rules.specs.declared.Fault.TheVariants.{B8}
use Rattle.rules.specs.Board.{Board}
use Rattle.rules.specs.Description.{board_verdict, description_in, described}
use Rattle.rules.specs.Verdict.{Verdict, Accepted, accepted, reported_host}
use Rattle.rules.specs.AccessList.{verdict_of}
use Rattle.rules.specs.Hierarchy.{pairs, Ends, FirstOnLoop}
use Rattle.rules.specs.Block.{hierarchy_part, block_verdict}
use Rattle.rules.specs.State.{Setup, State}
use Rattle.rules.specs.Call.{Offer, board, list, block, verdict_to, taken, after_offer, offer, next}
use Rattle.rules.proofs.Tests.{decide, cond-true, cond-false}
use Rattle.rules.proofs.Blocks.{accepted-ends, B8-first}
use Rattle.board.specs.Memory.{board_in}
use Rattle.board.proofs.Read.{board_back}
use Rattle.board_setup.specs.Setup.{board_after}
use Rattle.access.specs.Memory.{listed_in, entries_in, some_list, setup_in, kept_setup}
use Rattle.access.proofs.Kept.{listed-some}
use Rattle.call_offer.specs.AccessAfter.{access_after, access_after_block}
use Rattle.call_offer.proofs.Offers.{read_kept, setup_after, setup_after_block}
use Rattle.record.specs.Memory.{records_in, state_in, kept}
use Rattle.call_offer.specs.Calls.{BlockCall, BoardCall, ListCall}

-- ---- the offers

-- an offer leaves the records
offer_keeps_records : (s : State) (o : Offer) → (after_offer s o).records ≡ s.records
unfolding after_offer taken
offer_keeps_records s (board bytes) = ⊎_elim (λ t. rw t) (λ f. rw f) (decide (accepted (verdict_to s (board bytes))))
offer_keeps_records s (list bytes) = ⊎_elim (λ t. rw t) (λ f. rw f) (decide (accepted (verdict_to s (list bytes))))
offer_keeps_records s (block major minor bytes) =
    ⊎_elim (λ t. rw t) (λ f. rw f) (decide (accepted (verdict_to s (block major minor bytes))))

-- an access memory after the list call or the block call, read with any records, holds what is kept of the rules' next state
offer_state : (b : Board) (a a' records : List ℕ) (o : Offer)
    → setup_in b a' ≡ kept_setup (after_offer (record { setup = setup_in b a; records = records_in records }) o).setup
    → state_in b a' records ≡ kept (next (state_in b a records) (offer o))
unfolding state_in next kept
offer_state b a a' records o left =
    λ t.
    record {
      setup = left t;
      records = sym (offer_keeps_records (record { setup = setup_in b a; records = records_in records }) o) t;
    }

pub list_state : (b : Board) (a bytes records : List ℕ) → state_in b (access_after b a bytes) records ≡ kept (next (state_in b a records) (offer (list bytes)))
list_state b a bytes records = offer_state b a (access_after b a bytes) records (list bytes) (setup_after b a (records_in records) bytes)

pub block_state : (b : Board) (a : List ℕ) (major minor : ℕ) (bytes records : List ℕ)
    → state_in b (access_after_block b a major minor bytes) records ≡ kept (next (state_in b a records) (offer (block major minor bytes)))
block_state b a major minor bytes records =
    offer_state b a (access_after_block b a major minor bytes) records (block major minor bytes) (setup_after_block b a (records_in records) major minor bytes)

module _ (b : Board) (a bytes records : List ℕ) where
  board_told : verdict_to (state_in b a records) (board bytes) ≡ board_verdict (listed_in a) bytes
  unfolding verdict_to state_in setup_in
  board_told = ap (λ (x : Bool). board_verdict x bytes) (listed-some (listed_in a))

  state_kept : state_in b a records ≡ kept (state_in b a records)
  unfolding state_in kept
  state_kept = ap (λ (u : Setup). record { setup = u; records = records_in records }) (read_kept b a)

  taken-state : state_in (described bytes) a records ≡ kept (taken (state_in b a records) (board bytes))
  unfolding state_in kept taken setup_in kept_setup
  taken-state =
      ap (λ (x : Bool). record { setup = record { board = described bytes; source = some_list x; entries = entries_in a }; records = records_in records })
      (sym (listed-some (listed_in a)))

-- a board memory after the board call, read with any access memory and any records, holds what is kept of the rules' next state
pub board_state : (m a bytes records : List ℕ)
    → state_in (board_in (board_after m (listed_in a) bytes)) a records ≡ kept (next (state_in (board_in m) a records) (offer (board bytes)))
unfolding state_in next kept board_after after_offer described
board_state m a bytes records =
    let s = state_in (board_in m) a records in
    let told : verdict_to s (board bytes) ≡ board_verdict (listed_in a) bytes = board_told (board_in m) a bytes records in
    ⊎_elim
    (λ ok.
    ap (λ (l : List ℕ). state_in (board_in l) a records) (cond-true _ m ok)
    ∙ ap (λ (b : Board). state_in b a records) (board_back (description_in bytes))
    ∙ taken-state (board_in m) a bytes records
    ∙ ap kept (sym (cond-true (taken s (board bytes)) s (ap accepted told ∙ ok))))
    (λ no.
    ap (λ (l : List ℕ). state_in (board_in l) a records) (cond-false _ m no)
    ∙ state_kept (board_in m) a bytes records
    ∙ ap kept (sym (cond-false (taken s (board bytes)) s (ap accepted told ∙ no))))
    (decide (accepted (board_verdict (listed_in a) bytes)))

-- what the code does with a description, where it has read whether a list was accepted
pub board_call_lem : (m a bytes m' : List ℕ) {x : Bool} {v : Verdict} → x ≡ listed_in a → v ≡ board_verdict x bytes → m' ≡ board_after m x bytes → BoardCall m a bytes m' v
board_call_lem m a bytes m' read told left =
    let after : m' ≡ board_after m (listed_in a) bytes = left ∙ ap (λ (y : Bool). board_after m y bytes) read in
    record {
      verdict = told ∙ ap (λ (y : Bool). board_verdict y bytes) read;
      memory_after_lem = after;
      state = λ records. ap (λ (l : List ℕ). state_in (board_in l) a records) after ∙ board_state m a bytes records;
    }

-- what the code does with a list on board b, and with a block
module _ (m a bytes : List ℕ) {b : Board} (on : board_in m ≡ b) where
  pub list_call_lem : {a' : List ℕ} {v : Verdict} → v ≡ verdict_of b (listed_in a) bytes → a' ≡ access_after b a bytes → ListCall m a bytes a' v
  list_call_lem told left =
      let after = left ∙ ap (λ (x : Board). access_after x a bytes) (sym on) in
      record {
        verdict = told ∙ ap (λ (x : Board). verdict_of x (listed_in a) bytes) (sym on);
        access_after_lem = after;
        state = λ records. ap (λ (l : List ℕ). state_in (board_in m) l records) after ∙ list_state (board_in m) a bytes records;
      }

  pub block_call_lem : {a' : List ℕ} {v : Verdict} (major minor : ℕ) → v ≡ block_verdict b (listed_in a) major minor bytes
      → a' ≡ access_after_block b a major minor bytes → BlockCall m a major minor bytes a' v
  block_call_lem major minor told left =
      let Told-here = told ∙ ap (λ (x : Board). block_verdict x (listed_in a) major minor bytes) (sym on) in
      let after = left ∙ ap (λ (x : Board). access_after_block x a major minor bytes) (sym on) in
      record {
        verdict = Told-here;
        host = ap reported_host Told-here;
        access_after_lem = after;
        state = λ records. ap (λ (l : List ℕ). state_in (board_in m) l records) after ∙ block_state (board_in m) a major minor bytes records;
      }

-- ---- what the block call tells

module _ {m a : List ℕ} {major minor : ℕ} {bytes a' : List ℕ} {v : Verdict} (call : BlockCall m a major minor bytes a' v) where
  -- of a block that it accepts: from every host, following supervisors ends
  pub block_ends : v ≡ Accepted → (h : ℕ) → Ends (pairs (hierarchy_part bytes)) h
  unfolding accepted
  block_ends good h = accepted-ends (board_in m) (listed_in a) major minor bytes (ap accepted (sym call.verdict ∙ good)) h

  -- with B8 the host: the first in entry order that lies on a loop
  pub block_first : {h : ℕ} → v ≡ Err (B8 h) → FirstOnLoop (pairs (hierarchy_part bytes)) h
  block_first is = B8-first (board_in m) (listed_in a) major minor bytes (sym call.verdict ∙ is)
