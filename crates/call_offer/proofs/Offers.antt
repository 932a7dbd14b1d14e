-- The list call and the block call, read as the rules' set-up: what the memory keeps afterwards is what it keeps of the rules' next state.
use Prim.Native.Nat.{ℕ}
use mathlib.Core.Path.{◌≡◌, refl, sym, ap, ◌∙◌}
use mathlib.Core.Bool.{Bool, true}
use mathlib.Core.List.{List}
use mathlib.Core.Logic.{⊎_elim}
use Rattle.rules.specs.Board.{Board}
use Rattle.rules.specs.Verdict.{Verdict, accepted}
use Rattle.rules.specs.AccessList.{Entry, entries_of, verdict_of}
use Rattle.rules.specs.Block.{list_part, block_verdict}
use Rattle.rules.specs.State.{listed, Records, State}
use Rattle.rules.specs.Call.{Offer, list, block, verdict_to, taken, after_offer}
use Rattle.rules.proofs.Blocks.{good_block}
use Rattle.rules.proofs.Tests.{decide, cond-true, cond-false}
use Rattle.access.specs.Memory.{listed_in, entries_in, some_list, setup_in, kept_setup}
use Rattle.access.proofs.Kept.{listed-some}
use Rattle.access.specs.InForce.{in_force}
use Rattle.access.proofs.InForce.{words_read}
use Rattle.call_offer.specs.AccessAfter.{access_by, access_after, access_after_block}

-- what is kept of a set-up that was read out of memory is that set-up
pub read_kept : (b : Board) (m : List ℕ) → setup_in b m ≡ kept_setup (setup_in b m)
unfolding setup_in kept_setup
read_kept b m = ap (λ (x : Bool). record { board = b; source = some_list x; entries = entries_in m }) (sym (listed-some (listed_in m)))

-- the set-up after an offer of a list, alone or in a block, of a state with this memory
module _ (b : Board) (m : List ℕ) (records : Records) where
  abbrev before : State
  before = record { setup = setup_in b m; records = records }

  in_force_setup : (bytes : List ℕ) → setup_in b (in_force b bytes) ≡ record { board = b; source = some_list true; entries = entries_of b bytes }
  unfolding setup_in listed_in
  in_force_setup bytes = ap (λ (es : List Entry). record { board = b; source = some_list true; entries = es }) (words_read b bytes)

  -- where the offer comes to this verdict, and puts this list in force
  after-offer : (o : Offer) (bytes : List ℕ) (v : Verdict) → verdict_to before o ≡ v
      → record { board = b; source = some_list true; entries = entries_of b bytes } ≡ kept_setup (taken before o).setup
      → setup_in b (access_by v b m bytes) ≡ kept_setup (after_offer before o).setup
  unfolding access_by after_offer
  after-offer o bytes v told takes =
      let same = ap accepted told in
      ⊎_elim
      (λ ok.
      ap (setup_in b) (cond-true _ _ ok) ∙ in_force_setup bytes ∙ takes
      ∙ ap (λ (s : State). kept_setup s.setup) (sym (cond-true (taken before o) before (same ∙ ok))))
      (λ no.
      ap (setup_in b) (cond-false _ _ no) ∙ read_kept b m
      ∙ ap (λ (s : State). kept_setup s.setup) (sym (cond-false (taken before o) before (same ∙ no))))
      (decide (accepted v))

  pub verdict_told : (bytes : List ℕ) → verdict_to before (list bytes) ≡ verdict_of b (listed_in m) bytes
  unfolding verdict_to setup_in
  verdict_told bytes = ap (λ (x : Bool). verdict_of b x bytes) (listed-some (listed_in m))

  -- an accepted list is in force, alone or in a block
  list_takes : (bytes : List ℕ) → record { board = b; source = some_list true; entries = entries_of b bytes } ≡ kept_setup (taken before (list bytes)).setup
  unfolding taken setup_in kept_setup listed
  list_takes bytes = refl

  block_takes : (major minor : ℕ) (bytes : List ℕ)
      → record { board = b; source = some_list true; entries = entries_of b (list_part bytes) } ≡ kept_setup (taken before (block major minor bytes)).setup
  unfolding taken setup_in kept_setup listed
  block_takes major minor bytes = refl

  pub setup_after : (bytes : List ℕ) → setup_in b (access_after b m bytes) ≡ kept_setup (after_offer before (list bytes)).setup
  unfolding access_after
  setup_after bytes = after-offer (list bytes) bytes (verdict_of b (listed_in m) bytes) (verdict_told bytes) (list_takes bytes)

  pub block_told : (major minor : ℕ) (bytes : List ℕ) → verdict_to before (block major minor bytes) ≡ block_verdict b (listed_in m) major minor bytes
  unfolding verdict_to setup_in
  block_told major minor bytes = ap (λ (x : Bool). block_verdict b x major minor bytes) (listed-some (listed_in m))

  pub setup_after_block : (major minor : ℕ) (bytes : List ℕ)
      → setup_in b (access_after_block b m major minor bytes) ≡ kept_setup (after_offer before (block major minor bytes)).setup
  unfolding access_after_block
  setup_after_block major minor bytes =
      after-offer (block major minor bytes) (list_part bytes) (block_verdict b (listed_in m) major minor bytes) (block_told major minor bytes)
      (block_takes major minor bytes)

-- two verdicts that accept leave the same memory
by_accepted : (b : Board) (m bytes : List ℕ) (v w : Verdict) → accepted v ≡ true → accepted w ≡ true → access_by v b m bytes ≡ access_by w b m bytes
unfolding access_by
by_accepted b m bytes v w one other = cond-true (in_force b bytes) m one ∙ sym (cond-true (in_force b bytes) m other)

-- an accepted block leaves the memory that its lone list would
pub block_memory : (b : Board) (m : List ℕ) (major minor : ℕ) (bytes : List ℕ) → accepted (block_verdict b (listed_in m) major minor bytes) ≡ true
    → access_after_block b m major minor bytes ≡ access_after b m (list_part bytes)
unfolding access_after access_after_block
block_memory b m major minor bytes ok =
    let good = good_block b (listed_in m) major minor bytes ok in
    let alone : accepted (verdict_of b (listed_in m) (list_part bytes)) ≡ true =
    ap (λ (x : Bool). accepted (verdict_of b x (list_part bytes))) good.nothing_before ∙ good.list_good
    in
    by_accepted b m (list_part bytes) (block_verdict b (listed_in m) major minor bytes) (verdict_of b (listed_in m) (list_part bytes)) ok alone
