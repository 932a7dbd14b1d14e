-- The tallies in the record memory, after any trace of calls that meet the contracts (document 02, L10): the memory holds the state of the rules, of
-- which crate rules shows it.
use Prim.Native.Nat.{ℕ, ◌+◌, ◌*◌, ◌≤◌}
use mathlib.Core.Path.{◌≡◌, refl, sym, subst⁻¹, ap, ◌∙◌}
use mathlib.Core.Bool.{Bool, true, false}
use mathlib.Core.List.{List}
use mathlib.Core.Logic.{⊎_elim}
use lib.ListN.{get_or}
use lib.Dec.{ltb, lit≤}
use borrow.Author.Tests.{ltb-true, ltb-false}
use Rattle.rules.specs.Board.{Board, rows, row_of}
use Rattle.rules.specs.Tally.{Tally, grants, overrides, handovers, releases, no_tallies, tally_in, tally_of, cap}
use Rattle.rules.specs.State.{listed, Own, State, free_own, fresh, record_in, record_of}
use Rattle.rules.specs.Call.{list}
use Rattle.rules.specs.Sequence.{run}
use Rattle.rules.specs.Warranty.{DifferenceTold, Countable}
use Rattle.rules.proofs.Tests.{decide, clash}
use Rattle.rules.proofs.Tables.{table_length, table_here, table_past}
use Rattle.rules.proofs.Sound.{sound_fresh}
use Rattle.rules.proofs.Warranty.{warranted, from_none}
use Rattle.board.specs.Memory.{board_in}
use Rattle.access.specs.Memory.{listed_in, entries_in, some_list, setup_in, kept_setup}
use Rattle.access.proofs.Kept.{listed-some}
use Rattle.record.specs.Memory.{Memories, own_at, records_in, state_in, state_of, kept}
use Rattle.traces.specs.Trace.{Step, Trace, end_of, calls_of}
use Rattle.traces.specs.Warranty.{left_in, WarrantyOfTheCode, CountableIn, FromAnyMemories}
use Rattle.traces.proofs.Steps.{Holds}
use Rattle.traces.proofs.Theorem.{start-good, words_are, words_left}

none_listed : (b : Board) → listed (fresh b).setup.source ≡ false
unfolding fresh listed
none_listed b = refl

pub warranty_of_the_code : WarrantyOfTheCode
warranty_of_the_code b bytes =
    record {
      counted =
          λ {m} loaded {steps} trace t p.
          ap (tally_of t) (words_are b bytes loaded trace p)
          ∙ (from_none (fresh b) (sound_fresh b (start-good b bytes loaded)) (none_listed b) (list bytes) (calls_of steps) p).counted t;
      difference =
          λ {m} loaded {steps} trace p.
          subst⁻¹ DifferenceTold (words_are b bytes loaded trace p)
          (from_none (fresh b) (sound_fresh b (start-good b bytes loaded)) (none_listed b) (list bytes) (calls_of steps) p).difference;
    }

-- ---- from any memories

-- a tally of a row is a word of the memory
own_capped : (words : List ℕ) → ((place : ℕ) → get_or words place 0 ≤ cap) → (t : Tally) (row : ℕ) → tally_in t (own_at words row).tallies ≤ cap
own_capped words fit grants row = fit (8 * row + 4)
own_capped words fit overrides row = fit (8 * row + 5)
own_capped words fit handovers row = fit (8 * row + 6)
own_capped words fit releases row = fit (8 * row + 7)

none_capped : (t : Tally) → tally_in t free_own.tallies ≤ cap
unfolding free_own no_tallies
none_capped grants = lit≤ tt
none_capped overrides = lit≤ tt
none_capped handovers = lit≤ tt
none_capped releases = lit≤ tt

module _ (m : Memories) (good : CountableIn m) where
  abbrev held : State
  held = state_of m

  held-listed : listed held.setup.source ≡ true
  unfolding state_in setup_in
  held-listed = listed-some (listed_in m.access) ∙ good.in_force_lem

  holds_itself : Holds m held
  unfolding state_in setup_in kept kept_setup
  holds_itself =
      ap
      (λ (x : Bool).
      record {
        setup = record { board = board_in m.board; source = some_list x; entries = entries_in m.access };
        records = records_in m.records;
      })
      (sym (listed-some (listed_in m.access)))

  held-capped : (t : Tally) (p : ℕ) → tally_of t (record_of held p) ≤ cap
  unfolding state_in setup_in record_of record_in records_in
  held-capped t p =
      let words = m.records in
      let row = row_of (board_in m.board) p in
      ⊎_elim
      (λ here.
      subst⁻¹ (λ (o : Own). tally_in t o.tallies ≤ cap) (table_here (own_at words) free_own rows row (ltb-true row rows here))
      (own_capped words good.words_fit t row))
      (λ past.
      subst⁻¹ (λ (o : Own). tally_in t o.tallies ≤ cap) (table_past (own_at words) free_own rows 0 row (ltb-false row rows past)) (none_capped t))
      (decide (ltb row rows))

  held-counts : Countable held
  unfolding state_in setup_in records_in
  held-counts =
      record {
        board_good = good.board_good;
        rows-there = table_length (own_at m.records) rows 0;
        none_fresh = λ none. clash held-listed none;
        tallies-capped = held-capped;
      }

  held-left : {steps : List Step} → Trace m steps → (p : ℕ) → left_in (board_in m.board) m steps p ≡ record_of (run held (calls_of steps)) p
  unfolding state_in setup_in
  held-left trace p = words_left m held holds_itself held-listed trace p

pub from_any_memories : FromAnyMemories
unfolding state_in setup_in record_of end_of
from_any_memories m steps good trace p =
    let claim = warranted (held m good) (held-counts m good) (calls_of steps) p in
    record {
      counted = λ t. ap (tally_of t) (held-left m good trace p) ∙ claim.counted t;
      difference = λ told. subst⁻¹ DifferenceTold (held-left m good trace p) (claim.difference told);
    }
