-- Document 02, L10, over sequences of calls: the count worked out from the messages that are carried out, and what it claims of the tallies. The
-- theorems are in proofs/Warranty.antt.
use Rattle.std.specs.Prelude.{ℕ, ◌+◌, ◌≤◌, ◌<◌, min, ◌≡◌, Bool, true, false, cond, ◌&&◌, List, [], ◌∷◌, length}
use Rattle.rules.specs.declared.Record.{Record}
use Rattle.rules.specs.Verdict.{accepted}
use Rattle.rules.specs.Board.{rows}
use Rattle.rules.specs.Description.{ours, Good}
use Rattle.rules.specs.Message.{Query, kind_in, is_about}
use Rattle.rules.specs.Outcome.{outcome_of, carried_out}
use Rattle.rules.specs.Tally.{Tally, grants, releases, tally_of, cap, counts_for, held_count}
use Rattle.rules.specs.Effect.{record_after}
use Rattle.rules.specs.State.{listed, State, fresh, record_of, view_of}
use Rattle.rules.specs.Call.{Offer, verdict_to, after_offer, query_of, Call, offer, message, next}
use Rattle.rules.specs.Sequence.{run}

-- a message counts for a tally of processor p: it is about p, it is carried out, that is, outcome OK, answered or not, and by its type and the
-- controller before and after it, it is what the tally counts
unfoldable pub counts : Tally → ℕ → State → Query → Bool
counts t p s q =
    is_about q p
    && carried_out (outcome_of (view_of s p) q)
    && counts_for t (kind_in q.message) (record_after (view_of s p) q).controller (record_of s p)

-- how many messages of a sequence from state s count for it
unfoldable pub count_of : Tally → ℕ → State → List Call → ℕ
count_of t p s [] = 0
count_of t p s (offer o ∷ cs) = count_of t p (next s (offer o)) cs
count_of t p s (message lent ∷ cs) =
    cond (counts t p s (query_of lent)) 1 0 + count_of t p (next s (message lent)) cs

-- what the difference of grants and releases tells: while neither has reached the cap, it is 1 if the processor is held and 0 if it is free
abbrev pub DifferenceTold : Record → Type 0
DifferenceTold r = tally_of grants r < cap → tally_of releases r < cap → tally_of grants r ≡ tally_of releases r + held_count r

-- where a count may start: on a good board, fresh or with something accepted, whatever the records hold, with no tally above the cap
pub record Countable (s : State) : Type 0 where
  pub board_good : Good s.setup.board
  pub rows-there : length s.records.own ≡ rows
  pub none_fresh : listed s.setup.source ≡ false → s ≡ fresh s.setup.board
  pub tallies-capped : (t : Tally) (p : ℕ) → tally_of t (record_of s p) ≤ cap

-- the two claims, for calls from a start: each tally is the smaller of the cap and where it stood plus that count; and the difference tells
-- whether the processor is held if it did at the start
pub record Warranted (s : State) (calls : List Call) (p : ℕ) : Type 0 where
  pub counted :
      (t : Tally) → tally_of t (record_of (run s calls) p) ≡ min cap (tally_of t (record_of s p) + count_of t p s calls)
  pub difference : DifferenceTold (record_of s p) → DifferenceTold (record_of (run s calls) p)

abbrev pub FromAnyStart : Type 0
FromAnyStart = (s : State) → Countable s → (calls : List Call) (p : ℕ) → Warranted s calls p

-- from the state that an accepted list or block leaves, whatever was called before it: each tally is that count, up to the cap, and the
-- difference tells whether the processor is held
pub record CountedSince (start : State) (calls : List Call) (p : ℕ) : Type 0 where
  pub counted : (t : Tally) → tally_of t (record_of (run start calls) p) ≡ min cap (count_of t p start calls)
  pub difference : DifferenceTold (record_of (run start calls) p)

abbrev pub SinceTheList : Type 0
SinceTheList =
    (before : List Call) (o : Offer)
    → accepted (verdict_to (run (fresh ours) before) o) ≡ true
    → (calls : List Call) (p : ℕ) → CountedSince (after_offer (run (fresh ours) before) o) calls p
