-- Document 02, L10: a processor's four tallies, which messages that are carried out count for each, and the cap where each stays.
use Rattle.std.specs.Prelude.{ℕ, ◌+◌, Bool, cond, not, ◌&&◌, ◌||◌, eqb, ltb}
use Rattle.rules.specs.declared.Kind.{Kind}
use Rattle.rules.specs.declared.Kind.TheVariants.{Request, Release, Handover}
use Rattle.rules.specs.declared.Record.{Record}
use Rattle.rules.specs.declared.Tallies.{Tallies}
use Rattle.rules.specs.Message.{is_kind}
use Rattle.rules.specs.Outcome.{is_free, is_controller}

-- requests granted while free, overrides that took it from another host, handovers to another host, releases
pub data Tally : Type 0 where
  grants : Tally
  overrides : Tally
  handovers : Tally
  releases : Tally

abbrev pub tally_in : Tally → Tallies → ℕ
tally_in grants ts = ts.grants
tally_in overrides ts = ts.overrides
tally_in handovers ts = ts.handovers
tally_in releases ts = ts.releases

abbrev pub tally_of : Tally → Record → ℕ
tally_of t r = tally_in t r.tallies

unfoldable pub no_tallies : Tallies
no_tallies = record { grants = 0; overrides = 0; handovers = 0; releases = 0 }

-- a message of type k that is carried out and leaves host h as the controller, 0 for none, counts for a tally: r is the record before it. One that
-- leaves the controller as it was counts for none
unfoldable pub counts_for : Tally → Kind → ℕ → Record → Bool
counts_for grants k h r = is_kind k Request && is_free r
counts_for overrides k h r = is_kind k Request && not (is_free r || is_controller r h)
counts_for handovers k h r = is_kind k Handover && not (is_controller r h)
counts_for releases k h r = is_kind k Release

-- for how many tallies it counts; and 1 where it leaves another controller, else 0
abbrev pub tally_count : Kind → ℕ → Record → ℕ
tally_count k h r =
    cond (counts_for grants k h r) 1 0
    + (cond (counts_for overrides k h r) 1 0 + (cond (counts_for handovers k h r) 1 0 + cond (counts_for releases k h r) 1 0))

abbrev pub controller_changes : ℕ → Record → ℕ
controller_changes h r = cond (is_controller r h) 0 1

-- each stays at 4,294,967,295 once there
abbrev pub cap : ℕ
cap = 4294967295

unfoldable pub one_more : ℕ → ℕ
one_more n = cond (ltb n cap) (n + 1) n

-- a tally after that message, and all four
unfoldable pub tally_after : Tally → Kind → ℕ → Record → ℕ
tally_after t k h r = cond (counts_for t k h r) (one_more (tally_of t r)) (tally_of t r)

unfoldable pub tallies_after : Kind → ℕ → Record → Tallies
tallies_after k h r =
    record {
      grants = tally_after grants k h r;
      overrides = tally_after overrides k h r;
      handovers = tally_after handovers k h r;
      releases = tally_after releases k h r;
    }

-- 1 if the processor is held, 0 if it is free
unfoldable pub held_count : Record → ℕ
held_count r = cond (is_free r) 0 1

-- while neither has reached the cap, grants minus releases is 1 if the processor is held and 0 if it is free
abbrev pub differ_by : ℕ → ℕ → ℕ → Bool
differ_by held granted released = not (ltb granted cap && ltb released cap) || eqb granted (released + held)

unfoldable pub difference_good : Record → Bool
difference_good r = differ_by (held_count r) (tally_of grants r) (tally_of releases r)
