-- "Effect of OK": what each type leaves in the record of the processor it names; all other outcomes change no record.
use Rattle.std.specs.Prelude.{ℕ, cond}
use Rattle.rules.specs.declared.Kind.{Kind}
use Rattle.rules.specs.declared.Kind.TheVariants.{Request, Release, Handover, SetConfig, SetControl, AuthBoot, GetStatus, WaitStatus, Other}
use Rattle.rules.specs.declared.Record.{Record}
use Rattle.rules.specs.declared.Tallies.{Tallies}
use Rattle.rules.specs.Message.{Query, kind_in, new_host_of, vector_low_of, vector_high_of, config_set_of, config_clear_of, control_set_of, control_clear_of}
use Rattle.rules.specs.Flags.{keeps_vector, new_word}
use Rattle.rules.specs.Outcome.{View, outcome_of, carried_out}
use Rattle.rules.specs.Tally.{tallies_after}

-- host h controls, 0 for none, with these tallies; the other fields are kept
abbrev pub held_by : ℕ → Tallies → Record → Record
held_by h tallies r =
    record { controller = h; low = r.low; high = r.high; config = r.config; control = r.control; tallies = tallies }

-- set config: the word, and the vector unless bit 28 is named
abbrev pub with_config : ℕ → ℕ → ℕ → ℕ → Record → Record
with_config low high set clear r =
    record {
      controller = r.controller;
      low = cond (keeps_vector clear) r.low low;
      high = cond (keeps_vector clear) r.high high;
      config = new_word r.config set clear;
      control = r.control;
      tallies = r.tallies;
    }

-- set control: the word alone
abbrev pub with_control : ℕ → ℕ → Record → Record
with_control set clear r =
    record {
      controller = r.controller;
      low = r.low;
      high = r.high;
      config = r.config;
      control = new_word r.control set clear;
      tallies = r.tallies;
    }

-- request: the sender controls; release: free, other fields kept; handover: the new host controls; each is counted (document 02, L10). Get status and
-- wait change nothing
abbrev pub effect_of : Kind → Query → Record → Record
effect_of Request q r = held_by q.channel (tallies_after Request q.channel r) r
effect_of Release q r = held_by 0 (tallies_after Release 0 r) r
effect_of Handover q r = held_by (new_host_of q.message) (tallies_after Handover (new_host_of q.message) r) r
effect_of SetConfig q r =
    with_config (vector_low_of q.message) (vector_high_of q.message) (config_set_of q.message) (config_clear_of q.message) r
effect_of SetControl q r = with_control (control_set_of q.message) (control_clear_of q.message) r
effect_of AuthBoot q r = r
effect_of GetStatus q r = r
effect_of WaitStatus q r = r
effect_of Other q r = r

-- the record of the processor named, after the call
unfoldable pub record_after : View → Query → Record
record_after v q = cond (carried_out (outcome_of v q)) (effect_of (kind_in q.message) q v.state) v.state
