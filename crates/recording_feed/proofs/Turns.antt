-- What the memories do not keep of a session plays no part in a turn.
use Prim.Native.Nat.{ℕ, zero, suc, ◌-◌}
use mathlib.Core.Path.{◌≡◌, sym, ap, ◌∙◌}
use mathlib.Core.Bool.{Bool, false}
use mathlib.Core.List.{List}
use lib.ListN.{length, drop}
use Rattle.rules.specs.Recording.{field_in, field_length, Session, carry_out}
use Rattle.recording_stream.specs.Turn.{Turn, waiting, no_room, broken, behind_line, turn_in, turn}
use Rattle.recording_stream.proofs.Turn.{Goes, waits, stops, breaks, carries, goes, in_waits, in_stops, in_breaks, in_carries}
use Rattle.recording_step.specs.SessionMemory.{kept_session}
use Rattle.recording_step.proofs.Kept.{carry_alike}

-- a turn with what is kept of its session
abbrev pub kept_turn : Turn → Turn
kept_turn t =
    record { session = kept_session t.session; left = t.left; over = t.over; full = t.full; printed = t.printed }

-- turns that end at once
with_session : {s t : Session} → s ≡ t → (left : List ℕ) (over full : Bool) (printed : List ℕ)
    → ◌≡◌ {A = Turn} (record { session = s; left = left; over = over; full = full; printed = printed })
    (record { session = t; left = left; over = over; full = full; printed = printed })
with_session same left over full printed =
    ap (λ (s : Session). record { session = s; left = left; over = over; full = full; printed = printed }) same

in_kept : (k room : ℕ) (s t : Session) (bytes : List ℕ) → kept_session s ≡ kept_session t → kept_turn (turn_in k room s bytes) ≡ kept_turn (turn_in k room t bytes)
unfolding turn_in waiting no_room broken behind_line
in_kept zero room s t bytes same = with_session same bytes false false _
in_kept (suc k) room s t bytes same =
    cases (goes room bytes)
    (in_kept k (room - length (carry_out s (field_in bytes)).line) (carry_out s (field_in bytes)).session (carry_out t (field_in bytes)).session (drop (field_length bytes) bytes)
    (carry_alike s t same (field_in bytes)).session)
  where
    rest : List ℕ
    rest = drop (field_length bytes) bytes

    line : Session → List ℕ
    line x = (carry_out x (field_in bytes)).line

    later : Session → Session
    later x = (carry_out x (field_in bytes)).session

    cases : Goes room bytes
        → kept_turn (turn_in k (room - length (line s)) (later s) rest) ≡ kept_turn (turn_in k (room - length (line s)) (later t) rest)
        → kept_turn (turn_in (suc k) room s bytes) ≡ kept_turn (turn_in (suc k) room t bytes)
    cases (waits other) again =
        ap kept_turn (in_waits k room s bytes other) ∙ with_session same bytes false false _ ∙ ap kept_turn (sym (in_waits k room t bytes other))
    cases (stops is-there few) again =
        ap kept_turn (in_stops k room s bytes is-there few) ∙ with_session same bytes false _ _ ∙ ap kept_turn (sym (in_stops k room t bytes is-there few))
    cases (breaks bad fits) again =
        ap kept_turn (in_breaks k room s bytes bad fits) ∙ with_session same _ _ false _ ∙ ap kept_turn (sym (in_breaks k room t bytes bad fits))
    cases (carries is fits) again =
        ap kept_turn (in_carries k room s bytes is fits)
        ∙ ap (λ (u : Turn). behind_line (line s) u) again
        ∙ ap (λ (l : List ℕ). behind_line l (kept_turn (turn_in k (room - length l) (later t) rest))) (carry_alike s t same (field_in bytes)).line
        ∙ ap kept_turn (sym (in_carries k room t bytes is fits))

pub turn-kept : (room : ℕ) (s t : Session) (bytes : List ℕ) → kept_session s ≡ kept_session t → kept_turn (turn room s bytes) ≡ kept_turn (turn room t bytes)
unfolding turn
turn-kept room s t bytes same = in_kept (length bytes) room s t bytes same
