-- What the memories do not keep of a session plays no part in what a field does and prints.
use Prim.Native.Nat.{ℕ}
use mathlib.Core.Path.{◌≡◌, refl, sym, ap, ap₂, ◌∙◌}
use mathlib.Core.Bool.{Bool, true, false, cond}
use mathlib.Core.List.{List}
use lib.Dec.{eqb}
use Rattle.rules.specs.Table.{first_of}
use Rattle.rules.specs.State.{State}
use Rattle.rules.specs.Call.{Call, next}
use Rattle.rules.specs.Recording.{Field, Session, words_in, list_tag, status_tag, message_tag, block_tag, board_tag, list_call, message_call, block_call, board_call, line_of, Done, called, standing, carry_out}
use Rattle.record.specs.Memory.{kept}
use Rattle.record.proofs.Kept.{next-kept, line_kept}
use Rattle.recording_step.specs.SessionMemory.{kept_session}

-- two things done are alike: the lines are the same, and so is what is kept of the sessions
pub record Alike (d e : Done) : Type 0 where
  pub line : d.line ≡ e.line
  pub session : kept_session d.session ≡ kept_session e.session

module _ (s t : Session) (same : kept_session s ≡ kept_session t) where
  states : kept s.state ≡ kept t.state
  states = ap (λ (x : Session). x.state) same

  words : s.words ≡ t.words
  words = ap (λ (x : Session). x.words) same

  call_alike : (c d : Call) → c ≡ d → Alike (called s c) (called t d)
  unfolding called
  call_alike c d is =
      record {
        line =
            sym (line_kept s.state c) ∙ ap₂ line_of states is ∙ line_kept t.state d;
        session =
            λ i.
            record {
              state = (sym (next-kept s.state c) ∙ ap₂ (λ (x : State) (y : Call). kept (next x y)) states is ∙ next-kept t.state d) i;
              words = words i;
            };
      }

  words_alike : (stand : List ℕ) → Alike (standing s stand) (standing t stand)
  unfolding standing
  words_alike stand = record { line = refl; session = ap (λ (x : State). record { state = x; words = stand }) states }

  -- a line of two tables whose answers are alike
  line-alike : (test : Bool) {a b c d : Done} → Alike a b → Alike c d → Alike (cond test a c) (cond test b d)
  line-alike true x y = x
  line-alike false x y = y

  pub carry_alike : (f : Field) → Alike (carry_out s f) (carry_out t f)
  unfolding carry_out first_of
  carry_alike f =
      line-alike (eqb f.tag list_tag) (call_alike (list_call f.body) (list_call f.body) refl)
      (line-alike (eqb f.tag status_tag) (words_alike (words_in f.body))
      (line-alike (eqb f.tag message_tag) (call_alike (message_call f.body s.words) (message_call f.body t.words) (ap (message_call f.body) words))
      (line-alike (eqb f.tag block_tag) (call_alike (block_call f.body) (block_call f.body) refl)
      (line-alike (eqb f.tag board_tag) (call_alike (board_call f.body) (board_call f.body) refl)
      (record { line = refl; session = same })))))
