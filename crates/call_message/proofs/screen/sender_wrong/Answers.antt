-- `call_message::sender_wrong` meets its contract: the header's host, then whether the channel host sends.
use mathlib.Core.Path.{◌≡◌, refl, sym, ◌∙◌}
use mathlib.Core.Bool.{Bool, true, false, not, ◌||◌}
use borrow.Author.Tests.{eq-eqb, ne_eqb}
use Rattle.rules.specs.Board.{active_host}
use Rattle.board.specs.Memory.{board_in}
use Rattle.rules.specs.Outcome.{sender_wrong}
use Rattle.call_message.proofs.screen.sender_wrong.Goals as goal

unlike : (sends same : Bool) → same ≡ false → true ≡ (not sends || not same)
unlike true same f = rw f
unlike false same f = refl

-- it is the header's

alike : (sends same found : Bool) → found ≡ sends → same ≡ true → not found ≡ (not sends || not same)
alike true same found is t = rw (is, t)
alike false same found is t = rw is

pub returns-then-channel-byte_at : goal.returns-then-channel-byte_at
unfolding sender_wrong
returns-then-channel-byte_at c status room = unlike (active_host (board_in c.args.board.now) c.args.channel) _ (ne_eqb _ _ (λ e. c.if-channel-byte_at.true (e ∙ sym c.byte_at.ensures)))

pub returns : goal.returns
unfolding sender_wrong
returns c status room =
    alike _ _ c.is_active.result c.is_active.ensures (eq-eqb _ _ (c.if-channel-byte_at.false ∙ c.byte_at.ensures))
