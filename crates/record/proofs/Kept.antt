-- The bytes of the accepted list or block, which the memories do not keep, play no part: the rules give the same answers without them, and
-- leave the same of a state.
use Prim.Native.Nat.{ℕ}
use mathlib.Core.Path.{◌≡◌, refl, sym, ap, ◌∙◌}
use mathlib.Core.Bool.{Bool, true}
use mathlib.Core.List.{List}
use mathlib.Core.Logic.{⊎_elim}
use Rattle.rules.specs.Board.{row_of}
use Rattle.rules.specs.Description.{board_verdict, described}
use Rattle.rules.specs.Verdict.{Verdict, accepted}
use Rattle.rules.specs.AccessList.{verdict_of}
use Rattle.rules.specs.Block.{list_part, block_verdict}
use Rattle.rules.specs.Message.{Query, subject_of}
use Rattle.rules.specs.Outcome.{View}
use Rattle.rules.specs.Effect.{record_after}
use Rattle.rules.specs.Answer.{report_of, answer_of}
use Rattle.rules.specs.State.{listed, State, entry_of, record_of, view_of, put_in, stored}
use Rattle.rules.specs.Call.{Offer, board, list, block, verdict_to, taken, after_offer, after_message, Answer, answer_to, query_of, Call, offer, message, next}
use Rattle.rules.specs.Recording.{board_word, list_word, block_word, offer_line, message_line, line_of}
use Rattle.rules.proofs.Sound.{block_as_list}
use Rattle.rules.proofs.Tests.{decide, cond-true, cond-false}
use Rattle.access.specs.Memory.{listed_in, entries_in, some_list, setup_in, kept_setup}
use Rattle.access.proofs.Kept.{listed-some, keeps_listed}
use Rattle.board.specs.Memory.{board_in}
use Rattle.record.specs.Memory.{Memories, records_in, state_in, state_of, kept}

view_kept : (s : State) (p : ℕ) → view_of (kept s) p ≡ view_of s p
unfolding view_of kept kept_setup entry_of record_of
view_kept s p =
    λ i.
    record {
      board = s.setup.board;
      listed = keeps_listed s.setup i;
      entry = entry_of s.setup p;
      state = record_of s p;
    }

pub record_kept : (s : State) (p : ℕ) → record_of (kept s) p ≡ record_of s p
unfolding kept kept_setup record_of
record_kept s p = refl

pub answer_kept : (s : State) (q : Query) → answer_to (kept s) q ≡ answer_to s q
unfolding answer_to
answer_kept s q = ap (λ (v : View). record { report = report_of v q; bytes = answer_of v q }) (view_kept s (subject_of q))

pub message_kept : (s : State) (q : Query) → after_message (kept s) q ≡ kept (after_message s q)
unfolding after_message stored kept kept_setup
message_kept s q =
    ap
    (λ (v : View).
    record {
      setup = kept_setup s.setup;
      records = put_in s.setup.board s.records (row_of s.setup.board (subject_of q)) (record_after v q);
    })
    (view_kept s (subject_of q))

pub twice : (s : State) → kept (kept s) ≡ kept s
unfolding kept kept_setup
twice s =
    ap (λ (b : Bool). record { setup = record { board = s.setup.board; source = some_list b; entries = s.setup.entries }; records = s.records })
    (keeps_listed s.setup)

pub verdict_kept : (s : State) (o : Offer) → verdict_to (kept s) o ≡ verdict_to s o
unfolding verdict_to kept kept_setup
verdict_kept s (board bytes) = ap (λ (x : Bool). board_verdict x bytes) (keeps_listed s.setup)
verdict_kept s (list bytes) = ap (λ (b : Bool). verdict_of s.setup.board b bytes) (keeps_listed s.setup)
verdict_kept s (block major minor bytes) = ap (λ (b : Bool). block_verdict s.setup.board b major minor bytes) (keeps_listed s.setup)

taken-kept : (s : State) (o : Offer) → kept (taken (kept s) o) ≡ kept (taken s o)
unfolding taken kept kept_setup
taken-kept s (board bytes) =
    ap (λ (x : Bool). record { setup = record { board = described bytes; source = some_list x; entries = s.setup.entries }; records = s.records })
    (keeps_listed s.setup)
taken-kept s (list bytes) = refl
taken-kept s (block major minor bytes) = refl

pub offer_kept : (s : State) (o : Offer) → kept (after_offer (kept s) o) ≡ kept (after_offer s o)
unfolding after_offer
offer_kept s o =
    let same = ap accepted (verdict_kept s o) in
    ⊎_elim
    (λ ok.
    ap kept (cond-true (taken (kept s) o) (kept s) (same ∙ ok)) ∙ taken-kept s o ∙ ap kept (sym (cond-true (taken s o) s ok)))
    (λ no.
    ap kept (cond-false (taken (kept s) o) (kept s) (same ∙ no)) ∙ twice s ∙ ap kept (sym (cond-false (taken s o) s no)))
    (decide (accepted (verdict_to s o)))

-- what is kept of the state that an accepted block leaves is what is kept of that which its list leaves
pub block_kept : (s : State) (major minor : ℕ) (bytes : List ℕ) → accepted (verdict_to s (block major minor bytes)) ≡ true
    → kept (after_offer s (block major minor bytes)) ≡ kept (after_offer s (list (list_part bytes)))
unfolding after_offer taken kept kept_setup listed
block_kept s major minor bytes ok =
    ap kept (cond-true (taken s (block major minor bytes)) s ok)
    ∙ ap kept (sym (cond-true (taken s (list (list_part bytes))) s (block_as_list s major minor bytes ok).list_accepted))

-- ---- any call

pub next-kept : (s : State) (c : Call) → kept (next (kept s) c) ≡ kept (next s c)
unfolding next
next-kept s (offer o) = offer_kept s o
next-kept s (message lent) = ap kept (message_kept s (query_of lent)) ∙ twice (after_message s (query_of lent))

-- the line that a recording's call prints
pub line_kept : (s : State) (c : Call) → line_of (kept s) c ≡ line_of s c
unfolding line_of
line_kept s (offer (board bytes)) = ap (offer_line board_word) (verdict_kept s (board bytes))
line_kept s (offer (list bytes)) = ap (offer_line list_word) (verdict_kept s (list bytes))
line_kept s (offer (block major minor bytes)) = ap (offer_line block_word) (verdict_kept s (block major minor bytes))
line_kept s (message lent) = ap (λ (a : Answer). message_line a.report a.bytes) (answer_kept s (query_of lent))

-- what memories hold is what they keep of it
pub held_kept : (m : Memories) → kept (state_of m) ≡ state_of m
unfolding kept kept_setup state_in setup_in
held_kept m =
    ap
    (λ (b : Bool).
    record {
      setup = record { board = board_in m.board; source = some_list b; entries = entries_in m.access };
      records = records_in m.records;
    })
    (listed-some (listed_in m.access))
