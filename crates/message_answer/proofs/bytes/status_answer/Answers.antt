-- `message_answer::status_answer` meets its contract: the header, the processor and five words, laid one behind the other.
use Prim.Native.Nat.{ℕ}
use mathlib.Core.Path.{◌≡◌, ap, ap₂, ◌∙◌}
use mathlib.Core.Bool.{cond}
use mathlib.Core.List.{List, ◌++◌}
use lib.ListN.{length, set, replicate}
use lib.Dec.{leb}
use Rattle.rules.specs.declared.Record.{Record}
use Rattle.rules.specs.Bytes.{with_u32}
use Rattle.rules.specs.Message.{processor_of}
use Rattle.rules.specs.Answer.{ack, status_bytes, buffer_after}
use Rattle.rules.specs.Message.{largest_answer}
use Rattle.message_answer.proofs.bytes.status_answer.Goals as goal

abbrev begun : List ℕ → List ℕ
begun head = let zeros : List ℕ = replicate largest_answer 0 in cond (leb (length head) largest_answer) (buffer_after head zeros) zeros

-- what each step leaves, from the header on

laid : (m : List ℕ) (r : Record) (status : ℕ) {head a b c d e f : List ℕ} {p : ℕ}
    → head ≡ ack m → a ≡ begun head → p ≡ processor_of m → b ≡ with_u32 (set a 8 p) 9 r.low → c ≡ with_u32 b 13 r.high
    → d ≡ with_u32 c 17 r.config → e ≡ with_u32 d 21 r.control → f ≡ with_u32 e 25 status
    → f ≡ ack m ++ status_bytes m r status
unfolding with_u32
laid m r status at_head at-start is_processor at_low at_high at-config at-control at-status =
    at-status
    ∙ ap (λ (l : List ℕ). with_u32 l 25 status)
    (at-control
    ∙ ap (λ (l : List ℕ). with_u32 l 21 r.control)
    (at-config
    ∙ ap (λ (l : List ℕ). with_u32 l 17 r.config)
    (at_high
    ∙ ap (λ (l : List ℕ). with_u32 l 13 r.high)
    (at_low ∙ ap₂ (λ (l : List ℕ) (x : ℕ). with_u32 (set l 8 x) 9 r.low) (at-start ∙ ap begun at_head) is_processor))))

pub returns : goal.returns
returns c =
    let fifth = c in
    let fourth = fifth in
    let third = fourth in
    let second = third in
    let first = second in
    let processor = first in
    let start = processor in
    let head = start in
    let a = head.args in
    laid a.message.now a.state a.status head.header-head.ensures start.put.ensures.buffer_after processor.byte_at.ensures first.put_u32.ensures
    second.put_u32-2.ensures third.put_u32-3.ensures fourth.put_u32-4.ensures fifth.put_u32-5.ensures
