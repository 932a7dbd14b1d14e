-- `recording_fields::take_words` meets its contract. The loop's invariant: the bytes that are left, how many words there is room for, and
-- that the words so far are laid.
use Rattle.std.proofs.Common.{◌≡◌, length, get_or, arith, sym, ap, ◌∙◌, add-one, length-drop, length-set}
use Rattle.rules.specs.Recording.{words_in}
use Rattle.recording_fields.proofs.Taken.{taken-length, taken_at, word_at, next_word, all_words}
use Rattle.recording_fields.proofs.words.take_words.Goals as goal

pub loop-i-preserved : goal.loop-i-preserved
loop-i-preserved c =
    let a = c.args in
    let l = c.loop-i in
    let k = l.i-iterator.count in
    let s = c.in-Some.ensures.steps in
    let body = a.body.now in
    let word = word_at body _ c.in-Some.bytes.now c.next.new.self.iter.iter.rest.now k l.invariant.0 s.0.0.1.0 (omega arith) in
    let few = taken-length body in
    let put : c.joined.result ≡ get_or (words_in body) k 0 = c.joined.ensures ∙ word.1 ∙ sym (taken_at body k (omega arith) (omega arith)) in
    rw (s.2, s.1, add-one k) (
      word.2,
      omega arith,
      omega arith,
      omega arith,
      simp length-set l.invariant.4,
      rw (put, l.invariant.5) (next_word a.words.now (words_in body) k (omega arith) (omega arith)),
    )

pub returns : goal.returns
returns c =
    let a = c.args in
    let l = c.loop-i in
    let s = c.in-None.ensures.steps in
    let body = a.body.now in
    let few = taken-length body in
    let left = ap length l.invariant.0 ∙ length-drop _ body in
    let size : l.i-iterator.count ≡ length (words_in body) = grind arith in
    record { value = omega arith; upper_bound = omega arith; words_after = l.invariant.5 ∙ all_words a.words.now (words_in body) _ size }
