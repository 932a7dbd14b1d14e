use Rattle.std.proofs.Common.{◌≡◌, ◌+◌, ◌*◌, ◌≤◌, ◌++◌, length, take, drop}
use Rattle.rules.specs.Recording.{word_limit, words_in}
use Rattle.recording_fields.proofs.words.take_words.Given as goal

abbrev pub invariant-loop-i : goal.invariant-loop-i
invariant-loop-i l =
    (l.i-iterator.iter.iter.rest.now ≡ drop (4 * l.i-iterator.count) l.body)
    × (4 * l.i-iterator.count ≤ length l.body)
    × (l.i-iterator.iter.iter.size ≡ 4)
    × (l.i-iterator.iter.n + l.i-iterator.count ≡ word_limit)
    × (length l.words ≡ word_limit)
    × (l.words ≡ take l.i-iterator.count (words_in l.body) ++ drop l.i-iterator.count l.fn.words)
