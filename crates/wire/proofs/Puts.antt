-- Bytes that fit are put whole.
use Prim.Native.Nat.{ℕ, ◌≤◌}
use mathlib.Core.Path.{◌≡◌}
use mathlib.Core.Bool.{cond}
use mathlib.Core.List.{List}
use lib.ListN.{length}
use lib.Dec.{leb}
use borrow.Author.Tests.{le-leb}
use Rattle.rules.specs.Answer.{buffer_after}

module _ (text held : List ℕ) (fits : length text ≤ length held) where
  pub put_count : (n : ℕ) → n ≡ cond (leb (length text) (length held)) (length text) 0 → n ≡ length text
  put_count n count = rw (le-leb (length text) (length held) fits) at count

  pub put_over : (held' : List ℕ) → held' ≡ cond (leb (length text) (length held)) (buffer_after text held) held → held' ≡ buffer_after text held
  put_over held' over = rw (le-leb (length text) (length held) fits) at over
