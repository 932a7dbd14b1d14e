-- A whole line printed, or nothing.
use Prim.Native.Nat.{ℕ, ◌≤◌}
use mathlib.Core.Path.{◌≡◌}
use mathlib.Core.Bool.{Bool, true, false}
use mathlib.Core.List.{List, []}
use lib.ListN.{length}
use lib.Seq.{paste-zero}
use lib.Dec.{lit≤}
use Rattle.recording_texts.specs.Texts.{line_size, laid, printed, Printed}

-- nothing laid
pub laid_none : (d : List ℕ) (at : ℕ) → d ≡ laid d at []
laid_none d at = paste-zero d at []

module _ (line text : List ℕ) (room : Bool) where
  pub nothing_printed : room ≡ false → Printed line (printed room text) line 0
  nothing_printed none = record { count = rw none; over = rw none (laid_none line 0); short = lit≤ tt }

  pub all_printed : (line' : List ℕ) (n : ℕ) → room ≡ true → n ≡ length text → line' ≡ laid line 0 text → n ≤ line_size
      → Printed line (printed room text) line' n
  all_printed line' n all count over short = record { count = rw all count; over = rw all over; short = short }
