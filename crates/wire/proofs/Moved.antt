-- Bytes laid at the start of others, one by one; and bytes moved down to their own start.
use Prim.Native.Nat.{ℕ, suc, ◌+◌, ◌≤◌, ◌<◌}
use mathlib.Core.Path.{◌≡◌, sym, ap, ◌∙◌}
use mathlib.Core.List.{List, ◌++◌}
use native.Mathlib.Nat.{add_comm, zero-add}
use native.Mathlib.Omega.{arith}
use lib.ListN.{length, get_or, set, take, drop, length-drop}
use lib.Seq.{get_or-append-add, get_or-drop, length-take-le, paste-suc}
use Rattle.rules.specs.Answer.{buffer_after}

-- a turn's store takes the copy of n bytes to the copy of n + 1
pub laid_more : (held s : List ℕ) (n : ℕ) → suc n ≤ length held → suc n ≤ length s
    → set (take n s ++ drop n held) n (get_or s n 0) ≡ take (suc n) s ++ drop (suc n) held
laid_more held s n room more = simp zero-add at (paste-suc held 0 s n 0 (simp zero-add room) more)

module _ (held : List ℕ) (from n : ℕ) where
  -- where n bytes are moved down, the next one stands as it stood
  pub moved_next : from + n < length held
      → get_or (take n (drop from held) ++ drop n held) (from + n) 0 ≡ get_or (drop from held) n 0
  moved_next inside =
      let size : length (take n (drop from held)) ≡ n = length-take-le n (drop from held) (omega (arith, length-drop from held)) in
      ap (λ (k : ℕ). get_or (take n (drop from held) ++ drop n held) k 0) (add_comm from n ∙ ap (λ (k : ℕ). k + from) (sym size))
      ∙ get_or-append-add (take n (drop from held)) (drop n held) from 0
      ∙ get_or-drop n held from 0
      ∙ ap (λ (k : ℕ). get_or held k 0) (add_comm n from)
      ∙ sym (get_or-drop from held n 0)

  -- all are moved
  pub moved_all : from + n ≤ length held → take n (drop from held) ++ drop n held ≡ buffer_after (take n (drop from held)) held
  moved_all fits =
      ap (λ (k : ℕ). take n (drop from held) ++ drop k held)
      (sym (length-take-le n (drop from held) (omega (arith, length-drop from held))))
