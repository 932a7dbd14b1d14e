-- A 32-bit number put at a place of bytes.
use Prim.Native.Nat.{ℕ, suc, ◌+◌, ◌/◌, ◌%◌, ◌≤◌, ◌<◌}
use mathlib.Core.Path.{◌≡◌}
use mathlib.Core.List.{List, append_assoc}
use native.Mathlib.Omega.{arith}
use lib.ListN.{length, set}
use lib.Seq.{sets-eq}
use Rattle.std.proofs.lemmas.List.{drop-drop}
use borrow.Author.Tests.{le-leb, lt-leb}
use borrow.Rule.Slice.PartMut.{put_mid}
use Rattle.rules.specs.Bytes.{u32_bytes, with_u32}

module _ (bytes : List ℕ) (i x : ℕ) where
  pub u32_unfit : length bytes < i + 4 → bytes ≡ with_u32 bytes i x
  unfolding with_u32
  u32_unfit h = rw (lt-leb (i + 4) (length bytes) h)

  -- the four stores, lowest byte first
  pub u32_put : i + 4 ≤ length bytes
      → set (set (set (set bytes i (x % 256)) (i + 1) (x / 256 % 256)) (i + 2) (x / 65536 % 256)) (i + 3) (x / 16777216 % 256)
      ≡ with_u32 bytes i x
  unfolding with_u32
  u32_put h =
      let one : i + 1 ≡ suc i = omega arith in
      let two : i + 2 ≡ suc (suc i) = omega arith in
      let three : i + 3 ≡ suc (suc (suc i)) = omega arith in
      rw (le-leb (i + 4) (length bytes) h, one, two, three)

  -- the four bytes, lowest first, put over those from place i on
  pub u32_mid_put : (k : ℕ) (four : List ℕ) → k ≡ 4 → four ≡ u32_bytes x → i + 4 ≤ length bytes → put_mid i k bytes four ≡ with_u32 bytes i x
  unfolding with_u32
  u32_mid_put k four size are h = rw (size, are, le-leb (i + 4) (length bytes) h, sets-eq (u32_bytes x) bytes i h, drop-drop, append_assoc)
