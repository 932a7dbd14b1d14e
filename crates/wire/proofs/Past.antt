-- Past the end of bytes there are zeros.
use Prim.Native.Nat.{ℕ, ◌+◌, ◌*◌, ◌≤◌}
use mathlib.Core.Path.{◌≡◌}
use mathlib.Core.List.{List}
use native.Mathlib.Omega.{arith}
use lib.ListN.{length, get_or-eq_default}
use Rattle.rules.specs.Bytes.{byte_at, u16_at, u32_at}

module _ (bytes : List ℕ) (at : ℕ) where
  pub byte_past : (k : ℕ) → length bytes ≤ at + k → byte_at bytes (at + k) ≡ 0
  byte_past k past = get_or-eq_default bytes 0 past

  module _ (past : length bytes ≤ at) where
    pub u16_past : 0 ≡ u16_at bytes at
    u16_past = rw (get_or-eq_default bytes 0 past, byte_past 1 (omega arith))

    pub u32_past : 0 ≡ u32_at bytes at
    u32_past =
        rw (
          get_or-eq_default bytes 0 past,
          byte_past 1 (omega arith),
          byte_past 2 (omega arith),
          byte_past 3 (omega arith),
        )

  -- a number whose last byte is past the end
  pub u32_cut : (b c : ℕ) → length bytes ≤ at + 3 → b ≡ byte_at bytes (at + 1) → c ≡ byte_at bytes (at + 2)
      → byte_at bytes at + 256 * b + 65536 * c + 16777216 * 0 ≡ u32_at bytes at
  u32_cut b c past second third = rw (second, third, byte_past 3 past)
