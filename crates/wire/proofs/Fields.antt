-- What stands at a place of bytes, by the tests that lead there; and what a whole field says of them.
use Prim.Native.Nat.{ℕ, ◌+◌, ◌-◌, ◌≤◌, ◌<◌}
use mathlib.Core.Path.{◌≡◌, refl, subst}
use mathlib.Core.Logic.{⊎_elim}
use mathlib.Core.List.{List}
use native.Mathlib.Omega.{arith}
use lib.ListN.{length}
use lib.Dec.{leb, ltb}
use borrow.Author.Tests.{le-leb, lt-leb, lt-ltb, le-ltb, leb-true, leb-false, ltb-true, ltb-false}
use Rattle.rules.specs.Table.{first_of}
use Rattle.rules.specs.Bytes.{byte_at}
use Rattle.rules.proofs.Tests.{decide}
use Rattle.wire.specs.declared.tagged.Tagged.{Tagged}
use Rattle.wire.specs.declared.tagged.Tagged.TheVariants.{End, Tag, Head, Field}
use Rattle.wire.specs.Tagged.{length_at, tagged_at}

module _ (bytes : List ℕ) (at : ℕ) where
  pub at-end : length bytes ≤ at → End ≡ tagged_at bytes at
  unfolding tagged_at first_of
  at-end h = rw (le-leb (length bytes) at h)

  module _ (some : at < length bytes) where
    pub at_tag : length bytes - at < 3 → Tag (byte_at bytes at) ≡ tagged_at bytes at
    unfolding tagged_at first_of
    at_tag h = rw (lt-leb (length bytes) at some, lt-ltb (length bytes - at) 3 h)

    module _ (three : 3 ≤ length bytes - at) {n : ℕ} (read : n ≡ length_at bytes at) where
      pub at_head : length bytes - at - 3 < n → Head (byte_at bytes at) n ≡ tagged_at bytes at
      unfolding tagged_at first_of
      at_head h =
          rw (read, lt-leb (length bytes) at some, le-ltb (length bytes - at) 3 three, lt-ltb (length bytes - at - 3) (length_at bytes at) (rw read at h))

      pub at_field : n ≤ length bytes - at - 3 → Field (byte_at bytes at) n ≡ tagged_at bytes at
      unfolding tagged_at first_of
      at_field h =
          rw (read, lt-leb (length bytes) at some, le-ltb (length bytes - at) 3 three, le-ltb (length bytes - at - 3) (length_at bytes at) (rw read at h))

  -- what holds of each thing that may stand there holds of what stands there
  pub tagged_cases : (P : Tagged → Type 0)
      → (length bytes ≤ at → P End)
      → (at < length bytes → length bytes < at + 3 → P (Tag (byte_at bytes at)))
      → (at + 3 ≤ length bytes → length bytes < at + 3 + length_at bytes at → P (Head (byte_at bytes at) (length_at bytes at)))
      → (at + 3 + length_at bytes at ≤ length bytes → P (Field (byte_at bytes at) (length_at bytes at)))
      → P (tagged_at bytes at)
  tagged_cases P none tag head whole =
      ⊎_elim (λ t. let h = leb-true (length bytes) at t in subst P (at-end h) (none h))
      (λ f. some (leb-false (length bytes) at f)) (decide (leb (length bytes) at))
    where
      sized : at < length bytes → 3 ≤ length bytes - at → P (tagged_at bytes at)
      sized h three =
          ⊎_elim
          (λ t. let cut = ltb-true (length bytes - at - 3) (length_at bytes at) t in subst P (at_head h three refl cut) (head (omega arith) (omega arith)))
          (λ f. let fits = ltb-false (length bytes - at - 3) (length_at bytes at) f in subst P (at_field h three refl fits) (whole (omega arith)))
          (decide (ltb (length bytes - at - 3) (length_at bytes at)))

      some : at < length bytes → P (tagged_at bytes at)
      some h =
          ⊎_elim (λ t. let cut = ltb-true (length bytes - at) 3 t in subst P (at_tag h cut) (tag h (omega arith)))
          (λ f. sized h (ltb-false (length bytes - at) 3 f)) (decide (ltb (length bytes - at) 3))

-- a whole field: its tag and length are read at its place, and it ends within the bytes
pub record FieldAt (bytes : List ℕ) (at tag n : ℕ) : Type 0 where
  pub tagged : tag ≡ byte_at bytes at
  pub sized : n ≡ length_at bytes at
  pub ends : at + 3 + n ≤ length bytes

pub field_at : (bytes : List ℕ) (at tag n : ℕ) → Field tag n ≡ tagged_at bytes at → FieldAt bytes at tag n
field_at bytes at tag n =
    tagged_cases bytes at (λ (x : Tagged). Field tag n ≡ x → FieldAt bytes at tag n) (λ h e. absurd (no_end e)) (λ s h e. absurd (no_tag e))
    (λ s h e. absurd (no_head e))
    (λ h e. let same : n ≡ length_at bytes at = cc in record { tagged = cc; sized = same; ends = omega arith })
  where
    no_end : Field tag n ≡ End → ⊥
    no_end e = let z : ◌≡◌ {A = ℕ} 0 1 = cc in omega arith

    no_tag : Field tag n ≡ Tag (byte_at bytes at) → ⊥
    no_tag e = let z : ◌≡◌ {A = ℕ} 0 1 = cc in omega arith

    no_head : Field tag n ≡ Head (byte_at bytes at) (length_at bytes at) → ⊥
    no_head e = let z : ◌≡◌ {A = ℕ} 0 1 = cc in omega arith
