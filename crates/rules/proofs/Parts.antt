-- The entries of a substructure as parts of its bytes: their number, their bytes, and the first of those that are left.
use Prim.Native.Nat.{ℕ, zero, suc, ◌+◌, ◌*◌, ◌-◌, ◌<◌}
use mathlib.Core.Path.{◌≡◌, refl, sym, ◌∙◌, ap}
use mathlib.Core.List.{List, ◌∷◌}
use native.Mathlib.Nat.{add-zero, add_assoc, mul-suc, add-sub_cancel_left}
use native.Mathlib.Numerals.{add-one}
use native.Mathlib.Omega.{arith}
use lib.ListN.{length, get_or, take, drop}
use lib.Seq.{get_or-take, get_or-drop, drop-drop}
use Rattle.rules.specs.Bytes.{byte_at}
use Rattle.rules.specs.Substructure.{part_at, parts_of, parts_from, number_in}

parts-count : (width : ℕ) (bytes : List ℕ) (n : ℕ) → length (parts_of width bytes n) ≡ n
unfolding parts_of
parts-count width bytes zero = refl
parts-count width bytes (suc n) = ap suc (parts-count width (drop width bytes) n)

module _ (width : ℕ) (bytes : List ℕ) where
  pub parts-length : (e n : ℕ) → length (parts_from width bytes e n) ≡ n
  parts-length e n = parts-count width (drop (4 + width * e) bytes) n

  -- an entry as the code cuts it out
  pub part_cut : (e : ℕ) → take (4 + width * e + width - (4 + width * e)) (drop (4 + width * e) bytes) ≡ part_at width bytes e
  part_cut e = ap (λ (n : ℕ). take n (drop (4 + width * e) bytes)) (add-sub_cancel_left (4 + width * e) width)

  -- the first of the parts from entry e on is entry e, and behind it are those from the next entry on
  pub parts-step : (e n : ℕ) → parts_from width bytes e (suc n) ≡ part_at width bytes e ∷ parts_from width bytes (suc e) n
  unfolding parts_of
  parts-step e n =
      ap (λ (rest : List ℕ). part_at width bytes e ∷ parts_of width rest n)
      (drop-drop width (4 + width * e) bytes
      ∙ ap (λ (i : ℕ). drop i bytes) (add_assoc 4 (width * e) width ∙ ap (λ (i : ℕ). 4 + i) (sym (mul-suc width e))))

  -- a byte of an entry is one of the whole
  pub part-byte : (e i : ℕ) → i < width → byte_at (part_at width bytes e) i ≡ byte_at bytes (4 + width * e + i)
  part-byte e i inside = get_or-take width (drop (4 + width * e) bytes) i 0 inside ∙ get_or-drop (4 + width * e) bytes i 0

  -- an entry's number is its first byte
  pub number_at : (e : ℕ) → 0 < width → number_in (part_at width bytes e) ≡ byte_at bytes (4 + width * e)
  number_at e some = part-byte e 0 some ∙ ap (λ (i : ℕ). get_or bytes i 0) (add-zero (4 + width * e))

  -- where that has been read as x
  pub number_read : {x : ℕ} (e : ℕ) → 0 < width → x ≡ byte_at bytes (4 + width * e) → number_in (part_at width bytes e) ≡ x
  number_read e some at = number_at e some ∙ sym at

  -- of those from entry e to the last the first is entry e
  pub parts_next : (e : ℕ) → e < 32 → parts_from width bytes e (32 - e) ≡ part_at width bytes e ∷ parts_from width bytes (e + 1) (32 - (e + 1))
  parts_next e h =
      let left : 32 - e ≡ suc (32 - (e + 1)) = omega arith in
      ap (parts_from width bytes e) left
      ∙ parts-step e (32 - (e + 1))
      ∙ ap (λ (n : ℕ). part_at width bytes e ∷ parts_from width bytes n (32 - (e + 1))) (sym (add-one e))
