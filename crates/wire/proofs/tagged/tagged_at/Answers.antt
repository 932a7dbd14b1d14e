-- `wire::tagged_at` meets its contract: each arm is a line of `tagged_at`, over what stands from the place on.
use Prim.Native.Nat.{ℕ, ◌+◌, ◌*◌, ◌-◌, ◌≤◌, ◌<◌}
use Rattle.std.proofs.Common.{arith, ◌≡◌, List, take, drop, length, get_or}
use Rattle.std.proofs.lemmas.Grind.{common_steps}
use Rattle.std.proofs.lemmas.List.{length-drop}
use Rattle.wire.specs.declared.tagged.Tagged.TheVariants.{Head, Field}
use Rattle.wire.specs.Tagged.{length_at, tagged_at}
use Rattle.rules.specs.Bytes.{byte_at}
use Rattle.wire.proofs.Fields.{at-end, at_tag, at_head, at_field}
use Rattle.wire.proofs.tagged.tagged_at.Goals as goal

module _ (bytes : List ℕ) (at : ℕ) {n : ℕ} (rest : List ℕ) (is : rest ≡ drop at bytes) (three : 3 ≤ length rest) (read : n ≡ get_or rest 1 0 + 256 * get_or rest 2 0) where
  size : length rest ≡ length bytes - at
  size = rw is (length-drop at bytes)

  body : length (take (length rest - 3) (drop 3 rest)) ≡ length rest - 3
  body = grind (arith, common_steps)

  first : get_or rest 0 0 ≡ byte_at bytes at
  first = grind (arith, common_steps)

  told : n ≡ length_at bytes at
  told = grind (arith, common_steps)

  cut : length (take (length rest - 3) (drop 3 rest)) < n → Head (get_or rest 0 0) n ≡ tagged_at bytes at
  cut h = rw first (at_head bytes at (omega (arith, size)) (omega (arith, size)) told (omega (arith, body, size)))

  whole : n ≤ length (take (length rest - 3) (drop 3 rest)) → Field (get_or rest 0 0) n ≡ tagged_at bytes at
  whole h = rw first (at_field bytes at (omega (arith, size)) (omega (arith, size)) told (omega (arith, body, size)))

pub returns-in-empty : goal.returns-in-empty
returns-in-empty c = grind (arith, common_steps, at-end)

pub returns-in-len1-up : goal.returns-in-len1-up
returns-in-len1-up c = grind (arith, common_steps, at_tag)

pub returns-then-body-from : goal.returns-then-body-from
returns-then-body-from c = cut _ _ _ c.rest_at.ensures c.in-len3-up.len_at_least c.paired-length.ensures (omega arith)

pub returns-else-body-from : goal.returns-else-body-from
returns-else-body-from c = whole _ _ _ c.rest_at.ensures c.in-len3-up.len_at_least c.paired-length.ensures (omega arith)
