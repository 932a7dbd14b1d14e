-- Tagged fields: a one-byte tag, a two-byte little-endian length, and the body. What stands at a place of bytes, whatever the tag.
use Rattle.std.specs.Prelude.{ℕ, ◌+◌, ◌-◌, List, [], ◌∷◌, length, leb, ltb}
use Rattle.rules.specs.Table.{◌gives◌, first_of}
use Rattle.rules.specs.Bytes.{byte_at, u16_at, field_head}
use Rattle.wire.specs.declared.tagged.Tagged.{Tagged}
use Rattle.wire.specs.declared.tagged.Tagged.TheVariants.{End, Tag, Head, Field}

-- the length that a field at place `at` says
abbrev pub length_at : List ℕ → ℕ → ℕ
length_at bytes at = u16_at bytes (at + 1)

-- what stands at place `at`: nothing, a tag, a tag and a length, or a whole field, whose body starts three bytes on
unfoldable pub tagged_at : List ℕ → ℕ → Tagged
tagged_at bytes at =
    first_of (Field (byte_at bytes at) (length_at bytes at))
    ((leb (length bytes) at gives End)
    ∷ (ltb (length bytes - at) field_head gives Tag (byte_at bytes at))
    ∷ (ltb (length bytes - at - field_head) (length_at bytes at) gives Head (byte_at bytes at) (length_at bytes at))
    ∷ [])
