-- Little-endian fields, packed, as the list and the messages have them. A byte past the end reads as 0, so that every definition is
-- total; no rule looks there.
use Rattle.std.specs.Prelude.{ℕ, ◌+◌, ◌*◌, ◌/◌, ◌%◌, ◌^◌, Bool, cond, List, [], ◌∷◌, length, get_or, eqb, leb}
use Rattle.std.proofs.lemmas.List.Edits.{sets}

-- the byte at place i
abbrev pub byte_at : List ℕ → ℕ → ℕ
byte_at bytes i = get_or bytes i 0

-- the 16-bit number at place i
abbrev pub u16_at : List ℕ → ℕ → ℕ
u16_at bytes i = byte_at bytes i + 256 * byte_at bytes (i + 1)

-- the 32-bit number at place i
abbrev pub u32_at : List ℕ → ℕ → ℕ
u32_at bytes i =
    byte_at bytes i + 256 * byte_at bytes (i + 1) + 65536 * byte_at bytes (i + 2) + 16777216 * byte_at bytes (i + 3)

-- the four bytes of a 32-bit number
abbrev pub u32_bytes : ℕ → List ℕ
u32_bytes x = x % 256 ∷ x / 256 % 256 ∷ x / 65536 % 256 ∷ x / 16777216 % 256 ∷ []

-- bytes with a 32-bit number at place i; where its four bytes do not fit there, they are as they were
unfoldable pub with_u32 : List ℕ → ℕ → ℕ → List ℕ
with_u32 bytes i x = cond (leb (i + 4) (length bytes)) (sets bytes i (u32_bytes x)) bytes

-- bit k of x, 0 or 1
abbrev pub bit_of : ℕ → ℕ → ℕ
bit_of k x = x / 2 ^ k % 2

-- bit k of x is 1
abbrev pub has_bit : ℕ → ℕ → Bool
has_bit k x = eqb (bit_of k x) 1

-- tagged fields, as recordings and board descriptions have them: one-byte tag, two-byte little-endian length, bytes. How many stand before the body
abbrev pub field_head : ℕ
field_head = 3
