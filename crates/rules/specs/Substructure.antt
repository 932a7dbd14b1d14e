-- A substructure of the security board configuration (source document 001, its header; 004): a magic number, its size in bytes, and then entries
-- of one width. An entry's first byte names the processor or the host that the entry is of, and 0 marks it unused. The access list is one, and the
-- host hierarchy; of the OTP part the header alone is read.
use Rattle.std.specs.Prelude.{ℕ, zero, suc, ◌+◌, ◌*◌, Bool, not, ◌&&◌, List, [], ◌∷◌, ◌++◌, take, drop, eqb}
use Rattle.rules.specs.Verdict.{Verdict}
use Rattle.rules.specs.Table.{Line, any_of}
use Rattle.rules.specs.Bytes.{byte_at, u16_at}

-- the magic and the size have two bytes each; behind them come the entries
abbrev pub head_size : ℕ
head_size = 4

abbrev pub entry_count : ℕ
entry_count = 32

abbrev pub magic_in : List ℕ → ℕ
magic_in bytes = u16_at bytes 0

abbrev pub size_in : List ℕ → ℕ
size_in bytes = u16_at bytes 2

-- entry e as its own part, of so many bytes
abbrev pub part_at : ℕ → List ℕ → ℕ → List ℕ
part_at width bytes e = take width (drop (head_size + width * e) bytes)

-- the first n parts of so many bytes each
unfoldable pub parts_of : ℕ → List ℕ → ℕ → List (List ℕ)
parts_of width bytes zero = []
parts_of width bytes (suc n) = take width bytes ∷ parts_of width (drop width bytes) n

-- n parts from entry e on
abbrev pub parts_from : ℕ → List ℕ → ℕ → ℕ → List (List ℕ)
parts_from width bytes e n = parts_of width (drop (head_size + width * e) bytes) n

abbrev pub number_in : List ℕ → ℕ
number_in part = byte_at part 0

-- number 0 marks an unused entry; its other bytes are not looked at
abbrev pub used : List ℕ → Bool
used part = not (eqb (number_in part) 0)

-- the entry is used and names n
abbrev pub names : ℕ → List ℕ → Bool
names n part = used part && eqb (number_in part) n

-- a used entry of these names n
unfoldable pub named_in : List (List ℕ) → ℕ → Bool
named_in entries n = any_of (names n) entries

-- the lines of each entry in turn, each after the entries before it
unfoldable pub in_turn : (List (List ℕ) → List ℕ → List (Line Verdict)) → List (List ℕ) → List (List ℕ) → List (Line Verdict)
in_turn lines earlier [] = []
in_turn lines earlier (part ∷ rest) = lines earlier part ++ in_turn lines (part ∷ earlier) rest
