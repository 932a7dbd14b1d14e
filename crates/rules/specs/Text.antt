-- What a session prints, as ASCII: numbers, the names of outcomes and verdicts, and an answer ("Session recordings"; of blocks and board descriptions
-- document 02, L1 and L8).
use Rattle.std.specs.Prelude.{ℕ, zero, suc, ◌+◌, ◌-◌, ◌/◌, ◌%◌, cond, List, [], ◌∷◌, ◌++◌, length, eqb, ltb}
use Prim.Native.Char.{code}
use Prim.Native.String.{String}
use Prim.Native.String as text

-- a text's characters as bytes
abbrev pub ascii : String → List ℕ
ascii text.[] = []
ascii (text.◌∷◌ c rest) = code c ∷ ascii rest

-- ---- numbers

-- the decimal digits of a number, of at most k
unfoldable pub decimal_in : ℕ → ℕ → List ℕ
decimal_in zero n = []
decimal_in (suc k) n = cond (ltb n 10) ((48 + n) ∷ []) (decimal_in k (n / 10) ++ ((48 + n % 10) ∷ []))

-- ten are enough for 32 bits
abbrev pub decimal_of : ℕ → List ℕ
decimal_of n = decimal_in 10 n

-- a hexadecimal digit, in lower case
abbrev pub glyph : ℕ → ℕ
glyph d = cond (ltb d 10) (48 + d) (87 + d)

-- bytes in hexadecimal, high digit first
unfoldable pub hex_of : List ℕ → List ℕ
hex_of [] = []
hex_of (b ∷ bytes) = glyph (b / 16) ∷ glyph (b % 16) ∷ hex_of bytes

-- ---- the name of an outcome, by its number: OK, or N and R with their number

abbrev pub outcome_name : ℕ → List ℕ
outcome_name number =
    cond (eqb number 0) (ascii "OK")
    (cond (ltb number 100) (ascii "N" ++ ((48 + number) ∷ [])) (ascii "R" ++ ((number - 52) ∷ [])))

-- ---- the name of a verdict, by its number

abbrev pub verdict_letter : ℕ → ℕ
verdict_letter number = cond (ltb number 100) (code "A") (cond (ltb number 200) (code "B") (code "D"))

-- OK, or the letter with the number behind it
abbrev pub verdict_name : ℕ → List ℕ
verdict_name number = cond (eqb number 0) (ascii "OK") (verdict_letter number ∷ decimal_of (number % 100))

-- with B8 the loop's host follows, behind a space
abbrev pub host_text : ℕ → ℕ → List ℕ
host_text number host = cond (eqb number 108) (ascii " " ++ decimal_of host) []

-- the whole, to the end of the line
abbrev pub verdict_line : ℕ → ℕ → List ℕ
verdict_line number host = verdict_name number ++ (host_text number host ++ ascii "\n")

-- ---- an answer: in hex, or - where nothing was written

unfoldable pub answer_text : List ℕ → List ℕ
answer_text bytes = cond (eqb (length bytes) 0) (ascii "-") (hex_of bytes)
