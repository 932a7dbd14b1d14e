-- "Operands (N8)" and "Effect of OK", what they say of set words and clear words: the operand rules of the two set messages and what
-- they store, once for every class and word.
use Rattle.std.specs.Prelude.{ℕ, ◌-◌, ◌%◌, Bool, not, cond, ◌&&◌, ◌||◌, eqb}
use Rattle.std.specs.Int.Bits.{bit_and, bit_or}
use Rattle.rules.specs.Bytes.{has_bit}
use Rattle.rules.specs.Board.{r5, config_word, mask_of}

-- each bit of x is in the mask
abbrev pub within : ℕ → ℕ → Bool
within mask x = eqb (bit_and x mask) x

-- bit 28 of config's clear word: the vector fields are neither checked nor stored
abbrev pub keeps_vector : ℕ → Bool
keeps_vector clear = has_bit 28 clear

-- the bits that a clear word may name: the mask, and for config bit 28 too
abbrev pub clear_mask_of : ℕ → ℕ → ℕ
clear_mask_of class word = cond (eqb word config_word) (bit_or (mask_of class word) 0x10000000) (mask_of class word)

-- set words and clear words: each bit in the class mask, no bit in both
abbrev pub flags_good : ℕ → ℕ → ℕ → ℕ → Bool
flags_good class word set clear =
    within (mask_of class word) set && within (clear_mask_of class word) clear && eqb (bit_and set clear) 0

-- an R5 vector has bits 6 to 0 zero
abbrev pub vector_good : ℕ → ℕ → Bool
vector_good class low = not (eqb class r5) || eqb (low % 128) 0

-- the flags of set config, and its vector unless bit 28 is named
abbrev pub config_good : ℕ → ℕ → ℕ → ℕ → Bool
config_good class low set clear = flags_good class config_word set clear && (keeps_vector clear || vector_good class low)

-- the old word with the set bits added and the clear bits removed
abbrev pub new_word : ℕ → ℕ → ℕ → ℕ
new_word old set clear = bit_and (bit_or old set) (4294967295 - clear)
