-- The text of a verdict, which goes to the end of the line, in a buffer of its own.
use Rattle.std.specs.Prelude.{ℕ, ◌-◌, List, ◌++◌, length, replicate}
use Rattle.rules.specs.Text.{verdict_line}

-- that of B8
abbrev pub loop_line : ℕ → List ℕ
loop_line host = verdict_line 108 host

-- the bytes that the text of any verdict fits in
abbrev pub text_size : ℕ
text_size = 8

-- a text in them, zeros behind it
abbrev pub padded : List ℕ → List ℕ
padded text = text ++ replicate (text_size - length text) 0
