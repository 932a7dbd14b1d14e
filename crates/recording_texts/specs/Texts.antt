-- The room that a line needs, and how one is laid over a buffer.
use Rattle.std.specs.Prelude.{ℕ, ◌+◌, ◌≤◌, ◌≡◌, Bool, cond, List, [], ◌++◌, length, take, drop, leb}

-- a text laid over what a buffer held, from place `at` on
abbrev pub laid : List ℕ → ℕ → List ℕ → List ℕ
laid held at text = take at held ++ text ++ drop (at + length text) held

-- the bytes that any line fits in
abbrev pub line_size : ℕ
line_size = 96

-- room for any line
abbrev pub has_room : List ℕ → Bool
has_room line = leb line_size (length line)

-- what is printed of a text: all of it, or nothing
abbrev pub printed : Bool → List ℕ → List ℕ
printed room text = cond room text []

-- a text laid over the start of a line
pub record Printed (line text line' : List ℕ) (n : ℕ) : Type 0 where
  pub count : n ≡ length text
  pub over : line' ≡ laid line 0 text
  pub short : n ≤ line_size
