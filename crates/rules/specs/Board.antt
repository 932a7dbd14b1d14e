-- "Our board", as the board in force: tables of its hosts, of its processors' rows, and by row of their classes and of the homes of their
-- control words; the flag bits that may be named. Document 02, L8, fills them from a description (Description.antt). Any tables are a board.
use Rattle.std.specs.Prelude.{ℕ, ◌%◌, Bool, not, ◌&&◌, ◌||◌, List, [], ◌∷◌, get_or, eqb, ltb}

pub record Board : Type 0 where
  -- by host number: 0 for none, 2 for a secure host, 1 and any other number for one that is not secure
  pub hosts : List ℕ
  -- by processor number: its row; a number that is no row is the mark for none
  pub places : List ℕ
  -- by row: the class of its processor
  pub classes : List ℕ
  -- by row: the home of its control word, the row where that is kept
  pub homes : List ℕ

-- the classes, as places in the table of flag bits
abbrev pub r5 : ℕ
r5 = 0

abbrev pub armv8 : ℕ
armv8 = 1

-- document 02, L8: "raise the limits to 32 processors", each with a row, "and 64 hosts"
abbrev pub rows : ℕ
rows = 32

abbrev pub host_limit : ℕ
host_limit = 64

-- h is a board host; host 0, the management firmware, is on every board
unfoldable pub board_host : Board → ℕ → Bool
board_host b h = eqb h 0 || not (eqb (get_or b.hosts h 0) 0)

-- h is a board host but 0, which is never a sender and never a controller
unfoldable pub active_host : Board → ℕ → Bool
active_host b h = not (eqb h 0) && board_host b h

-- h is a secure host
unfoldable pub secure_host : Board → ℕ → Bool
secure_host b h = not (eqb h 0) && eqb (get_or b.hosts h 0) 2

-- the row of processor p, or the mark for none
unfoldable pub row_of : Board → ℕ → ℕ
row_of b p = get_or b.places p rows

-- p is on the board
unfoldable pub on_board : Board → ℕ → Bool
on_board b p = ltb (row_of b p) rows

-- the class of the processor at a row: there are two, so any number there is one
unfoldable pub class_at : Board → ℕ → ℕ
class_at b row = get_or b.classes row r5 % 2

-- the class of processor p
unfoldable pub class_of : Board → ℕ → ℕ
class_of b p = class_at b (row_of b p)

-- the home of the control word of the processor at a row: any number there is a row. Where there is no row it is 0, and no rule asks for it
unfoldable pub home_at : Board → ℕ → ℕ
home_at b row = get_or b.homes row 0 % rows

unfoldable pub home_of : Board → ℕ → ℕ
home_of b p = home_at b (row_of b p)

-- document 02, L4: two processors on the board share a control word: it has one home
unfoldable pub share_control : Board → ℕ → ℕ → Bool
share_control b p r = eqb (home_of b p) (home_of b r)

-- the words of a record that hold flags, as places in a row of the table of flag bits
abbrev pub config_word : ℕ
config_word = 0

abbrev pub control_word : ℕ
control_word = 1

-- the flag bits that may be named: one table indexed first by class and then by word
abbrev pub masks : List (List ℕ)
masks = (0xFF03 ∷ 0x3 ∷ []) ∷ (0x10F ∷ 0x103 ∷ []) ∷ []

unfoldable pub mask_of : ℕ → ℕ → ℕ
mask_of class word = get_or (get_or masks class []) word 0
