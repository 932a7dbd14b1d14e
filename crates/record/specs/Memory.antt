-- The record memory, 288 words of 32 bits: each of 32 rows has eight words, the controller (0 for none), vector low and high, config, and the four
-- tallies; then there is a control word for each home. With board and access memory it holds the rules' state, whatever the content.
use Rattle.std.specs.Prelude.{ℕ, ◌+◌, ◌*◌, cond, List, [], ◌∷◌, get_or, set, ltb}
use Rattle.std.proofs.lemmas.List.Edits.{sets}
use Rattle.rules.specs.declared.Record.{Record}
use Rattle.rules.specs.Table.{table_of}
use Rattle.rules.specs.Board.{Board, rows, home_at}
use Rattle.rules.specs.Outcome.{View}
use Rattle.rules.specs.State.{Own, Records, State, own_of, record_in}
use Rattle.board.specs.Memory.{board_in}
use Rattle.access.specs.Memory.{setup_in, kept_setup, view_with}

-- how many words there are
abbrev pub record_size : ℕ
record_size = 288

-- the place of a row's first word
abbrev pub record_place : ℕ → ℕ
record_place row = 8 * row

-- what is a processor's own, by its words in their order
abbrev pub own_by : (ℕ → ℕ) → Own
own_by word =
    record {
      controller = word 0;
      low = word 1;
      high = word 2;
      config = word 3;
      tallies = record { grants = word 4; overrides = word 5; handovers = word 6; releases = word 7 };
    }

-- those words
abbrev pub own_words : Own → List ℕ
own_words o =
    o.controller
    ∷ o.low
    ∷ o.high
    ∷ o.config
    ∷ o.tallies.grants
    ∷ o.tallies.overrides
    ∷ o.tallies.handovers
    ∷ o.tallies.releases
    ∷ []

-- what the processor at a row has of its own
abbrev pub own_at : List ℕ → ℕ → Own
own_at m row = own_by (λ (j : ℕ). get_or m (record_place row + j) 0)

-- the place of the control word that is kept at a home, and the word
abbrev pub control_place : ℕ → ℕ
control_place home = 256 + home

abbrev pub control_at : List ℕ → ℕ → ℕ
control_at m home = get_or m (control_place home) 0

unfoldable pub records_in : List ℕ → Records
records_in m = record { own = table_of (own_at m) 0 rows; controls = table_of (control_at m) 0 rows }

-- the record of the processor at a row of a board, with the control word of its home
abbrev pub record_at : Board → List ℕ → ℕ → Record
record_at b m row = record_in b (records_in m) row

-- the rules' state on a board, read out of the two lent memories
unfoldable pub state_in : Board → List ℕ → List ℕ → State
state_in b access records = record { setup = setup_in b access; records = records_in records }

-- the board memory, the access memory and the record memory as they are lent, and the rules' state that they hold
pub record Memories : Type 0 where
  pub board : List ℕ
  pub access : List ℕ
  pub records : List ℕ

abbrev pub memories : List ℕ → List ℕ → List ℕ → Memories
memories board access records = record { board = board; access = access; records = records }

abbrev pub state_of : Memories → State
state_of m = state_in (board_in m.board) m.access m.records

-- what the memories keep of a state: all but the bytes of the accepted list
unfoldable pub kept : State → State
kept s = record { setup = kept_setup s.setup; records = s.records }

-- what a message about the processor at a row sees of it
unfoldable pub view_in : Board → List ℕ → List ℕ → ℕ → View
view_in b access records row = view_with b access row (record_at b records row)

-- the record memory with what is a processor's own put at its row; a row that is not there is left alone
unfoldable pub with_own : List ℕ → ℕ → Own → List ℕ
with_own m row own = cond (ltb row rows) (sets m (record_place row) (own_words own)) m

-- with a control word put at a home
abbrev pub with_control_word : List ℕ → ℕ → ℕ → List ℕ
with_control_word m home word = set m (control_place home) word

-- and with a whole record
unfoldable pub with_record : Board → List ℕ → ℕ → Record → List ℕ
with_record b m row r = with_control_word (with_own m row (own_of r)) (home_at b row) r.control
