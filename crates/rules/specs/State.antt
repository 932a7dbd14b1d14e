-- The state: the board in force (document 02, L8), what was accepted and what stands since then ("Access list"; document 02, L1), and each processor's record
-- ("Our board"), of which the control word may be a cluster's (document 02, L4), with its tallies (L10). A message call sees a `View` of it.
use Rattle.std.specs.Prelude.{ℕ, Bool, true, false, List, [], get_or, set, replicate}
use Rattle.rules.specs.declared.Record.{Record}
use Rattle.rules.specs.declared.Tallies.{Tallies}
use Rattle.rules.specs.Board.{Board, rows, row_of, home_at}
use Rattle.rules.specs.AccessList.{Entry, no_entry, no_entries}
use Rattle.rules.specs.Block.{list_part}
use Rattle.rules.specs.Outcome.{View}
use Rattle.rules.specs.Tally.{no_tallies}

-- what was accepted, with its bytes as they came
pub data Source : Type 0 where
  nothing : Source
  a_list : List ℕ → Source
  a_block : List ℕ → Source

-- a list or a block was accepted
unfoldable pub listed : Source → Bool
listed nothing = false
listed (a_list bytes) = true
listed (a_block bytes) = true

-- the bytes of the list that was accepted, alone or in a block
unfoldable pub list_in : Source → List ℕ
list_in nothing = []
list_in (a_list bytes) = bytes
list_in (a_block bytes) = list_part bytes

-- what an offer sets, and no message changes: the board, what was accepted, and its entries by row
pub record Setup : Type 0 where
  pub board : Board
  pub source : Source
  pub entries : List Entry

-- what a processor has of its own: all of its record but the control word
pub record Own : Type 0 where
  pub controller : ℕ
  pub low : ℕ
  pub high : ℕ
  pub config : ℕ
  pub tallies : Tallies

-- the records as they are kept: by row what is each processor's own, and by home the control words, each once
pub record Records : Type 0 where
  pub own : List Own
  pub controls : List ℕ

-- the set-up, and the records
pub record State : Type 0 where
  pub setup : Setup
  pub records : Records

-- a record taken apart, and put together
abbrev pub own_of : Record → Own
own_of r =
    record { controller = r.controller; low = r.low; high = r.high; config = r.config; tallies = r.tallies }

abbrev pub joined : Own → ℕ → Record
joined own control =
    record {
      controller = own.controller;
      low = own.low;
      high = own.high;
      config = own.config;
      control = control;
      tallies = own.tallies;
    }

-- free and zero
unfoldable pub free_own : Own
free_own = record { controller = 0; low = 0; high = 0; config = 0; tallies = no_tallies }

-- all start free and zero, on this board, and nothing is accepted
unfoldable pub fresh : Board → State
fresh b =
    record {
      setup = record { board = b; source = nothing; entries = no_entries };
      records = record { own = replicate rows free_own; controls = replicate rows 0 };
    }

unfoldable pub entry_of : Setup → ℕ → Entry
entry_of setup p = get_or setup.entries (row_of setup.board p) no_entry

-- the record of the processor at a row, as a status shows it: what is its own, and the control word at its home
unfoldable pub record_in : Board → Records → ℕ → Record
record_in b rs row = joined (get_or rs.own row free_own) (get_or rs.controls (home_at b row) 0)

unfoldable pub record_of : State → ℕ → Record
record_of s p = record_in s.setup.board s.records (row_of s.setup.board p)

-- what a message about processor p sees
unfoldable pub view_of : State → ℕ → View
view_of s p =
    record {
      board = s.setup.board;
      listed = listed s.setup.source;
      entry = entry_of s.setup p;
      state = record_of s p;
    }

-- a record put where that of the processor at a row is kept, the control word at its home
unfoldable pub put_in : Board → Records → ℕ → Record → Records
put_in b rs row r =
    record { own = set rs.own row (own_of r); controls = set rs.controls (home_at b row) r.control }

-- and of processor p: the only store
unfoldable pub stored : State → ℕ → Record → State
stored s p r =
    record { setup = s.setup; records = put_in s.setup.board s.records (row_of s.setup.board p) r }
