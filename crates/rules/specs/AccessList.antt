-- "Access list": 292 bytes, 32 entries of nine bytes each; why a list is refused, in order; the entries that an accepted list leaves; who
-- is permitted. Hosts here are 16-bit numbers and stay so.
use Rattle.std.specs.Prelude.{ℕ, Bool, cond, not, ◌&&◌, ◌||◌, List, [], ◌∷◌, length, set, replicate, eqb, Err}
use Rattle.rules.specs.Verdict.{Verdict, Accepted}
use Rattle.rules.specs.declared.Fault.TheVariants.{A1, A2, A3, A4, A5, A6, A7, A8}
use Rattle.rules.specs.Table.{Line, ◌gives◌, first_of, any_of}
use Rattle.rules.specs.Bytes.{u16_at}
use Rattle.rules.specs.Board.{Board, board_host, active_host, rows, row_of, on_board}
use Rattle.rules.specs.Substructure.{entry_count, magic_in, size_in, parts_from, number_in, used, named_in, in_turn}

-- what an entry says of its processor: the recovery master and three secondaries. A7 keeps master 0 out of a list, so master 0 stands
-- for no entry
pub record Entry : Type 0 where
  pub master : ℕ
  pub first : ℕ
  pub second : ℕ
  pub third : ℕ

unfoldable pub no_entry : Entry
no_entry = record { master = 0; first = 0; second = 0; third = 0 }

-- ---- the list's parts

abbrev pub list_size : ℕ
list_size = 292

abbrev pub entry_size : ℕ
entry_size = 9

-- each entry as its own nine-byte part of the list
abbrev pub parts : List ℕ → List (List ℕ)
parts list = parts_from entry_size list 0 entry_count

abbrev pub processor_in : List ℕ → ℕ
processor_in part = number_in part

abbrev pub master_in : List ℕ → ℕ
master_in part = u16_at part 1

abbrev pub first_in : List ℕ → ℕ
first_in part = u16_at part 3

abbrev pub second_in : List ℕ → ℕ
second_in part = u16_at part 5

abbrev pub third_in : List ℕ → ℕ
third_in part = u16_at part 7

abbrev pub secondaries_in : List ℕ → List ℕ
secondaries_in part = first_in part ∷ second_in part ∷ third_in part ∷ []

-- ---- why a list is refused

-- a secondary that is neither 0 nor a board host; 0 is itself a board host, and as a secondary is unused
abbrev pub bad_secondary : Board → ℕ → Bool
bad_secondary b s = not (board_host b s)

-- A5 to A8 of one entry, after the entries before it
unfoldable pub entry_table : Board → List (List ℕ) → List ℕ → List (Line Verdict)
entry_table b earlier part =
    (used part && not (on_board b (processor_in part)) gives Err A5)
    ∷ (used part && named_in earlier (processor_in part) gives Err A6)
    ∷ (used part && not (active_host b (master_in part)) gives Err A7)
    ∷ (used part && any_of (bad_secondary b) (secondaries_in part) gives Err A8)
    ∷ []

-- A3 and A4, then the entries 0 to 31: what is judged of a list, alone or in a block (document 02, L1)
unfoldable pub content_table : Board → List ℕ → List (Line Verdict)
content_table b list =
    (not (eqb (magic_in list) 0xF1EA) gives Err A3)
    ∷ (not (eqb (size_in list) list_size) gives Err A4)
    ∷ in_turn (entry_table b) [] (parts list)

-- A1, where a list or a block was accepted, and A2 come first
unfoldable pub list_table : Board → Bool → List ℕ → List (Line Verdict)
list_table b listed list = (listed gives Err A1) ∷ (not (eqb (length list) list_size) gives Err A2) ∷ content_table b list

-- the first fault is reported
unfoldable pub verdict_of : Board → Bool → List ℕ → Verdict
verdict_of b listed list = first_of Accepted (list_table b listed list)

-- ---- the entries that an accepted list leaves, by row

unfoldable pub entry_in : List ℕ → Entry
entry_in part =
    record { master = master_in part; first = first_in part; second = second_in part; third = third_in part }

-- a used entry is put at its processor's row
unfoldable pub with_part : Board → List ℕ → List Entry → List Entry
with_part b part entries = cond (used part) (set entries (row_of b (processor_in part)) (entry_in part)) entries

unfoldable pub with_parts : Board → List (List ℕ) → List Entry → List Entry
with_parts b [] entries = entries
with_parts b (part ∷ rest) entries = with_parts b rest (with_part b part entries)

unfoldable pub no_entries : List Entry
no_entries = replicate rows no_entry

unfoldable pub entries_of : Board → List ℕ → List Entry
entries_of b list = with_parts b (parts list) no_entries

-- ---- who is permitted, in document 01's words. Document 02, L5 restates this over the role (specs/Role.antt), and it comes out the same

unfoldable pub has_entry : Entry → Bool
has_entry e = not (eqb e.master 0)

-- without an entry there is no recovery master
unfoldable pub master_by01 : Entry → ℕ → Bool
master_by01 e h = has_entry e && eqb e.master h

-- a secondary of 0 is unused
unfoldable pub secondary_by01 : Entry → ℕ → Bool
secondary_by01 e h = not (eqb h 0) && (eqb e.first h || eqb e.second h || eqb e.third h)

-- with an entry its master and its used secondaries, without one every board host but 0
unfoldable pub permitted_by01 : Board → Entry → ℕ → Bool
permitted_by01 b e h = cond (has_entry e) (master_by01 e h || secondary_by01 e h) (active_host b h)
