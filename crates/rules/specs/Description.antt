-- Document 02, L8, "Larger boards": a board description; why one is refused, in order; the board that an accepted one leaves; and document 01's
-- board, "Our board", which is one description.
use Rattle.std.specs.Prelude.{ℕ, zero, suc, ◌+◌, ◌≤◌, ◌≡◌, Bool, true, false, cond, not, ◌&&◌, ◌||◌, List, [], ◌∷◌, ◌++◌, map, length, get_or, drop, eqb, ltb, leb, Err}
use Rattle.rules.specs.declared.Item.{Item}
use Rattle.rules.specs.Verdict.{Verdict, Accepted}
use Rattle.rules.specs.declared.Fault.TheVariants.{A1, D1, D2, D3, D4, D5, D6}
use Rattle.rules.specs.Table.{Line, ◌gives◌, first_of, any_of, place_of, all_from, table_of}
use Rattle.rules.specs.Bytes.{byte_at, u16_at, field_head}
use Rattle.rules.specs.Board.{Board, r5, armv8, rows, host_limit, row_of, on_board, class_of, home_at, home_of}

pub record Host : Type 0 where
  pub number : ℕ
  pub secure : Bool

pub record Processor : Type 0 where
  pub number : ℕ
  pub class : ℕ
  -- the number of its cluster, 0 for alone
  pub cluster : ℕ

-- what is listed, in order. "Host 0 is always there, counts towards no limit and is not listed"
pub record Description : Type 0 where
  pub hosts : List Host
  pub processors : List Processor

unfoldable pub nothing_listed : Description
nothing_listed = record { hosts = []; processors = [] }

-- document 01's board; of document 02, L4, that "processors 32 and 33 form one cluster" and "the R5 cores stay single"
unfoldable pub our_description : Description
our_description =
    record {
      hosts =
          record { number = 3; secure = true }
          ∷ record { number = 10; secure = true }
          ∷ record { number = 4; secure = false }
          ∷ record { number = 5; secure = false }
          ∷ record { number = 6; secure = false }
          ∷ record { number = 12; secure = false }
          ∷ record { number = 13; secure = false }
          ∷ [];
      processors =
          record { number = 1; class = r5; cluster = 0 }
          ∷ record { number = 2; class = r5; cluster = 0 }
          ∷ record { number = 32; class = armv8; cluster = 1 }
          ∷ record { number = 33; class = armv8; cluster = 1 }
          ∷ [];
    }

-- ---- the items: "tagged fields again, of single bytes"

-- "tag 1 a host (number, 1 secure or 0 not)"
abbrev pub host_tag : ℕ
host_tag = 1

-- "tag 2 a processor (number, class 0 R5 or 1 ARMv8, cluster number, 0 for alone)"
abbrev pub processor_tag : ℕ
processor_tag = 2

-- how many bytes a field of this tag has behind its tag and its two-byte length; 0 where there is no such tag
unfoldable pub body_size : ℕ → ℕ
body_size tag = first_of 0 ((eqb tag host_tag gives 2) ∷ (eqb tag processor_tag gives 3) ∷ [])

-- the bytes begin with a field of a good tag and its length that is not cut
unfoldable pub field_good : List ℕ → Bool
field_good bytes =
    ltb 0 (body_size (byte_at bytes 0))
    && eqb (u16_at bytes 1) (body_size (byte_at bytes 0))
    && leb (field_head + body_size (byte_at bytes 0)) (length bytes)

-- a field that is not good: it has no tag
unfoldable pub no_item : Item
no_item = record { tag = 0; number = 0; mark = 0; cluster = 0 }

-- the item that the bytes begin with; a host has no cluster
unfoldable pub item_in : List ℕ → Item
item_in bytes =
    cond (field_good bytes)
    (record {
      tag = byte_at bytes 0;
      number = byte_at bytes 3;
      mark = byte_at bytes 4;
      cluster = cond (eqb (byte_at bytes 0) processor_tag) (byte_at bytes 5) 0;
    })
    no_item

-- how many bytes the field of an item has
unfoldable pub field_size : Item → ℕ
field_size x = field_head + body_size x.tag

-- the items of the bytes, at most n
unfoldable pub items_from : ℕ → List ℕ → List Item
items_from zero bytes = []
items_from (suc n) bytes =
    cond (eqb (length bytes) 0) [] (item_in bytes ∷ items_from n (drop (field_size (item_in bytes)) bytes))

-- each takes at least one byte, so there are no more than bytes
unfoldable pub items_in : List ℕ → List Item
items_in bytes = items_from (length bytes) bytes

-- ---- why a description is refused

abbrev pub is_host : Item → Bool
is_host x = eqb x.tag host_tag

-- the processor has number p
abbrev pub numbered : ℕ → Processor → Bool
numbered p x = eqb p x.number

unfoldable pub lists_host : Description → ℕ → Bool
lists_host d h = any_of (λ (x : Host). eqb h x.number) d.hosts

unfoldable pub lists_processor : Description → ℕ → Bool
lists_processor d p = any_of (numbered p) d.processors

-- D3: "a repeat of its kind"
unfoldable pub repeats : Description → Item → Bool
repeats d x = cond (is_host x) (lists_host d x.number) (lists_processor d x.number)

-- D5: "a cluster of another class": a cluster number other than 0 that an earlier processor of another class has
unfoldable pub other_class : Description → Item → Bool
other_class d x =
    not (eqb x.cluster 0)
    && any_of (λ (y : Processor). eqb x.cluster y.cluster && not (eqb x.mark y.class)) d.processors

-- D6: "one more than the limit"
unfoldable pub is_full : Description → Item → Bool
is_full d x = cond (is_host x) (leb host_limit (length d.hosts)) (leb rows (length d.processors))

-- D1 to D6 of one item, after what the items before it list. An unknown mark or class is one above 1
unfoldable pub item_table : Description → Item → List (Line Verdict)
item_table d x =
    (eqb x.tag 0 gives Err D1)
    ∷ (eqb x.number 0 gives Err D2)
    ∷ (repeats d x gives Err D3)
    ∷ (ltb 1 x.mark gives Err D4)
    ∷ (other_class d x gives Err D5)
    ∷ (is_full d x gives Err D6)
    ∷ []

-- the host, and the processor, that an item describes
abbrev pub item_host : Item → Host
item_host x = record { number = x.number; secure = eqb x.mark 1 }

abbrev pub item_processor : Item → Processor
item_processor x = record { number = x.number; class = x.mark; cluster = x.cluster }

-- what is listed once an item is read
unfoldable pub with_item : Description → Item → Description
with_item d x =
    cond (is_host x)
    (record { hosts = d.hosts ++ (item_host x ∷ []); processors = d.processors })
    (record { hosts = d.hosts; processors = d.processors ++ (item_processor x ∷ []) })

-- "for each item in turn"; behind a field that is not good nothing counts, since D1 has decided
unfoldable pub items_table : Description → List Item → List (Line Verdict)
items_table d [] = []
items_table d (x ∷ rest) = item_table d x ++ items_table (with_item d x) rest

-- "only before a list, otherwise A1, tested first"; from L1 on, or before a block
unfoldable pub description_table : Bool → List ℕ → List (Line Verdict)
description_table listed bytes = (listed gives Err A1) ∷ items_table nothing_listed (items_in bytes)

unfoldable pub board_verdict : Bool → List ℕ → Verdict
board_verdict listed bytes = first_of Accepted (description_table listed bytes)

-- ---- what a description lists

unfoldable pub with_items : Description → List Item → Description
with_items d [] = d
with_items d (x ∷ rest) = with_items (with_item d x) rest

unfoldable pub description_in : List ℕ → Description
description_in bytes = with_items nothing_listed (items_in bytes)

-- the mark of host h: 2 for secure, 1 for not, 0 where it is not listed
unfoldable pub mark_in : Description → ℕ → ℕ
mark_in d h = first_of 0 (map (λ (x : Host). eqb h x.number gives cond x.secure 2 1) d.hosts)

-- the row of processor p: its place in the list, or the mark for none
unfoldable pub row_in : Description → ℕ → ℕ
row_in d p = cond (lists_processor d p) (place_of (numbered p) d.processors) rows

unfoldable pub class_in : Description → ℕ → ℕ
class_in d row = get_or (map (λ (x : Processor). x.class) d.processors) row r5

-- "only ARMv8 clusters share a control word": the cluster whose word a processor has, 0 for one that has its own
unfoldable pub shared_cluster : Processor → ℕ
shared_cluster x = cond (eqb x.class armv8) x.cluster 0

unfoldable pub shared_in : Description → ℕ → ℕ
shared_in d row = get_or (map shared_cluster d.processors) row 0

-- the home of a control word: the row of the cluster's first processor; that of a processor which shares none is its own row
unfoldable pub home_in : Description → ℕ → ℕ
home_in d row =
    cond (eqb (shared_in d row) 0) row (place_of (λ (x : Processor). eqb (shared_in d row) (shared_cluster x)) d.processors)

-- the listed processors that share a control word: those of one ARMv8 cluster, and each with itself
unfoldable pub share_word : Description → ℕ → ℕ → Bool
share_word d p r =
    eqb p r || not (eqb (shared_in d (row_in d p)) 0) && eqb (shared_in d (row_in d p)) (shared_in d (row_in d r))

-- ---- the board

-- document 02, L2: "a table of 256 numbers that gives the row of each processor byte, or a mark for none"; a test over the whole table
unfoldable pub gives_rows : Description → List ℕ → Bool
gives_rows d table = eqb (length table) 256 && all_from (λ (p row : ℕ). eqb row (row_in d p)) 0 table

-- the tables filled: of 256 host bytes and 256 processor bytes, and of each row
unfoldable pub board_of : Description → Board
board_of d =
    record {
      hosts = table_of (mark_in d) 0 256;
      places = table_of (row_in d) 0 256;
      classes = table_of (class_in d) 0 rows;
      homes = table_of (home_in d) 0 rows;
    }

-- the board that an accepted description leaves
unfoldable pub described : List ℕ → Board
described bytes = board_of (description_in bytes)

-- "until one is taken, 01's board stands"
unfoldable pub ours : Board
ours = board_of our_description

-- and these bytes describe it
abbrev pub our_bytes : List ℕ
our_bytes =
    (1 ∷ 2 ∷ 0 ∷ 3 ∷ 1 ∷ [])
    ++ (1 ∷ 2 ∷ 0 ∷ 10 ∷ 1 ∷ [])
    ++ (1 ∷ 2 ∷ 0 ∷ 4 ∷ 0 ∷ [])
    ++ (1 ∷ 2 ∷ 0 ∷ 5 ∷ 0 ∷ [])
    ++ (1 ∷ 2 ∷ 0 ∷ 6 ∷ 0 ∷ [])
    ++ (1 ∷ 2 ∷ 0 ∷ 12 ∷ 0 ∷ [])
    ++ (1 ∷ 2 ∷ 0 ∷ 13 ∷ 0 ∷ [])
    ++ (2 ∷ 3 ∷ 0 ∷ 1 ∷ 0 ∷ 0 ∷ [])
    ++ (2 ∷ 3 ∷ 0 ∷ 2 ∷ 0 ∷ 0 ∷ [])
    ++ (2 ∷ 3 ∷ 0 ∷ 32 ∷ 1 ∷ 1 ∷ [])
    ++ (2 ∷ 3 ∷ 0 ∷ 33 ∷ 1 ∷ 1 ∷ [])

-- ---- what holds of every such board

-- shown once for any description (`board_good` in proofs/Homes.antt); it does not hold of every content of the tables
pub record Good (b : Board) : Type 0 where
  -- rows are one-to-one: two processors of which one is on the board have one row only if they are one
  pub rows_apart : (p r : ℕ) → row_of b p ≡ row_of b r → on_board b r ≡ true → p ≡ r
  -- processors that share a control word have one class
  pub sharers_class : (p r : ℕ) → on_board b p ≡ true → on_board b r ≡ true → home_of b p ≡ home_of b r → class_of b p ≡ class_of b r
  -- a home is a row, that of the processor or of one before it, and its own home
  pub home_within : (p : ℕ) → on_board b p ≡ true → home_of b p ≤ row_of b p
  pub home_home : (p : ℕ) → on_board b p ≡ true → home_at b (home_of b p) ≡ home_of b p
