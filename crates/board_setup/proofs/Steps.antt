-- Laws of a board that gets one item more: each table changes at one place, and so does the memory. The item has no fault.
use Prim.Native.Nat.{ℕ, zero, suc, ◌+◌, ◌≤◌, ◌<◌}
use native.Mathlib.Omega.{arith}
use mathlib.Core.Path.{◌≡◌, refl, sym, ap, ◌∙◌}
use mathlib.Core.Bool.{Bool, true, false, cond, ◌||◌, or-false}
use mathlib.Core.List.{List, [], ◌∷◌, ◌++◌, map}
use mathlib.Core.Logic.{⊎_elim}
use lib.ListN.{length, get_or}
use lib.Dec.{eqb}
use borrow.Author.Tests.{eq-eqb, ne_eqb, leb-false}
use Rattle.rules.specs.declared.Item.{Item}
use Rattle.rules.specs.Table.{◌gives◌, first_of, any_of, place_of}
use Rattle.rules.specs.Board.{rows}
use Rattle.rules.specs.Description.{Host, Processor, Description, is_host, numbered, lists_host, lists_processor, repeats, is_full, with_item, mark_in, row_in, class_in, shared_cluster, shared_in, home_in, board_of, item_processor, item_host}
use Rattle.rules.proofs.Tests.{decide, clash, or_left, or_right, or_false_left, cond-true, cond-false}
use Rattle.board.specs.Memory.{board_bytes, with_host_mark, with_processor_at}
use Rattle.board.proofs.Extents.{board_sized}
use Rattle.board.proofs.Stores.{host_stored, processor_stored}
use Rattle.board_description.proofs.EarlierItems.{any_last}
use Rattle.board_setup.specs.Setup.{put_item}
use Rattle.board_setup.proofs.Lists.{place_kept, place_first, get_or-last, get_or-before, table_put}

-- ---- one host more

-- the line of a host in the table of marks
abbrev mark_of : Host → ℕ
mark_of x = cond x.secure 2 1

module _ (h : ℕ) where
  -- the new host's line is read last
  mark_last : (other : ℕ) (xs : List Host) (y : Host)
      → first_of other (map (λ (x : Host). eqb h x.number gives mark_of x) (xs ++ (y ∷ [])))
      ≡ first_of (cond (eqb h y.number) (mark_of y) other) (map (λ (x : Host). eqb h x.number gives mark_of x) xs)
  unfolding first_of
  mark_last other [] y = refl
  mark_last other (x ∷ xs) y = ap (cond (eqb h x.number) (mark_of x)) (mark_last other xs y)

  -- a host that is not listed has no line
  mark_none : (other : ℕ) (xs : List Host) → any_of (λ (x : Host). eqb h x.number) xs ≡ false
      → first_of other (map (λ (x : Host). eqb h x.number gives mark_of x) xs) ≡ other
  unfolding first_of any_of
  mark_none other [] none = refl
  mark_none other (x ∷ xs) none =
      let f = or_false_left (eqb h x.number) _ none in
      rw f (mark_none other xs (rw f at none))

mark_number : (m : ℕ) → m ≤ 1 → cond (eqb m 1) 2 1 ≡ 1 + m
mark_number zero h = refl
mark_number (suc zero) h = refl
mark_number (suc (suc m)) h = absurd (omega arith)

module _ (d : Description) (x : Item) where
  abbrev with_host : Description
  with_host = record { hosts = d.hosts ++ (item_host x ∷ []); processors = d.processors }

  abbrev with_processor : Description
  with_processor = record { hosts = d.hosts; processors = d.processors ++ (item_processor x ∷ []) }

  mark_here : lists_host d x.number ≡ false → x.mark ≤ 1 → mark_in with_host x.number ≡ 1 + x.mark
  unfolding mark_in lists_host
  mark_here new few =
      mark_last x.number 0 d.hosts _
      ∙ mark_none x.number _ d.hosts new
      ∙ cond-true _ _ (eq-eqb x.number x.number refl)
      ∙ mark_number x.mark few

  mark_there : (h : ℕ) → (h ≡ x.number → ⊥) → mark_in with_host h ≡ mark_in d h
  unfolding mark_in
  mark_there h other = mark_last h 0 d.hosts _ ∙ rw (ne_eqb h x.number other)

  -- the memory of the board with one host more
  host_step : x.number < 256 → lists_host d x.number ≡ false → x.mark ≤ 1
      → with_host_mark (board_bytes (board_of d)) x.number (1 + x.mark) ≡ board_bytes (board_of with_host)
  unfolding board_of row_in lists_processor class_in home_in shared_in
  host_step byte new few =
      let put = table_put (mark_in d) (mark_in with_host) (1 + x.mark) 256 x.number (mark_here new few) mark_there in
      host_stored (board_of d) (board_sized d) x.number (1 + x.mark) byte
      ∙ (λ t. board_bytes (record { hosts = put t; places = (board_of d).places; classes = (board_of d).classes; homes = (board_of d).homes }))

-- ---- one processor more

-- where some processor has a cluster's word, that cluster is found
shared_some : (xs : List Processor) (row s : ℕ) → get_or (map shared_cluster xs) row 0 ≡ s → eqb s 0 ≡ false
    → any_of (λ (y : Processor). eqb s (shared_cluster y)) xs ≡ true
unfolding any_of
shared_some [] row s is some = clash (eq-eqb s 0 (sym is)) some
shared_some (x ∷ xs) zero s is some = or_left _ (eq-eqb s (shared_cluster x) (sym is))
shared_some (x ∷ xs) (suc row) s is some = or_right (eqb s (shared_cluster x)) (shared_some xs row s is some)

module _ (d : Description) (x : Item) where
  row_here : lists_processor d x.number ≡ false → row_in (with_processor d x) x.number ≡ length d.processors
  unfolding row_in lists_processor
  row_here new =
      cond-true _ _
      (any_last (numbered x.number) d.processors (item_processor x)
      ∙ or_right (any_of (numbered x.number) d.processors) (eq-eqb x.number x.number refl))
      ∙ place_first (numbered x.number) d.processors (item_processor x) [] new (eq-eqb x.number x.number refl)

  row_there : (p : ℕ) → (p ≡ x.number → ⊥) → row_in (with_processor d x) p ≡ row_in d p
  unfolding row_in lists_processor
  row_there p other =
      let same : any_of (numbered p) (d.processors ++ (item_processor x ∷ [])) ≡ any_of (numbered p) d.processors =
      any_last (numbered p) d.processors (item_processor x)
      ∙ ap (λ (b : Bool). any_of (numbered p) d.processors || b) (ne_eqb p x.number other)
      ∙ or-false _
      in
      ⊎_elim
      (λ (t : any_of (numbered p) d.processors ≡ true).
      rw (same, t) (place_kept (numbered p) d.processors (item_processor x ∷ []) t))
      (λ (f : any_of (numbered p) d.processors ≡ false). rw (same, f))
      (decide (any_of (numbered p) d.processors))

  class_here : class_in (with_processor d x) (length d.processors) ≡ x.mark
  unfolding class_in
  class_here = get_or-last (λ (y : Processor). y.class) 0 d.processors (item_processor x)

  class_there : (row : ℕ) → (row ≡ length d.processors → ⊥) → class_in (with_processor d x) row ≡ class_in d row
  unfolding class_in
  class_there row other = get_or-before (λ (y : Processor). y.class) 0 d.processors (item_processor x) row other

  shared_here : shared_in (with_processor d x) (length d.processors) ≡ shared_cluster (item_processor x)
  unfolding shared_in
  shared_here = get_or-last shared_cluster 0 d.processors (item_processor x)

  shared_there : (row : ℕ) → (row ≡ length d.processors → ⊥) → shared_in (with_processor d x) row ≡ shared_in d row
  unfolding shared_in
  shared_there row other = get_or-before shared_cluster 0 d.processors (item_processor x) row other

  -- the home of a row, by the cluster whose word it has
  abbrev home_by : List Processor → ℕ → ℕ → ℕ
  home_by xs row c = cond (eqb c 0) row (place_of (λ (y : Processor). eqb c (shared_cluster y)) xs)

  home_there : (row : ℕ) → (row ≡ length d.processors → ⊥) → home_in (with_processor d x) row ≡ home_in d row
  unfolding home_in shared_in
  home_there row other =
      ap (home_by (d.processors ++ (item_processor x ∷ [])) row) (shared_there row other)
      ∙ ⊎_elim
      (λ (alone : eqb (shared_in d row) 0 ≡ true). rw alone)
      (λ (some : eqb (shared_in d row) 0 ≡ false).
      rw some
      (place_kept _ d.processors (item_processor x ∷ []) (shared_some d.processors row (shared_in d row) refl some)))
      (decide (eqb (shared_in d row) 0))

  -- the home of the new processor's row
  pub home_here : home_in (with_processor d x) (length d.processors)
      ≡ home_by (d.processors ++ (item_processor x ∷ [])) (length d.processors) (shared_cluster (item_processor x))
  unfolding home_in
  home_here = ap (home_by (d.processors ++ (item_processor x ∷ [])) (length d.processors)) shared_here

  -- the memory of the board with one processor more
  processor_step : (row : ℕ) → row ≡ length d.processors → x.number < 256 → lists_processor d x.number ≡ false → row < rows
      → with_processor_at (board_bytes (board_of d)) x.number row x.mark (home_in (with_processor d x) row)
      ≡ board_bytes (board_of (with_processor d x))
  unfolding board_of mark_in
  processor_step row last byte new room =
      let with = with_processor d x in
      let put-row = table_put (row_in d) (row_in with) row 256 x.number (row_here new ∙ sym last) row_there in
      let put-class =
      table_put (class_in d) (class_in with) x.mark rows row (ap (class_in with) last ∙ class_here)
      (λ k other. class_there k (λ same. other (same ∙ sym last)))
      in
      let put-home =
      table_put (home_in d) (home_in with) (home_in with row) rows row refl (λ k other. home_there k (λ same. other (same ∙ sym last)))
      in
      processor_stored (board_of d) (board_sized d) x.number row x.mark (home_in with row) byte room
      ∙ (λ t. board_bytes (record { hosts = (board_of d).hosts; places = put-row t; classes = put-class t; homes = put-home t }))

-- ---- one item more

module _ (d : Description) (x : Item) where
  is_host_lem : is_host x ≡ true → with_item d x ≡ with_host d x
  unfolding with_item
  is_host_lem t = cond-true _ _ t

  pub is_processor : is_host x ≡ false → with_item d x ≡ with_processor d x
  unfolding with_item
  is_processor f = cond-false _ _ f

  -- the memory of the board with one item more, which has a byte's number, is no repeat, has a known mark and finds room
  pub put_step : (row : ℕ) → row ≡ length d.processors → x.number < 256 → repeats d x ≡ false → x.mark ≤ 1
      → (is_host x ≡ false → row < rows)
      → put_item (board_bytes (board_of d)) d x row ≡ board_bytes (board_of (with_item d x))
  unfolding put_item repeats
  put_step row last byte new few room =
      ⊎_elim
      (λ (t : is_host x ≡ true).
      cond-true _ _ t
      ∙ host_step d x byte (sym (cond-true _ _ t) ∙ new) few
      ∙ ap (λ (e : Description). board_bytes (board_of e)) (sym (is_host_lem t)))
      (λ (f : is_host x ≡ false).
      cond-false _ _ f
      ∙ ap (λ (e : Description). with_processor_at (board_bytes (board_of d)) x.number row x.mark (home_in e row)) (is_processor f)
      ∙ processor_step d x row last byte (sym (cond-false _ _ f) ∙ new) (room f)
      ∙ ap (λ (e : Description). board_bytes (board_of e)) (sym (is_processor f)))
      (decide (is_host x))

  -- there is room for it where it is not one more than the limit
  pub room_found : is_full d x ≡ false → is_host x ≡ false → length d.processors < rows
  unfolding is_full
  room_found room f = leb-false rows (length d.processors) (sym (cond-false _ _ f) ∙ room)
