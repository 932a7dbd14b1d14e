-- The laws of the lent memory: a record that was stored is read back, at its row and at no other, and its control word at its home and at
-- no other; what a call sees of the processor that it names is what stands at its row and home. For any board.
use Prim.Native.Nat.{ℕ, zero, suc, ◌+◌, ◌*◌, ◌≤◌, ◌<◌, suc-le-suc}
use mathlib.Core.Path.{◌≡◌, refl, sym, subst⁻¹, ap, ap₂, ◌∙◌}
use mathlib.Core.List.{List, [], ◌∷◌}
use mathlib.Core.Logic.{◌⊎◌, inl, inr, ⊎_elim}
use native.Mathlib.Nat.{add-zero, add-suc, suc-add, zero-add, not-suc-le-zero, le_of_suc-le-suc}
use native.Mathlib.Omega.{arith}
use lib.ListN.{length, get_or, set, replicate, length-set, get_or-eq_default}
use lib.Seq.{sets, length-sets, set-get_or, get_or-set_same, get_or-set_other, set_out}
use lib.Dec.{ltb, lit≤}
use borrow.Author.Tests.{lt-ltb, le-ltb, ltb-true, ltb-false}
use Rattle.rules.specs.declared.Record.{Record}
use Rattle.rules.specs.Table.{table_of}
use Rattle.rules.specs.Board.{Board, rows, row_of, home_at}
use Rattle.rules.specs.AccessList.{no_entry, no_entries}
use Rattle.rules.specs.Tally.{no_tallies}
use Rattle.rules.specs.State.{Own, Records, own_of, joined, free_own, fresh, entry_of, record_in, record_of, view_of, put_in}
use Rattle.rules.proofs.Tests.{decide, cond-true, cond-false}
use Rattle.rules.proofs.Tables.{table_length, table_here, table_past, table_below, table_set}
use Rattle.rules.proofs.Homes.{home_small}
use Rattle.access.specs.Memory.{access_size, listed_in, entry_at, entries_in, some_list, setup_in}
use Rattle.access.proofs.Kept.{listed-some}
use Rattle.record.specs.Memory.{record_size, own_by, own_words, own_at, control_place, control_at, record_at, records_in, state_in, view_in, with_own, with_control_word, with_record}

-- ---- several words stored in a row

-- words at other places stay
sets-other : (vs l : List ℕ) (i k : ℕ) → (k < i) ⊎ (i + length vs ≤ k) → get_or (sets l i vs) k 0 ≡ get_or l k 0
sets-other [] l i k out = refl
sets-other (v ∷ vs) l i k out =
    sets-other vs (set l i v) (suc i) k (⊎_elim (λ h. inl (omega arith)) (λ h. inr (omega arith)) out)
    ∙ get_or-set_other l i k v 0 (⊎_elim (λ h e. omega arith) (λ h e. omega arith) out)

sets-at : (vs l : List ℕ) (i j : ℕ) → i + length vs ≤ length l → j < length vs → get_or (sets l i vs) (i + j) 0 ≡ get_or vs j 0
sets-at [] l i j fits h = absurd (not-suc-le-zero h)
sets-at (v ∷ vs) l i zero fits h =
    sets-other vs (set l i v) (suc i) (i + 0) (inl (omega arith))
    ∙ ap (λ (k : ℕ). get_or (set l i v) k 0) (add-zero i)
    ∙ get_or-set_same l i v 0 (omega arith)
sets-at (v ∷ vs) l i (suc j) fits h =
    ap (λ (k : ℕ). get_or (sets (set l i v) (suc i) vs) k 0) (add-suc i j ∙ sym (suc-add i j))
    ∙ sets-at vs (set l i v) (suc i) j (simp length-set (omega arith)) (le_of_suc-le-suc h)

-- ---- words that stand

-- these words stand in l from place i on
abbrev pub Stand : List ℕ → List ℕ → ℕ → Type 0
Stand vs l i = (j : ℕ) → j < length vs → get_or vs j 0 ≡ get_or l (i + j) 0

-- the first put where it stands changes nothing, and the others stand one place on, also where the first is another
module _ (v : ℕ) (vs l : List ℕ) (i : ℕ) (stand : Stand (v ∷ vs) l i) where
  put_first : set l i v ≡ l
  put_first = ap (set l i) (stand 0 (omega arith) ∙ ap (λ (k : ℕ). get_or l k 0) (add-zero i)) ∙ set-get_or l i 0

  pub stand_on : (w : ℕ) → Stand vs (set l i w) (suc i)
  stand_on w j h =
      stand (suc j) (suc-le-suc h)
      ∙ ap (λ (k : ℕ). get_or l k 0) (add-suc i j ∙ sym (suc-add i j))
      ∙ sym (get_or-set_other l i (suc i + j) w 0 (λ e. omega arith))

-- so words put where they stand change nothing, and one of them changed is one word put there
pub sets_same : (vs l : List ℕ) (i : ℕ) → Stand vs l i → sets l i vs ≡ l
sets_same [] l i stand = refl
sets_same (v ∷ vs) l i stand =
    sets_same vs (set l i v) (suc i) (stand_on v vs l i stand v) ∙ put_first v vs l i stand

pub one_put : (vs l : List ℕ) (i j w : ℕ) → Stand vs l i → j < length vs → sets l i (set vs j w) ≡ set l (i + j) w
one_put [] l i j w stand h = absurd (not-suc-le-zero h)
one_put (v ∷ vs) l i zero w stand h =
    sets_same vs (set l i w) (suc i) (stand_on v vs l i stand w) ∙ ap (λ (k : ℕ). set l k w) (sym (add-zero i))
one_put (v ∷ vs) l i (suc j) w stand h =
    one_put vs (set l i v) (suc i) j w (stand_on v vs l i stand v) (le_of_suc-le-suc h)
    ∙ ap (λ (m : List ℕ). set m (suc i + j) w) (put_first v vs l i stand)
    ∙ ap (λ (k : ℕ). set l k w) (suc-add i j ∙ sym (add-suc i j))

-- ---- what is a processor's own, stored at its row

-- it is the same where its words are
own_alike : (f g : ℕ → ℕ) → ((j : ℕ) → j < 8 → f j ≡ g j) → own_by f ≡ own_by g
own_alike f g same =
    λ t.
    record {
      controller = same 0 (lit≤ tt) t;
      low = same 1 (lit≤ tt) t;
      high = same 2 (lit≤ tt) t;
      config = same 3 (lit≤ tt) t;
      tallies = record {
        grants = same 4 (lit≤ tt) t;
        overrides = same 5 (lit≤ tt) t;
        handovers = same 6 (lit≤ tt) t;
        releases = same 7 (lit≤ tt) t;
      };
    }

pub word_by : (f : ℕ → ℕ) (j : ℕ) → j < 8 → get_or (own_words (own_by f)) j 0 ≡ f j
word_by f zero h = refl
word_by f (suc zero) h = refl
word_by f (suc (suc zero)) h = refl
word_by f (suc (suc (suc zero))) h = refl
word_by f (suc (suc (suc (suc zero)))) h = refl
word_by f (suc (suc (suc (suc (suc zero))))) h = refl
word_by f (suc (suc (suc (suc (suc (suc zero)))))) h = refl
word_by f (suc (suc (suc (suc (suc (suc (suc zero))))))) h = refl
word_by f (suc (suc (suc (suc (suc (suc (suc (suc j)))))))) h = absurd (omega arith)

pub own_is : (m : List ℕ) (row : ℕ) (o : Own) → row < rows → with_own m row o ≡ sets m (8 * row) (own_words o)
unfolding with_own
own_is m row o h = cond-true _ m (lt-ltb row rows h)

pub own_none : (m : List ℕ) (row : ℕ) (o : Own) → rows ≤ row → with_own m row o ≡ m
unfolding with_own
own_none m row o past = cond-false _ m (le-ltb row rows past)

own_length : (m : List ℕ) (row : ℕ) (o : Own) → length (with_own m row o) ≡ length m
own_length m row o =
    ⊎_elim (λ t. ap length (own_is m row o (ltb-true row rows t)) ∙ length-sets m (8 * row) (own_words o))
    (λ f. ap length (own_none m row o (ltb-false row rows f)))
    (decide (ltb row rows))

-- a word before them or behind them stays
own_beside : (m : List ℕ) (row : ℕ) (o : Own) (k : ℕ) → (k < 8 * row) ⊎ (8 * row + 8 ≤ k) → get_or (with_own m row o) k 0 ≡ get_or m k 0
own_beside m row o k out =
    ⊎_elim
    (λ t. ap (λ (l : List ℕ). get_or l k 0) (own_is m row o (ltb-true _ _ t)) ∙ sets-other (own_words o) m (8 * row) k out)
    (λ f. ap (λ (l : List ℕ). get_or l k 0) (own_none m row o (ltb-false _ _ f)))
    (decide (ltb row rows))

-- the control words stand behind all rows
own_keeps_control : (m : List ℕ) (row : ℕ) (o : Own) (home : ℕ) → control_at (with_own m row o) home ≡ control_at m home
own_keeps_control m row o home =
    ⊎_elim (λ t. own_beside m row o (control_place home) (inr (let q = ltb-true row rows t in omega arith)))
    (λ f. ap (λ (l : List ℕ). control_at l home) (own_none m row o (ltb-false row rows f)))
    (decide (ltb row rows))

-- put where it stands it changes nothing
own_kept : (m : List ℕ) (row : ℕ) → with_own m row (own_at m row) ≡ m
own_kept m row =
    ⊎_elim
    (λ t.
    own_is m row (own_at m row) (ltb-true row rows t)
    ∙ sets_same (own_words (own_at m row)) m (8 * row) (λ j h. word_by (λ (i : ℕ). get_or m (8 * row + i) 0) j h))
    (λ f. own_none m row (own_at m row) (ltb-false row rows f))
    (decide (ltb row rows))

module _ (m : List ℕ) (row : ℕ) (o : Own) where
  own_same : length m ≡ record_size → row < rows → own_at (with_own m row o) row ≡ o
  own_same size h =
      own_alike (λ (j : ℕ). get_or (with_own m row o) (8 * row + j) 0) (λ (j : ℕ). get_or (own_words o) j 0)
      (λ j k. ap (λ (l : List ℕ). get_or l (8 * row + j) 0) (own_is m row o h) ∙ sets-at (own_words o) m (8 * row) j (omega arith) k)

  -- the words of another row stand before it or behind it
  beside : (k j : ℕ) → (k ≡ row → ⊥) → j < 8 → (8 * k + j < 8 * row) ⊎ (8 * row + 8 ≤ 8 * k + j)
  beside k j apart h =
      ⊎_elim (λ t. inl (let q = ltb-true k row t in omega arith))
      (λ f.
      let q = ltb-false k row f in
      ⊎_elim (λ t. inr (let z = ltb-true row k t in omega arith))
      (λ g. let z = ltb-false row k g in absurd (apart (omega arith)))
      (decide (ltb row k)))
      (decide (ltb k row))

  own_other : (k : ℕ) → (k ≡ row → ⊥) → own_at (with_own m row o) k ≡ own_at m k
  own_other k apart =
      own_alike (λ (j : ℕ). get_or (with_own m row o) (8 * k + j) 0) (λ (j : ℕ). get_or m (8 * k + j) 0)
      (λ j h. own_beside m row o (8 * k + j) (beside k j apart h))

-- ---- a control word stored at its home

module _ (m : List ℕ) (home word k : ℕ) where
  -- a row's own words stand before all control words
  control_keeps_own : k < rows → own_at (with_control_word m home word) k ≡ own_at m k
  control_keeps_own h =
      own_alike (λ (j : ℕ). get_or (with_control_word m home word) (8 * k + j) 0) (λ (j : ℕ). get_or m (8 * k + j) 0)
      (λ j i. get_or-set_other m (control_place home) (8 * k + j) word 0 (λ e. omega arith))

  control_other : (k ≡ home → ⊥) → control_at (with_control_word m home word) k ≡ control_at m k
  control_other apart = get_or-set_other m (control_place home) (control_place k) word 0 (λ e. apart (omega arith))

-- ---- a record stored: what is its own at its row, the control word at its home

-- the control word that stands at a row's home
pub word_stands : (b : Board) (m : List ℕ) (row : ℕ) → (record_at b m row).control ≡ control_at m (home_at b row)
unfolding record_in records_in
word_stands b m row = table_here (control_at m) 0 rows (home_at b row) (home_small b row)

-- what stands at a row
pub own_stands : (b : Board) (m : List ℕ) (row : ℕ) → row < rows → own_of (record_at b m row) ≡ own_at m row
unfolding record_in records_in
own_stands b m row h = table_here (own_at m) free_own rows row h

-- to store what is its own is the whole store where its control word is the one that stands, and to store the control word where the rest is
pub own_stored : (b : Board) (m : List ℕ) (row : ℕ) (r : Record) → r.control ≡ control_at m (home_at b row) → with_own m row (own_of r) ≡ with_record b m row r
unfolding with_record
own_stored b m row r stands =
    let left = with_own m row (own_of r) in
    sym (set-get_or left (control_place (home_at b row)) 0)
    ∙ ap (with_control_word left (home_at b row)) (own_keeps_control m row (own_of r) (home_at b row) ∙ sym stands)

pub control_stored : (b : Board) (m : List ℕ) (row : ℕ) (r : Record) → own_of r ≡ own_at m row → with_control_word m (home_at b row) r.control ≡ with_record b m row r
unfolding with_record
control_stored b m row r stands =
    ap (λ (l : List ℕ). with_control_word l (home_at b row) r.control) (sym (own_kept m row) ∙ ap (with_own m row) (sym stands))

-- a store leaves the memory as long as it was
pub record_length : (b : Board) (m : List ℕ) (row : ℕ) (r : Record) → length (with_record b m row r) ≡ length m
unfolding with_record
record_length b m row r = length-set (with_own m row (own_of r)) (control_place (home_at b row)) r.control ∙ own_length m row (own_of r)

-- a record put where it stands changes nothing
pub store_same : (b : Board) (m : List ℕ) (row : ℕ) → with_record b m row (record_at b m row) ≡ m
store_same b m row =
    sym (own_stored b m row (record_at b m row) (word_stands b m row))
    ∙ ⊎_elim (λ t. ap (with_own m row) (own_stands b m row (ltb-true row rows t)) ∙ own_kept m row)
    (λ f. own_none m row (own_of (record_at b m row)) (ltb-false row rows f))
    (decide (ltb row rows))

-- what is each row's own after a store, also where the row is not there
own_rows : (m : List ℕ) (row : ℕ) (o : Own) → length m ≡ record_size → table_of (own_at (with_own m row o)) 0 rows ≡ set (table_of (own_at m) 0 rows) row o
own_rows m row o size =
    ⊎_elim
    (λ t.
    let h = ltb-true row rows t in
    sym
    (table_set (own_at m) (own_at (with_own m row o)) o rows 0 row
    (ap (own_at (with_own m row o)) (zero-add row) ∙ own_same m row o size h)
    (λ k apart. own_other m row o k (λ e. apart (e ∙ sym (zero-add row))))))
    (λ f.
    let past = ltb-false row rows f in
    ap (λ (l : List ℕ). table_of (own_at l) 0 rows) (own_none m row o past)
    ∙ sym (set_out (table_of (own_at m) 0 rows) row o (subst⁻¹ (λ (n : ℕ). n ≤ row) (table_length (own_at m) rows 0) past)))
    (decide (ltb row rows))

-- the records read after a store are the records before it with that one put there
pub records_store : (b : Board) (m : List ℕ) (row : ℕ) (r : Record) → length m ≡ record_size → records_in (with_record b m row r) ≡ put_in b (records_in m) row r
unfolding records_in put_in with_record
records_store b m row r size =
    let home = home_at b row in
    let left = with_own m row (own_of r) in
    let within = home_small b row in
    ap₂ (λ (os : List Own) (words : List ℕ). record { own = os; controls = words })
    (table_below (own_at (with_record b m row r)) (own_at left) rows 0 (λ k low high. control_keeps_own left home r.control k (omega arith))
    ∙ own_rows m row (own_of r) size)
    (sym
    (table_set (control_at m) (control_at (with_record b m row r)) r.control rows 0 home
    (ap (control_at (with_record b m row r)) (zero-add home)
    ∙ get_or-set_same left (control_place home) r.control 0 (let same = own_length m row (own_of r) in omega arith))
    (λ k apart.
    control_other left home r.control k (λ e. apart (e ∙ sym (zero-add home))) ∙ own_keeps_control m row (own_of r) k)))

-- so a record that was stored is read back
pub record_same : (b : Board) (m : List ℕ) (row : ℕ) (r : Record) → length m ≡ record_size → row < rows → record_at b (with_record b m row r) row ≡ r
unfolding record_in records_in put_in
record_same b m row r size h =
    ap (λ (rs : Records). record_in b rs row) (records_store b m row r size)
    ∙ ap₂ joined
    (get_or-set_same (records_in m).own row (own_of r) free_own (subst⁻¹ (λ (n : ℕ). row < n) (table_length (own_at m) rows 0) h))
    (get_or-set_same (records_in m).controls (home_at b row) r.control 0
    (subst⁻¹ (λ (n : ℕ). home_at b row < n) (table_length (control_at m) rows 0) (home_small b row)))

-- ---- what a call sees

-- past the last row there is no entry
no_entry_past : (a : List ℕ) (row : ℕ) → length a ≡ access_size → rows ≤ row → entry_at a row ≡ no_entry
unfolding entry_at no_entry
no_entry_past a row size past =
    λ t.
    record {
      master = get_or-eq_default a 0 {n = 1 + 4 * row} (omega arith) t;
      first = get_or-eq_default a 0 {n = 1 + 4 * row + 1} (omega arith) t;
      second = get_or-eq_default a 0 {n = 1 + 4 * row + 2} (omega arith) t;
      third = get_or-eq_default a 0 {n = 1 + 4 * row + 3} (omega arith) t;
    }

pub entry_stands : (a : List ℕ) (row : ℕ) → length a ≡ access_size → get_or (entries_in a) row no_entry ≡ entry_at a row
unfolding entries_in
entry_stands a row size =
    ⊎_elim (λ t. table_here (entry_at a) no_entry rows row (ltb-true row rows t))
    (λ f.
    let past = ltb-false row rows f in
    table_past (entry_at a) no_entry rows 0 row past ∙ sym (no_entry_past a row size past))
    (decide (ltb row rows))

-- what a message sees of the processor that it names is what stands at its row
pub view_in_lem : (b : Board) (a m : List ℕ) (p : ℕ) → length a ≡ access_size → view_of (state_in b a m) p ≡ view_in b a m (row_of b p)
unfolding view_of entry_of record_of state_in setup_in view_in
view_in_lem b a m p la =
    λ t.
    record {
      board = b;
      listed = listed-some (listed_in a) t;
      entry = entry_stands a (row_of b p) la t;
      state = record_at b m (row_of b p);
    }

-- memory that is all zeros is a fresh manager, on any board
pub zeros-fresh : (b : Board) → state_in b (replicate access_size 0) (replicate record_size 0) ≡ fresh b
unfolding state_in setup_in some_list listed_in entries_in records_in table_of entry_at fresh no_entries no_entry free_own no_tallies
zeros-fresh b = refl

-- ---- what the code loads

-- the control word at the place that it has found, and the words of a row; past the rows there is nothing of its own
module _ (b : Board) (m : List ℕ) (row : ℕ) {place : ℕ} (at : place ≡ control_place (home_at b row)) where
  -- what the row has, with its first word from a place
  abbrev held_at : ℕ → Own
  held_at k =
      record {
        controller = get_or m k 0;
        low = (own_at m row).low;
        high = (own_at m row).high;
        config = (own_at m row).config;
        tallies = (own_at m row).tallies;
      }

  word_at : get_or m place 0 ≡ get_or (records_in m).controls (home_at b row) 0
  unfolding records_in
  word_at = ap (λ (n : ℕ). get_or m n 0) at ∙ sym (table_here (control_at m) 0 rows (home_at b row) (home_small b row))

  pub load_here : row < rows → joined (held_at (8 * row)) (get_or m place 0) ≡ record_at b m row
  unfolding record_in records_in
  load_here h =
      ap (λ (k : ℕ). joined (held_at k) (get_or m place 0)) (sym (add-zero (8 * row)))
      ∙ ap₂ joined (sym (table_here (own_at m) free_own rows row h)) word_at

  pub load_past : rows ≤ row → joined free_own (get_or m place 0) ≡ record_at b m row
  unfolding record_in records_in
  load_past h = ap₂ joined (sym (table_past (own_at m) free_own rows 0 row h)) word_at
