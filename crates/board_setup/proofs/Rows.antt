-- Laws of the rows that the items of a description get, and of the walk that finds the home of a processor's control word: the first
-- processor that has the same word.
use Prim.Native.Nat.{ℕ, ◌≤◌}
use native.Mathlib.Omega.{arith}
use mathlib.Core.Path.{◌≡◌, refl, sym, ap, ◌∙◌}
use mathlib.Core.Bool.{Bool, true, false, cond, not}
use mathlib.Core.List.{List, [], ◌∷◌, ◌++◌, append-nil, append_assoc}
use mathlib.Core.Logic.{⊎_elim}
use lib.ListN.{length, length-append}
use lib.Dec.{eqb}
use borrow.Author.Tests.{eq-eqb, ne_eqb, not-true}
use Rattle.rules.specs.declared.Item.{Item}
use Rattle.rules.specs.Table.{any_of, place_of}
use Rattle.rules.specs.Description.{Processor, Description, nothing_listed, is_host, with_item, with_items, shared_cluster, home_in, item_processor}
use Rattle.rules.proofs.Tests.{decide, cond-true, cond-false, and_left, and_right}
use Rattle.board_description.proofs.EarlierItems.{any_last, length_last}
use Rattle.board_setup.specs.Setup.{shares_word, row_after}
use Rattle.board_setup.proofs.Lists.{place_first}
use Rattle.board_setup.proofs.Steps.{is_processor, home_here}

-- the processor has the word of cluster c
abbrev pub has_word : ℕ → Processor → Bool
has_word c y = eqb c (shared_cluster y)

-- ---- one item more

module _ (d : Description) (x : Item) where
  listed-host : is_host x ≡ true → (with_item d x).processors ≡ d.processors
  unfolding with_item
  listed-host t = ap (λ (e : Description). e.processors) (cond-true _ _ t)

  listed-processor : is_host x ≡ false → (with_item d x).processors ≡ d.processors ++ (item_processor x ∷ [])
  unfolding with_item
  listed-processor f = ap (λ (e : Description). e.processors) (cond-false _ _ f)

  -- those before stay
  listed_more : (more : List Processor) × ((with_item d x).processors ≡ d.processors ++ more)
  listed_more =
      ⊎_elim
      (λ t. ([], listed-host t ∙ sym (append-nil d.processors)))
      (λ f. (item_processor x ∷ [], listed-processor f))
      (decide (is_host x))

  row_count : row_after (length d.processors) x ≡ length (with_item d x).processors
  unfolding row_after
  row_count =
      ⊎_elim
      (λ (t : is_host x ≡ true). cond-true _ _ t ∙ ap length (sym (listed-host t)))
      (λ (f : is_host x ≡ false).
      cond-false _ _ f ∙ sym (length_last d.processors (item_processor x)) ∙ ap length (sym (listed-processor f)))
      (decide (is_host x))

  -- an item that does not have the cluster's word adds none that does
  pub word_none : (c : ℕ) → shares_word x c ≡ false → any_of (has_word c) d.processors ≡ false
      → any_of (has_word c) (with_item d x).processors ≡ false
  unfolding shares_word
  word_none c other none =
      ⊎_elim
      (λ (t : is_host x ≡ true). ap (any_of (has_word c)) (listed-host t) ∙ none)
      (λ (f : is_host x ≡ false).
      ap (any_of (has_word c)) (listed-processor f)
      ∙ any_last (has_word c) d.processors (item_processor x)
      ∙ rw (none, rw f at other))
      (decide (is_host x))

-- ---- the items in turn

-- the processors listed before stay the first
more_listed : (d : Description) (xs : List Item) → (more : List Processor) × ((with_items d xs).processors ≡ d.processors ++ more)
unfolding with_items
more_listed d [] = ([], sym (append-nil d.processors))
more_listed d (x ∷ xs) =
    let one = listed_more d x in
    let some = more_listed (with_item d x) xs in
    (one.0 ++ some.0, some.1 ∙ ap (λ (l : List Processor). l ++ some.0) one.1 ∙ append_assoc d.processors one.0 some.0)

pub rows-order : (d : Description) (xs : List Item) → length d.processors ≤ length (with_items d xs).processors
rows-order d xs =
    let some = more_listed d xs in
    omega (arith, ap (λ (l : List Processor). length l) some.1, length-append d.processors some.0)

pub row_start : 0 ≡ length (with_items nothing_listed []).processors
unfolding with_items nothing_listed
row_start = refl

pub word_start : (c : ℕ) → any_of (has_word c) (with_items nothing_listed []).processors ≡ false
unfolding with_items nothing_listed any_of
word_start c = refl

-- a turn of a walk
module _ (d : Description) (x : Item) {row : ℕ} (rowed : row ≡ length d.processors) where
  pub row_next : row_after row x ≡ length (with_item d x).processors
  row_next = ap (λ (n : ℕ). row_after n x) rowed ∙ row_count d x

  -- an item that has the cluster's word is the first, and stays the first
  pub word-found : (c : ℕ) (rest : List Item) (last : Processor) → any_of (has_word c) d.processors ≡ false → shares_word x c ≡ true
      → place_of (has_word c) ((with_items d (x ∷ rest)).processors ++ (last ∷ [])) ≡ row
  unfolding shares_word with_items
  word-found c rest last none shares =
      let q = item_processor x in
      let some = more_listed (with_item d x) rest in
      let here = listed-processor d x (not-true _ (and_left _ (has_word c q) shares)) in
      let whole : (with_items (with_item d x) rest).processors ++ (last ∷ []) ≡ d.processors ++ (q ∷ (some.0 ++ (last ∷ []))) =
      ap (λ (l : List Processor). l ++ (last ∷ [])) (some.1 ∙ ap (λ (l : List Processor). l ++ some.0) here)
      ∙ append_assoc (d.processors ++ (q ∷ [])) some.0 (last ∷ [])
      ∙ append_assoc d.processors (q ∷ []) (some.0 ++ (last ∷ []))
      in
      ap (place_of (has_word c)) whole
      ∙ place_first (has_word c) d.processors q (some.0 ++ (last ∷ [])) none (and_right (not (is_host x)) (has_word c q) shares)
      ∙ sym rowed

-- ---- the home of a new processor

module _ (d : Description) (x : Item) {row c : ℕ} (processor : is_host x ≡ false) (rowed : row ≡ length d.processors)
    (shared : c ≡ shared_cluster (item_processor x)) where
  home_by_lem : home_in (with_item d x) row ≡ cond (eqb c 0) row (place_of (has_word c) (d.processors ++ (item_processor x ∷ [])))
  home_by_lem =
      ap (λ (e : Description). home_in e row) (is_processor d x processor)
      ∙ ap (home_in (record { hosts = d.hosts; processors = d.processors ++ (item_processor x ∷ []) })) rowed
      ∙ home_here d x
      ∙ ap (λ (n : ℕ). cond (eqb n 0) (length d.processors) (place_of (has_word n) (d.processors ++ (item_processor x ∷ [])))) (sym shared)
      ∙ ap (λ (n : ℕ). cond (eqb c 0) n (place_of (has_word c) (d.processors ++ (item_processor x ∷ [])))) (sym rowed)

  -- alone it has its own word
  pub home_alone : c ≡ 0 → row ≡ home_in (with_item d x) row
  home_alone none = sym (home_by_lem ∙ cond-true _ _ (eq-eqb c 0 none))

  -- else that of the first of its cluster
  pub home_first : {home : ℕ} → (c ≡ 0 → ⊥) → place_of (has_word c) (d.processors ++ (item_processor x ∷ [])) ≡ home
      → home ≡ home_in (with_item d x) row
  home_first some found = sym (home_by_lem ∙ cond-false _ _ (ne_eqb c 0 some) ∙ found)

  -- which it is itself where none before has the word
  pub home_own : (c ≡ 0 → ⊥) → any_of (has_word c) d.processors ≡ false → row ≡ home_in (with_item d x) row
  home_own some none =
      home_first some (place_first (has_word c) d.processors (item_processor x) [] none (eq-eqb c _ shared) ∙ sym rowed)
