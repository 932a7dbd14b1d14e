-- Laws of the table of supervisors: what one entry more leaves in it, and that following it is following the entries.
use Prim.Native.Nat.{ℕ, zero, suc, ◌+◌, ◌*◌, ◌-◌, ◌<◌, ◌≤◌}
use mathlib.Core.Path.{◌≡◌, refl, sym, ◌∙◌, ap, subst}
use mathlib.Core.Bool.{Bool, true, false, cond, not, ◌&&◌, ◌||◌}
use mathlib.Core.List.{List, [], ◌∷◌, map}
use mathlib.Core.Logic.{⊎_elim}
use native.Mathlib.Nat.{zero-add}
use native.Mathlib.Omega.{arith}
use native.Mathlib.Numerals.{add-one}
use lib.ListN.{length, get_or, set, replicate}
use lib.Dec.{eqb}
use Rattle.std.specs.Prelude.{Option, None, Some}
use Rattle.std.specs.Option.{MatchOption}
use Rattle.std.specs.List.{range_with_len, AllWithin, HoldsAt}
use Rattle.std.proofs.lemmas.List.FromFn.{get_or-map-range_with_len}
use borrow.Author.Tests.{eq-eqb, ne_eqb}
use Rattle.rules.specs.Table.{table_of}
use Rattle.rules.specs.Bytes.{byte_at}
use Rattle.rules.specs.Substructure.{head_size, entry_count, part_at, parts_of, parts_from, names}
use Rattle.rules.specs.Hierarchy.{pair_size, pairs, host_in, supervisor_in, supervisor_of, meets, on_loop, first_host, loop_host}
use Rattle.rules.proofs.Tests.{decide, clash, cond-true, cond-false}
use Rattle.rules.proofs.Climbs.{meets-some}
use Rattle.rules.proofs.Tables.{table_here, table_below, table_set}
use Rattle.rules.proofs.Parts.{parts-length, parts-step, part-byte, number_read, parts_next}
use Rattle.access_hierarchy.specs.Supervisors.{host_count, supervisors_in, read_from, loop_found}

-- ---- filled

-- an entry that names no host, or another one, says nothing of a host
of_another : (h : ℕ) (pair : List ℕ) (rest : List (List ℕ)) → names h pair ≡ false → supervisor_of (pair ∷ rest) h ≡ supervisor_of rest h
unfolding supervisor_of
of_another h pair rest other = cond-false (supervisor_in pair) (supervisor_of rest h) other

-- no entries fill the table with zeros
pub none_filled : replicate host_count 0 ≡ table_of (supervisor_of []) 0 host_count
unfolding table_of supervisor_of
none_filled = refl

module _ (pair : List ℕ) (rest : List (List ℕ)) where
  -- an unused entry changes nothing
  unused_filled : host_in pair ≡ 0 → table_of (supervisor_of rest) 0 host_count ≡ table_of (supervisor_of (pair ∷ rest)) 0 host_count
  unused_filled none =
      table_below (supervisor_of rest) (supervisor_of (pair ∷ rest)) host_count 0
      (λ k low high. sym (of_another k pair rest (unused k)))
    where
      unused : (k : ℕ) → names k pair ≡ false
      unused k = rw none

  -- a used one puts its supervisor at its host
  used-filled : (h : ℕ) → host_in pair ≡ h → (h ≡ 0 → ⊥) → set (table_of (supervisor_of rest) 0 host_count) h (supervisor_in pair) ≡ table_of (supervisor_of (pair ∷ rest)) 0 host_count
  unfolding supervisor_of
  used-filled h is some =
      table_set (supervisor_of rest) (supervisor_of (pair ∷ rest)) (supervisor_in pair) host_count 0 h
      (ap (supervisor_of (pair ∷ rest)) (zero-add h) ∙ cond-true (supervisor_in pair) (supervisor_of rest h) here)
      (λ k other. of_another k pair rest (there k other))
    where
      here : names h pair ≡ true
      here = rw (is, ne_eqb h 0 some) (eq-eqb h h refl)

      there : (k : ℕ) → (k ≡ 0 + h → ⊥) → names k pair ≡ false
      there k other = rw (is, ne_eqb h 0 some) (ne_eqb h k (λ e. other (sym e ∙ sym (zero-add h))))

-- one entry more, from the last back: entry e before those that were put
module _ (bytes : List ℕ) (e i : ℕ) {host : ℕ} (h : e < entry_count) (next : i ≡ e + 1) (at : host ≡ byte_at bytes (head_size + pair_size * e)) where
  left_is : parts_from pair_size bytes e (entry_count - e) ≡ part_at pair_size bytes e ∷ parts_from pair_size bytes i (entry_count - i)
  left_is = parts_next pair_size bytes e h ∙ ap (λ (n : ℕ). part_at pair_size bytes e ∷ parts_from pair_size bytes n (entry_count - n)) (sym next)

  host_is : host_in (part_at pair_size bytes e) ≡ host
  host_is = number_read pair_size bytes e (omega arith) at

  pub fill_unused : host ≡ 0 → table_of (supervisor_of (parts_from pair_size bytes i (entry_count - i))) 0 host_count ≡ table_of (supervisor_of (parts_from pair_size bytes e (entry_count - e))) 0 host_count
  fill_unused none =
      unused_filled (part_at pair_size bytes e) (parts_from pair_size bytes i (entry_count - i)) (host_is ∙ none)
      ∙ ap (λ (entries : List (List ℕ)). table_of (supervisor_of entries) 0 host_count) (sym left_is)

  pub fill_used : (host ≡ 0 → ⊥) → {s : ℕ} → s ≡ byte_at bytes (head_size + pair_size * e + 1)
      → set (table_of (supervisor_of (parts_from pair_size bytes i (entry_count - i))) 0 host_count) host s ≡ table_of (supervisor_of (parts_from pair_size bytes e (entry_count - e))) 0 host_count
  fill_used some {s} given =
      ap (set (table_of (supervisor_of (parts_from pair_size bytes i (entry_count - i))) 0 host_count) host) (given ∙ sym (part-byte pair_size bytes e 1 (omega arith)))
      ∙ used-filled (part_at pair_size bytes e) (parts_from pair_size bytes i (entry_count - i)) host host_is some
      ∙ ap (λ (entries : List (List ℕ)). table_of (supervisor_of entries) 0 host_count) (sym left_is)

-- ---- followed

-- at 0 it ends
ends : (up : ℕ → ℕ) (h x : ℕ) → x ≡ 0 → (n : ℕ) → meets up h n x ≡ false
unfolding meets
ends up h x none zero = refl
ends up h x none (suc n) = rw none

-- a turn of the loop
module _ (up : ℕ → ℕ) (h n x : ℕ) where
  pub meets-end : x ≡ 0 → meets up h n x ≡ false
  meets-end none = ends up h x none n

  module _ (m : ℕ) (next : n ≡ suc m) (some : x ≡ 0 → ⊥) where
    pub meets-here : x ≡ h → meets up h n x ≡ true
    unfolding meets
    meets-here is = rw (next, ne_eqb x 0 some, eq-eqb x h is)

    pub meets_on : (x ≡ h → ⊥) → meets up h n x ≡ meets up h m (up x)
    unfolding meets
    meets_on other = rw (next, ne_eqb x 0 some, ne_eqb x h other)

-- two functions that agree on bytes, and give bytes, are followed alike
follow_same : (up down : ℕ → ℕ) → ((x : ℕ) → x < host_count → down x ≡ up x) → ((x : ℕ) → up x < host_count) → (h n x : ℕ) → x < host_count
    → meets down h n x ≡ meets up h n x
unfolding meets
follow_same up down agree bytes h zero x small = refl
follow_same up down agree bytes h (suc n) x small =
    ap (λ (rest : Bool). not (eqb x 0) && (eqb x h || rest))
    (ap (meets down h n) (agree x small) ∙ follow_same up down agree bytes h n (up x) (bytes x))

-- a supervisor is a byte of the hierarchy, or 0
supervisor_small : (bytes : List ℕ) → ((i : ℕ) → get_or bytes i 0 < host_count) → (e n h : ℕ) → supervisor_of (parts_from pair_size bytes e n) h < host_count
unfolding supervisor_of parts_of
supervisor_small bytes small e zero h = omega arith
supervisor_small bytes small e (suc n) h =
    subst (λ (pairs : List (List ℕ)). supervisor_of pairs h < host_count) (sym (parts-step pair_size bytes e n))
    (⊎_elim
    (λ (t : names h (part_at pair_size bytes e) ≡ true).
    rw t (subst (λ (x : ℕ). x < host_count) (sym (part-byte pair_size bytes e 1 (omega arith))) (small (head_size + pair_size * e + 1))))
    (λ (f : names h (part_at pair_size bytes e) ≡ false). rw f (supervisor_small bytes small (suc e) n h))
    (decide (names h (part_at pair_size bytes e))))

-- what is found by the table is whether the host lies on a loop
pub on_loop_is : {table : List ℕ} {host : ℕ} {on : Bool} (bytes : List ℕ) (i : ℕ) → ((k : ℕ) → get_or bytes k 0 < host_count) → table ≡ supervisors_in bytes
    → host ≡ byte_at bytes i → on ≡ meets (read_from table) host entry_count (read_from table host) → on ≡ on_loop (pairs bytes) host
unfolding on_loop supervisors_in
on_loop_is {table} {host} bytes i small filled at told =
    let up = supervisor_of (pairs bytes) in
    let agree : (x : ℕ) → x < host_count → read_from (table_of up 0 host_count) x ≡ up x = λ x below. table_here up 0 host_count x below in
    let each : (x : ℕ) → up x < host_count = supervisor_small bytes small 0 entry_count in
    told
    ∙ ap (λ (l : List ℕ). meets (read_from l) host entry_count (read_from l host)) filled
    ∙ ap (meets (read_from (table_of up 0 host_count)) host entry_count) (agree host (subst (λ (x : ℕ). x < host_count) (sym at) (small i)))
    ∙ follow_same up (read_from (table_of up 0 host_count)) agree each host entry_count (up host) (each host)
    ∙ ap (λ (n : ℕ). meets up host n (up host)) (sym (parts-length pair_size bytes 0 entry_count))

-- ---- the hosts in turn

-- what the code asks of a host, by its table
abbrev pub told_on : List ℕ → ℕ → Bool
told_on table host = meets (read_from table) host entry_count (read_from table host)

module _ (bytes : List ℕ) where
  abbrev pub host_at : ℕ → ℕ
  host_at e = byte_at bytes (head_size + pair_size * e)

  abbrev pub hosts : List ℕ
  hosts = map host_at (range_with_len 0 entry_count)

  abbrev pub first_from : ℕ → ℕ
  first_from e = first_host (on_loop (pairs bytes)) (parts_from pair_size bytes e (entry_count - e))

  from_host : (e : ℕ) → e < entry_count → first_from e ≡ cond (on_loop (pairs bytes) (host_at e)) (host_at e) (first_from (suc e))
  unfolding first_host
  from_host e h =
      let named : host_in (part_at pair_size bytes e) ≡ host_at e = number_read pair_size bytes e (omega arith) refl in
      ap (first_host (on_loop (pairs bytes))) (parts_next pair_size bytes e h)
      ∙ ap (λ (x : ℕ). cond (on_loop (pairs bytes) x) x (first_from (e + 1))) named
      ∙ ap (λ (n : ℕ). cond (on_loop (pairs bytes) (host_at e)) (host_at e) (first_from n)) (add-one e)

  -- a host that has been read: it is the first where it lies on a loop, else the next decides
  module _ (e : ℕ) {host : ℕ} (h : e < entry_count) (at : host ≡ host_at e) where
    pub host_found : on_loop (pairs bytes) host ≡ true → first_from e ≡ host
    host_found on = from_host e h ∙ cond-true _ _ (ap (on_loop (pairs bytes)) (sym at) ∙ on) ∙ sym at

    pub host_passed : on_loop (pairs bytes) host ≡ false → first_from e ≡ first_from (e + 1)
    host_passed off =
        from_host e h ∙ cond-false _ _ (ap (on_loop (pairs bytes)) (sym at) ∙ off) ∙ ap first_from (sym (add-one e))

  -- where none of those before entry e lies on a loop
  passed : (e : ℕ) → e ≤ entry_count → ((k : ℕ) → k < e → on_loop (pairs bytes) (host_at k) ≡ false) → loop_host (pairs bytes) ≡ first_from e
  unfolding loop_host
  passed zero h none = refl
  passed (suc e) h none =
      passed e (omega arith) (λ k before. none k (omega arith)) ∙ from_host e (omega arith)
      ∙ cond-false (host_at e) (first_from (suc e)) (none e (omega arith))

  module _ {table : List ℕ} (small : (k : ℕ) → get_or bytes k 0 < host_count) (filled : table ≡ supervisors_in bytes) where
    told_is : (e : ℕ) → on_loop (pairs bytes) (host_at e) ≡ told_on table (host_at e)
    told_is e = sym (on_loop_is bytes (head_size + pair_size * e) small filled refl refl)

    there : (e : ℕ) → e < entry_count → get_or hosts e 0 ≡ host_at e
    there e h = get_or-map-range_with_len host_at 0 entry_count e e 0 h (zero-add e)

    off : (e : ℕ) → AllWithin (λ x. told_on table x ≡ false) hosts 0 e → e ≤ entry_count → loop_host (pairs bytes) ≡ first_from e
    off e none h =
        passed e h (λ k before. told_is k ∙ subst (λ (x : ℕ). told_on table x ≡ false) (there k (omega arith)) (none k 0 (omega arith) before))

    -- so the first that it finds is the host
    pub found_is : (r : Option ℕ)
        → MatchOption r (AllWithin (λ x. told_on table x ≡ false) hosts 0 (length hosts))
        (λ x. (told_on table x ≡ true) × (e : ℕ) × (e < length hosts) × HoldsAt (λ y. y ≡ x) hosts e × AllWithin (λ x. told_on table x ≡ false) hosts 0 e)
        → r ≡ loop_found (pairs bytes)
    unfolding loop_found first_host parts_of
    found_is None none = let first : loop_host (pairs bytes) ≡ 0 = off entry_count none (omega arith) in rw first
    found_is (Some x) (on, e, inside, here, none) =
        let is : host_at e ≡ x = sym (there e inside) ∙ here 0 in
        let first : loop_host (pairs bytes) ≡ x =
        off e none (omega (arith, inside)) ∙ from_host e inside
        ∙ cond-true (host_at e) (first_from (suc e)) (told_is e ∙ subst (λ (y : ℕ). told_on table y ≡ true) (sym is) on) ∙ is in
        let some : x ≡ 0 → ⊥ = λ zero.
        clash on (ap (λ (h : ℕ). meets (read_from table) h entry_count (read_from table x)) zero ∙ meets-some (read_from table) entry_count (read_from table x)) in
        rw (first, ne_eqb x 0 some)
