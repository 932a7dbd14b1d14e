-- Laws of a hierarchy: what one pair comes to, what is left after it, and what the lines behind the pairs come to.
use Prim.Native.Nat.{ℕ, ◌+◌, ◌*◌, ◌<◌}
use mathlib.Core.Path.{◌≡◌, sym, ap, ◌∙◌}
use mathlib.Core.Bool.{Bool, true, false, cond, not}
use mathlib.Core.List.{List, [], ◌∷◌, ◌++◌}
use mathlib.Core.Logic.{⊎_elim}
use native.Mathlib.Omega.{arith}
use lib.Dec.{eqb}
use borrow.Author.Tests.{ne_eqb}
use Rattle.std.specs.Prelude.{Err, Option, None, Some}
use Rattle.rules.specs.declared.Fault.{Fault}
use Rattle.rules.specs.declared.Fault.TheVariants.{B3, B4, B5, B6, B7, B8}
use Rattle.rules.specs.Table.{Line, ◌gives◌, first_of}
use Rattle.rules.specs.Bytes.{byte_at}
use Rattle.rules.specs.Verdict.{Verdict, Accepted, accepted}
use Rattle.rules.specs.Board.{Board, board_host}
use Rattle.rules.specs.Substructure.{head_size, entry_count, magic_in, size_in, part_at, in_turn}
use Rattle.rules.specs.Hierarchy.{hierarchy_size, pair_size, pairs, host_in, supervisor_in, loop_host, pair_table, hierarchy_table}
use Rattle.rules.proofs.Tests.{decide, first_of-append}
use Rattle.rules.proofs.Parts.{part-byte, number_read}
use Rattle.rules.proofs.Blocks.{pair_none, pairs-none, refused_number}
use Rattle.access_list.specs.Entries.{parts_before, number_before}
use Rattle.access_hierarchy.specs.Supervisors.{loop_found}
use Rattle.access_list.proofs.Substructure.{past_head, fault-stops, good_falls, number_named, verdict_from, from_entry}

-- ---- one pair

-- its lines, after the pairs before it
abbrev pub pair_lines : Board → List ℕ → ℕ → List (Line Verdict)
pair_lines b bytes e = pair_table b (parts_before pair_size bytes e) (part_at pair_size bytes e)

-- what has been read of it: the host
module _ (b : Board) (bytes : List ℕ) (e : ℕ) {host : ℕ} (at : host ≡ byte_at bytes (head_size + pair_size * e)) where
  host_is : host_in (part_at pair_size bytes e) ≡ host
  host_is = number_read pair_size bytes e (omega arith) at

  -- an unused one is passed over
  pub unused_pair : host ≡ 0 → first_of Accepted (pair_lines b bytes e) ≡ Accepted
  unfolding first_of pair_table
  unused_pair none = let is : host_in (part_at pair_size bytes e) ≡ 0 = host_is ∙ none in rw is

  -- the three lines of a used one, by its supervisor and what the code asks of the two
  pub used_pair : {s : ℕ} {x y n : Bool} → (host ≡ 0 → ⊥) → s ≡ byte_at bytes (head_size + pair_size * e + 1) → x ≡ board_host b host → y ≡ board_host b s
      → n ≡ number_before pair_size bytes e host → first_of Accepted (pair_lines b bytes e) ≡ cond (not x) (Err B5) (cond (not y) (Err B6) (cond n (Err B7) Accepted))
  unfolding first_of pair_table
  used_pair some read one other before =
      let supervisor-is : supervisor_in (part_at pair_size bytes e) ≡ _ = part-byte pair_size bytes e 1 (omega arith) ∙ sym read in
      rw (host_is, supervisor-is, ne_eqb host 0 some, one, other, before, number_named pair_size bytes e host (omega arith) some)

-- ---- the pairs in turn

-- what those from e on come to
abbrev pub left-from : Board → List ℕ → ℕ → Verdict
left-from b bytes e = verdict_from (pair_table b) pair_size bytes e

module _ (b : Board) (bytes : List ℕ) (e : ℕ) {fault : Verdict} (h : e < entry_count)
    (judged : fault ≡ first_of Accepted (pair_lines b bytes e)) where
  pub turn-bad : {x : Fault} → fault ≡ Err x → left-from b bytes e ≡ Err x
  turn-bad bad = from_entry (pair_table b) pair_size bytes e h ∙ fault-stops _ _ judged bad

  pub turn-good : fault ≡ Accepted → left-from b bytes e ≡ left-from b bytes (e + 1)
  turn-good good =
      from_entry (pair_table b) pair_size bytes e h
      ∙ good_falls _ _ judged (pair_none accepted refused_number b (parts_before pair_size bytes e) (part_at pair_size bytes e)) good

-- ---- the whole hierarchy

-- what a loop comes to, by its host
abbrev pub of_loop : Option ℕ → Verdict
of_loop None = Accepted
of_loop (Some host) = Err (B8 host)

loop_told : (entries : List (List ℕ))
    → of_loop (loop_found entries) ≡ cond (not (eqb (loop_host entries) 0)) (Err (B8 (loop_host entries))) Accepted
unfolding loop_found
loop_told entries =
    ⊎_elim (λ (t : eqb (loop_host entries) 0 ≡ true). rw t) (λ (f : eqb (loop_host entries) 0 ≡ false). rw f) (decide (eqb (loop_host entries) 0))

module _ (b : Board) (bytes : List ℕ) where
  abbrev pub whole : Verdict
  whole = first_of Accepted (hierarchy_table b bytes)

  abbrev turns : List (Line Verdict)
  turns = in_turn (pair_table b) [] (pairs bytes)

  abbrev loop_line : List (Line Verdict)
  loop_line = (not (eqb (loop_host (pairs bytes)) 0) gives Err (B8 (loop_host (pairs bytes)))) ∷ []

  -- behind the magic and the size the pairs decide, and then the loop
  module _ {magic size : ℕ} {fault : Verdict} (first : magic ≡ magic_in bytes) (good : magic ≡ 0x8D27) (second : size ≡ size_in bytes)
      (right : size ≡ hierarchy_size) (judged : fault ≡ first_of Accepted turns) where
    past_header : whole ≡ first_of (first_of Accepted loop_line) turns
    unfolding hierarchy_table
    past_header =
        past_head 0x8D27 (Err B3) hierarchy_size (Err B4) bytes (turns ++ loop_line) first good second right
        ∙ first_of-append Accepted turns loop_line

    pub pairs-bad : {x : Fault} → fault ≡ Err x → whole ≡ Err x
    pairs-bad bad = past_header ∙ fault-stops _ turns judged bad

    pub loop-decides : {found : Option ℕ} → fault ≡ Accepted → found ≡ loop_found (pairs bytes) → whole ≡ of_loop found
    unfolding first_of
    loop-decides none is =
        past_header
        ∙ good_falls _ turns judged (pairs-none accepted refused_number b [] (pairs bytes)) none
        ∙ sym (ap of_loop is ∙ loop_told (pairs bytes))
