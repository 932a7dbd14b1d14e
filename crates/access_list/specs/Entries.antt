-- One entry of a substructure, after those before it: the numbers that the entries before have, and of an access list document 01's A5 to A7. An
-- entry is a part of the bytes, as rules/specs/Substructure.antt cuts it.
use Rattle.std.specs.Prelude.{ℕ, zero, suc, ◌+◌, ◌*◌, Bool, false, not, ◌||◌, List, [], ◌∷◌, eqb, Err}
use Rattle.rules.specs.Verdict.{Verdict, Accepted}
use Rattle.rules.specs.declared.Fault.TheVariants.{A5, A6, A7}
use Rattle.rules.specs.Table.{◌gives◌, first_of}
use Rattle.rules.specs.Bytes.{byte_at}
use Rattle.rules.specs.Board.{Board, active_host, on_board}
use Rattle.rules.specs.Substructure.{head_size, part_at}
use Rattle.rules.specs.AccessList.{processor_in, master_in}

-- the parts before entry e, newest first
unfoldable pub parts_before : ℕ → List ℕ → ℕ → List (List ℕ)
parts_before width bytes zero = []
parts_before width bytes (suc e) = part_at width bytes e ∷ parts_before width bytes e

-- an entry before entry e, used or not, has n as its first byte. Where n is not 0 that is `named_in` of those entries, the test of A6 and B7
unfoldable pub number_before : ℕ → List ℕ → ℕ → ℕ → Bool
number_before width bytes zero n = false
number_before width bytes (suc e) n = eqb (byte_at bytes (head_size + width * e)) n || number_before width bytes e n

-- A5 to A7 of a used entry, where `named` says whether an earlier one names its processor
unfoldable pub entry_fault : Board → Bool → List ℕ → Verdict
entry_fault b named part =
    first_of Accepted
    ((not (on_board b (processor_in part)) gives Err A5) ∷ (named gives Err A6) ∷ (not (active_host b (master_in part)) gives Err A7) ∷ [])
