-- The bytes that a call of the feeding function has: what the carry holds, and the rest of the piece; and where a record stands in them.
use Rattle.std.specs.Prelude.{ℕ, ◌+◌, ◌-◌, Bool, true, false, cond, List, ◌++◌, take, drop, eqb}
use Rattle.rules.specs.declared.Found.{Found}
use Rattle.rules.specs.declared.Found.TheVariants.{Whole, Bad, Partial, Nothing}
use Rattle.rules.specs.Bytes.{field_head}
use Rattle.rules.specs.Recording.{found}
use Rattle.recording_feed.specs.declared.cursor.Cursor.{Cursor}
use Rattle.recording_feed.specs.declared.cursor.Sight.{Sight}
use Rattle.recording_feed.specs.declared.cursor.Sight.TheVariants.{Record, Broken, More}

-- the first `held` bytes of the carry, and behind them the piece from place `at` on
abbrev pub pending : List ℕ → ℕ → List ℕ → ℕ → List ℕ
pending carry held piece at = take held carry ++ drop at piece

-- the part of one of them that a cursor names
abbrev pub part_by : List ℕ → List ℕ → Cursor → List ℕ
part_by carry piece c = take (c.end - c.start) (drop c.start (cond c.carried carry piece))

-- what was found at a place of the carry or of the piece, with a cursor to the body of a whole record
abbrev pub sight_in : Bool → ℕ → Found → Sight
sight_in carried at (Whole tag n) =
    Record tag (record { carried = carried; start = at + field_head; end = at + field_head + n })
sight_in carried at Bad = Broken
sight_in carried at Partial = More
sight_in carried at Nothing = More

-- what comes next: in the carry, where it holds anything, and else in the piece
unfoldable pub sight_of : List ℕ → ℕ → List ℕ → ℕ → Sight
sight_of carry held piece at =
    cond (eqb held 0) (sight_in false at (found (drop at piece))) (sight_in true 0 (found (take held carry)))

-- a bad record is in sight
abbrev pub broken_in : Sight → Bool
broken_in (Record tag c) = false
broken_in Broken = true
broken_in More = false
