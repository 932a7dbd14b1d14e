-- The supervisors of a hierarchy as a table by host, and the host of a loop.
use Rattle.std.specs.Prelude.{ℕ, cond, List, get_or, eqb, Option, None, Some}
use Rattle.rules.specs.Table.{table_of}
use Rattle.rules.specs.Hierarchy.{pairs, supervisor_of, loop_host}

-- one for each host byte
abbrev pub host_count : ℕ
host_count = 256

unfoldable pub supervisors_in : List ℕ → List ℕ
supervisors_in bytes = table_of (supervisor_of (pairs bytes)) 0 host_count

-- the supervisor that a table gives a host
abbrev pub read_from : List ℕ → ℕ → ℕ
read_from table h = get_or table h 0

-- the first host in entry order that lies on a loop, and none where that is 0
unfoldable pub loop_found : List (List ℕ) → Option ℕ
loop_found entries = cond (eqb (loop_host entries) 0) None (Some (loop_host entries))
