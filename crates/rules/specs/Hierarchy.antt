-- Document 02, L1: the host hierarchy of the security board configuration (source document 004), 68 bytes: magic 0x8D27, size 68, and 32 pairs of
-- host and supervisor. Why it is refused, in order; following supervisors, and the loop that this may come to.
use Rattle.std.specs.Prelude.{ℕ, zero, suc, ◌≤◌, ◌≡◌, Bool, true, false, cond, not, ◌&&◌, ◌||◌, List, [], ◌∷◌, ◌++◌, length, eqb, Err}
use Rattle.rules.specs.declared.Fault.TheVariants.{B3, B4, B5, B6, B7, B8}
use Rattle.rules.specs.Verdict.{Verdict}
use Rattle.rules.specs.Table.{Line, ◌gives◌, place_of}
use Rattle.rules.specs.Bytes.{byte_at}
use Rattle.rules.specs.Board.{Board, board_host}
use Rattle.rules.specs.Substructure.{entry_count, magic_in, size_in, parts_from, number_in, used, names, named_in, in_turn}

-- ---- the hierarchy's entries

abbrev pub hierarchy_size : ℕ
hierarchy_size = 68

abbrev pub pair_size : ℕ
pair_size = 2

abbrev pub pairs : List ℕ → List (List ℕ)
pairs bytes = parts_from pair_size bytes 0 entry_count

abbrev pub host_in : List ℕ → ℕ
host_in pair = number_in pair

abbrev pub supervisor_in : List ℕ → ℕ
supervisor_in pair = byte_at pair 1

-- ---- following supervisors

-- the supervisor of a host, by the first used entry that names it. A host without an entry has none, which is 0, and so has host 0
unfoldable pub supervisor_of : List (List ℕ) → ℕ → ℕ
supervisor_of [] h = 0
supervisor_of (pair ∷ rest) h = cond (names h pair) (supervisor_in pair) (supervisor_of rest h)

-- following supervisors from host x comes to host h, before it ends at 0; n hosts are looked at, x the first
unfoldable pub meets : (ℕ → ℕ) → ℕ → ℕ → ℕ → Bool
meets up h zero x = false
meets up h (suc n) x = not (eqb x 0) && (eqb x h || meets up h n (up x))

-- host h "lies on" a loop: following supervisors from it comes back to it. A loop has no more hosts than there are entries
unfoldable pub on_loop : List (List ℕ) → ℕ → Bool
on_loop entries h = meets (supervisor_of entries) h (length entries) (supervisor_of entries h)

-- the host of the first entry whose host passes a test, and 0 where none does
unfoldable pub first_host : (ℕ → Bool) → List (List ℕ) → ℕ
first_host test [] = 0
first_host test (pair ∷ rest) = cond (test (host_in pair)) (host_in pair) (first_host test rest)

-- the first host in entry order that lies on a loop, and 0 where none does
unfoldable pub loop_host : List (List ℕ) → ℕ
loop_host entries = first_host (on_loop entries) entries

-- ---- why a hierarchy is refused

-- B5 to B7 of one entry, after the entries before it. Supervisor 0 is a board host
unfoldable pub pair_table : Board → List (List ℕ) → List ℕ → List (Line Verdict)
pair_table b earlier pair =
    (used pair && not (board_host b (host_in pair)) gives Err B5)
    ∷ (used pair && not (board_host b (supervisor_in pair)) gives Err B6)
    ∷ (used pair && named_in earlier (host_in pair) gives Err B7)
    ∷ []

-- B3 and B4, then the entries 0 to 31, and after the last one the loop, whose first host in entry order B8 reports
unfoldable pub hierarchy_table : Board → List ℕ → List (Line Verdict)
hierarchy_table b bytes =
    (not (eqb (magic_in bytes) 0x8D27) gives Err B3)
    ∷ (not (eqb (size_in bytes) hierarchy_size) gives Err B4)
    ∷ (in_turn (pair_table b) [] (pairs bytes) ++ ((not (eqb (loop_host (pairs bytes)) 0) gives Err (B8 (loop_host (pairs bytes)))) ∷ []))

-- ---- what this means, for a way of any length; shown in proofs/Hierarchy.antt

-- the host that n steps from h come to
unfoldable pub climb : (ℕ → ℕ) → ℕ → ℕ → ℕ
climb up zero h = h
climb up (suc n) h = climb up n (up h)

-- following supervisors ends at host 0 or at a host without an entry
abbrev pub at_end : List (List ℕ) → ℕ → Bool
at_end entries h = eqb h 0 || not (named_in entries h)

-- and does so from h, after no more steps than there are entries
abbrev pub Ends : List (List ℕ) → ℕ → Type 0
Ends entries h = (n : ℕ) × (n ≤ length entries) × (at_end entries (climb (supervisor_of entries) n h) ≡ true)

-- host h, which has an entry, comes back to itself after some number of steps. None of the hosts on this way is without an entry, since behind one
-- comes 0 for ever
pub record OnLoop (entries : List (List ℕ)) (h : ℕ) : Type 0 where
  pub entry : named_in entries h ≡ true
  pub steps : ℕ
  pub back : climb (supervisor_of entries) (suc steps) h ≡ h

-- h lies on a loop, and every host that does has its entry there or later
pub record FirstOnLoop (entries : List (List ℕ)) (h : ℕ) : Type 0 where
  pub lies : OnLoop entries h
  pub first : (x : ℕ) → OnLoop entries x → place_of (names h) entries ≤ place_of (names x) entries
