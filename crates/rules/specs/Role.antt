-- Document 02, L5: permission says who. The role of a host for a processor, and over it what document 01 asks for: who is permitted, and who
-- is the recovery master. `proofs/Permission.antt` shows that both come out as document 01's words have them.
use Rattle.std.specs.Prelude.{ℕ, Bool, true, false, cond, not, ◌&&◌, List, [], ◌∷◌, eqb, Option, None, Some}
use Rattle.rules.specs.declared.Role.{Role}
use Rattle.rules.specs.declared.Role.TheVariants.{Master, Secondary0, Secondary1, Secondary2, Open}
use Rattle.rules.specs.Table.{Line, ◌gives◌, first_of}
use Rattle.rules.specs.Board.{Board, active_host}
use Rattle.rules.specs.AccessList.{Entry, has_entry}

-- secondary s is host h; a secondary of 0 is unused and names nobody
unfoldable pub names_host : ℕ → ℕ → Bool
names_host s h = not (eqb s 0) && eqb s h

-- by an entry: recovery master, secondary 0, 1 or 2 (the lowest place that names the host); a host that is both counts as master
unfoldable pub role_table : Entry → ℕ → List (Line (Option Role))
role_table e h =
    (eqb e.master h gives Some Master)
    ∷ (names_host e.first h gives Some Secondary0)
    ∷ (names_host e.second h gives Some Secondary1)
    ∷ (names_host e.third h gives Some Secondary2)
    ∷ []

-- the role of host h: by the entry where there is one; else the processor is open to every board host but 0; or none
unfoldable pub role_of : Board → Entry → ℕ → Option Role
role_of b e h = cond (has_entry e) (first_of None (role_table e h)) (cond (active_host b h) (Some Open) None)

-- the recovery master
abbrev pub is_master : Option Role → Bool
is_master (Some Master) = true
is_master role = false

-- every role but none permits
abbrev pub permits : Option Role → Bool
permits None = false
permits (Some _) = true

-- "permitted", 01's term
unfoldable pub permitted : Board → Entry → ℕ → Bool
permitted b e h = permits (role_of b e h)

-- a role's number in the log
abbrev pub role_number : Option Role → ℕ
role_number None = 0
role_number (Some Master) = 1
role_number (Some Secondary0) = 2
role_number (Some Secondary1) = 3
role_number (Some Secondary2) = 4
role_number (Some Open) = 5
