-- Document 02, L5, on the bench: worked cases of the role that a call reports, as one table. Each row has the calls made before, from a fresh
-- manager; the call; and the outcome and the role that it reports. `proofs/Bench.antt` checks the table.
use Rattle.std.specs.Prelude.{ℕ, List, [], ◌∷◌, ◌++◌, replicate, Err, Option, None, Some}
use Rattle.rules.specs.Outcome.{Outcome, OK}
use Rattle.rules.specs.declared.Refusal.TheVariants.{R1, R2, R3, N1, N2, N3, N4, N5, N6, N7, N8, N9}
use Rattle.rules.specs.declared.Role.{Role}
use Rattle.rules.specs.declared.Role.TheVariants.{Master, Secondary0, Secondary1, Secondary2, Open}
use Rattle.rules.specs.State.{State}
use Rattle.rules.specs.Call.{list, answer_to, Lent, query_of, Call, offer}
use Rattle.rules.specs.Bench.{header}
use Rattle.rules.specs.BenchCluster.{request}

-- ---- the calls of the cases

-- the list used. Processor 1: master 3, secondaries 5, 3, 5, so that host 3 stands in two places and host 5 in two. Processor 2: master 10,
-- secondaries 0, 6, 6, the first of them unused. Processor 32: master 3, secondaries 3, 0, 12. Processor 33 has no entry
abbrev pub role_list : List ℕ
role_list =
    (0xEA ∷ 0xF1 ∷ 0x24 ∷ 0x01 ∷ [])
    ++ (0x01 ∷ 0x03 ∷ 0x00 ∷ 0x05 ∷ 0x00 ∷ 0x03 ∷ 0x00 ∷ 0x05 ∷ 0x00 ∷ [])
    ++ (0x02 ∷ 0x0A ∷ 0x00 ∷ 0x00 ∷ 0x00 ∷ 0x06 ∷ 0x00 ∷ 0x06 ∷ 0x00 ∷ [])
    ++ (0x20 ∷ 0x03 ∷ 0x00 ∷ 0x03 ∷ 0x00 ∷ 0x00 ∷ 0x00 ∷ 0x0C ∷ 0x00 ∷ [])
    ++ replicate 261 0

-- what host `channel` sends: a message by its type's bytes with host `host` in its header, and the fields behind the header; an answer of at
-- most `room` bytes
abbrev pub sent_via : ℕ → ℕ → ℕ → ℕ → List ℕ → List ℕ → ℕ → Lent
sent_via channel host low high fields words room =
    record { channel = channel; message = header low high host 2 ++ fields; status = words; buffer = replicate room 0 }

-- from a host's own channel
abbrev pub sent_by : ℕ → ℕ → ℕ → List ℕ → List ℕ → Lent
sent_by host low high fields words = sent_via host host low high fields words 29

abbrev pub requesting : ℕ → ℕ → Lent
requesting host p = sent_by host 0x00 0xC0 (p ∷ []) []

abbrev pub list_taken : List Call
list_taken = offer (list role_list) ∷ []

abbrev pub after : ℕ → ℕ → List Call
after host p = offer (list role_list) ∷ request host p ∷ []

-- ---- the table

pub record RoleCase : Type 0 where
  pub earlier : List Call
  pub call : Lent
  pub outcome : Outcome
  pub role : Option Role

-- what of a report the table shows
abbrev pub Shown : Type 0
Shown = Outcome × Option Role

unfoldable pub shown_in : State → Lent → Shown
shown_in s lent = ((answer_to s (query_of lent)).report.outcome, (answer_to s (query_of lent)).report.role)

abbrev pub case : List Call → Lent → Outcome → Option Role → RoleCase
case earlier call outcome role = record { earlier = earlier; call = call; outcome = outcome; role = role }

unfoldable pub roled : List RoleCase
roled =
    -- a host that is both counts as master; of several places the lowest counts
    case list_taken (requesting 3 1) OK (Some Master)
    ∷ case list_taken (requesting 3 32) OK (Some Master)
    ∷ case list_taken (requesting 5 1) OK (Some Secondary0)
    ∷ case list_taken (requesting 6 2) OK (Some Secondary1)
    ∷ case list_taken (requesting 12 32) OK (Some Secondary2)
    ∷ case list_taken (requesting 10 2) OK (Some Master)
    ∷ case list_taken (requesting 6 33) OK (Some Open)
    -- one refused by N7 carries the role that it was refused with
    ∷ case (after 3 1) (requesting 5 1) (Err N7) (Some Secondary0)
    ∷ case (after 5 1) (requesting 5 1) (Err N7) (Some Secondary0)
    ∷ case (after 10 2) (requesting 6 2) (Err N7) (Some Secondary1)
    ∷ case (after 3 32) (requesting 12 32) (Err N7) (Some Secondary2)
    ∷ case (after 6 33) (requesting 3 33) (Err N7) (Some Open)
    ∷ case list_taken (requesting 12 1) (Err N7) None
    ∷ case (after 3 1) (requesting 12 1) (Err N7) None
    -- the recovery master takes a processor that another holds
    ∷ case (after 5 1) (requesting 3 1) OK (Some Master)
    -- requests refused before N7 carry none, also those of the recovery master
    ∷ case list_taken (sent_via 3 3 0x00 0xC0 (1 ∷ []) [] 28) (Err R1) None
    ∷ case list_taken (sent_by 3 0x00 0xC0 (replicate 53 1) []) (Err R2) None
    ∷ case [] (requesting 3 1) (Err N1) None
    ∷ case list_taken (sent_via 5 3 0x00 0xC0 (1 ∷ []) [] 29) (Err N2) None
    ∷ case list_taken (sent_by 3 0x00 0xC0 [] []) (Err N4) None
    ∷ case list_taken (requesting 3 7) (Err N6) None
    -- other messages carry none
    ∷ case (after 3 1) (sent_by 3 0x01 0xC0 (1 ∷ []) []) OK None
    ∷ case (after 5 1) (sent_by 3 0x01 0xC0 (1 ∷ []) []) (Err N7) None
    ∷ case (after 3 1) (sent_by 3 0x05 0xC0 (1 ∷ 5 ∷ []) []) OK None
    ∷ case (after 3 1) (sent_by 3 0x05 0xC0 (1 ∷ 6 ∷ []) []) (Err N8) None
    ∷ case (after 3 1) (sent_by 3 0x00 0xC1 (1 ∷ replicate 16 0) []) OK None
    ∷ case (after 3 1) (sent_by 3 0x01 0xC1 (1 ∷ replicate 8 0) []) OK None
    ∷ case (after 3 1) (sent_by 3 0x20 0xC1 (replicate 8 0) []) (Err N5) None
    ∷ case (after 3 1) (sent_by 5 0x00 0xC4 (1 ∷ []) (9 ∷ [])) OK None
    ∷ case (after 3 1) (sent_by 5 0x00 0xC4 (1 ∷ []) []) (Err R3) None
    ∷ case (after 3 1) (sent_by 5 0x01 0xC4 ((1 ∷ 1 ∷ 1 ∷ 0 ∷ 0 ∷ []) ++ (1 ∷ replicate 15 0)) (0 ∷ [])) (Err N9) None
    ∷ case (after 3 1) (sent_by 5 0x01 0xC4 ((1 ∷ 1 ∷ 1 ∷ 0 ∷ 0 ∷ []) ++ (1 ∷ replicate 15 0)) (1 ∷ [])) OK None
    ∷ case (after 3 1) (sent_by 3 0x02 0xC0 (1 ∷ []) []) (Err N3) None
    ∷ []
