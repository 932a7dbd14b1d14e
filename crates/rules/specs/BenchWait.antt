-- Document 02, L9, on the bench: worked cases of a wait's `waits` and `matches`, as one table in the form of `starred`.
-- `proofs/Bench.antt` checks it.
use Rattle.std.specs.Prelude.{ℕ, List, [], ◌∷◌, ◌++◌, replicate, Err}
use Rattle.rules.specs.Outcome.{Outcome, OK}
use Rattle.rules.specs.declared.Refusal.TheVariants.{R3, N7, N8, N9}
use Rattle.rules.specs.Bytes.{u32_bytes}
use Rattle.rules.specs.Call.{Call}
use Rattle.rules.specs.Bench.{sent, header, held_by3, held_with, answer, Case}

-- ---- the calls of the cases

-- a wait on processor 1 with these header flags, delays of 2 and 1, and this set-any mask alone
abbrev pub wait_for : ℕ → ℕ → ℕ → ℕ → ℕ → List ℕ → Call
wait_for host flags mask waits matches words =
    sent host
    (header 0x01 0xC4 host flags ++ (0x01 ∷ waits ∷ matches ∷ 2 ∷ 1 ∷ [])
    ++ u32_bytes 0 ++ u32_bytes mask ++ u32_bytes 0 ++ u32_bytes 0)
    words

-- ---- the table

-- the call's outcome, checks, microseconds and written bytes, while host 3 controls processor 1; no record changes
abbrev pub gets : Call → Outcome → ℕ → ℕ → List ℕ → Case
gets call outcome checks micros bytes =
    record { earlier = held_by3; call = call; gives = answer outcome checks micros bytes (held_with 3 0) }

-- waits and matches, from host 3, which asks for an answer; a word of 1 matches and a word of 0 does not
abbrev pub asks : ℕ → ℕ → List ℕ → Call
asks waits matches words = wait_for 3 2 1 waits matches words

-- the answers to it
abbrev pub ack : List ℕ
ack = header 0x01 0xC4 3 2

abbrev pub nak : List ℕ
nak = header 0x01 0xC4 3 0

unfoldable pub counted : List Case
counted =
    -- waits 3, matches 4: N8, with no words, with too few, with as many as the waits or the matches, all matching
    gets (asks 3 4 []) (Err N8) 0 0 nak
    ∷ gets (asks 3 4 (1 ∷ 1 ∷ [])) (Err N8) 0 0 nak
    ∷ gets (asks 3 4 (1 ∷ 1 ∷ 1 ∷ [])) (Err N8) 0 0 nak
    ∷ gets (asks 3 4 (1 ∷ 1 ∷ 1 ∷ 1 ∷ [])) (Err N8) 0 0 nak
    -- and nothing is written where no answer was asked for
    ∷ gets (wait_for 3 0 1 3 4 []) (Err N8) 0 0 []
    -- 3 and 3 are served: OK at the last check, N9 at one word that does not match, wherever it stands
    ∷ gets (asks 3 3 (1 ∷ 1 ∷ 1 ∷ [])) OK 3 7 ack
    ∷ gets (asks 3 3 (1 ∷ 1 ∷ 0 ∷ [])) (Err N9) 3 7 nak
    ∷ gets (asks 3 3 (1 ∷ 0 ∷ 1 ∷ [])) (Err N9) 3 7 nak
    ∷ gets (asks 3 3 (0 ∷ 1 ∷ 1 ∷ [])) (Err N9) 3 7 nak
    -- no more than `waits` words are checked: a run that goes on behind them ends nothing
    ∷ gets (asks 3 3 (0 ∷ 1 ∷ 1 ∷ 1 ∷ [])) (Err N9) 3 7 nak
    -- and with fewer words than waits R3
    ∷ gets (asks 3 3 []) (Err R3) 0 0 []
    ∷ gets (asks 3 3 (1 ∷ 1 ∷ [])) (Err R3) 0 0 []
    -- fewer matches than waits are served as ever
    ∷ gets (asks 4 3 (0 ∷ 1 ∷ 1 ∷ 1 ∷ [])) OK 4 9 ack
    ∷ gets (asks 3 1 (0 ∷ 1 ∷ 0 ∷ [])) OK 2 5 ack
    -- the smallest numbers and the largest
    ∷ gets (asks 1 1 (1 ∷ [])) OK 1 3 ack
    ∷ gets (asks 1 2 (1 ∷ 1 ∷ [])) (Err N8) 0 0 nak
    ∷ gets (asks 255 255 []) (Err R3) 0 0 []
    ∷ gets (asks 254 255 (replicate 255 1)) (Err N8) 0 0 nak
    -- 0 is refused as ever, also where the numbers are equal or matches are below waits
    ∷ gets (asks 0 0 []) (Err N8) 0 0 nak
    ∷ gets (asks 0 1 (1 ∷ [])) (Err N8) 0 0 nak
    ∷ gets (asks 1 0 (1 ∷ [])) (Err N8) 0 0 nak
    -- and equal numbers without a mask
    ∷ gets (wait_for 3 2 0 3 3 (1 ∷ 1 ∷ 1 ∷ [])) (Err N8) 0 0 nak
    -- the right is tested before the operands: host 6 is not permitted
    ∷ gets (wait_for 6 2 1 3 4 []) (Err N7) 0 0 (header 0x01 0xC4 6 0)
    ∷ []
