-- What an offer comes to: accepted, or refused by a row of document 01's table for lists or of document 02's for offers; the number of each, and
-- the host that B8 reports.
use Rattle.std.specs.Prelude.{ℕ, Bool, true, false, Result, Ok, Err}
use Rattle.rules.specs.declared.Fault.{Fault}
use Rattle.rules.specs.declared.Fault.TheVariants.{A1, A2, A3, A4, A5, A6, A7, A8, B1, B2, B3, B4, B5, B6, B7, B8, B9, B10, D1, D2, D3, D4, D5, D6}

abbrev pub Verdict : Type 0
Verdict = Result Unit Fault

abbrev pub Accepted : Verdict
Accepted = Ok tt

unfoldable pub accepted : Verdict → Bool
accepted (Ok _) = true
accepted (Err _) = false

-- the number of a refusal: k for Ak, 100 + k for Bk, 200 + k for Dk
abbrev pub fault_number : Fault → ℕ
fault_number A1 = 1
fault_number A2 = 2
fault_number A3 = 3
fault_number A4 = 4
fault_number A5 = 5
fault_number A6 = 6
fault_number A7 = 7
fault_number A8 = 8
fault_number B1 = 101
fault_number B2 = 102
fault_number B3 = 103
fault_number B4 = 104
fault_number B5 = 105
fault_number B6 = 106
fault_number B7 = 107
fault_number (B8 _) = 108
fault_number B9 = 109
fault_number B10 = 110
fault_number D1 = 201
fault_number D2 = 202
fault_number D3 = 203
fault_number D4 = 204
fault_number D5 = 205
fault_number D6 = 206

-- and of a verdict: 0 for what was accepted
abbrev pub verdict_number : Verdict → ℕ
verdict_number (Ok _) = 0
verdict_number (Err fault) = fault_number fault

-- the host that B8 reports; with any other verdict none, which is 0
abbrev pub reported_host : Verdict → ℕ
reported_host (Err (B8 host)) = host
reported_host v = 0
