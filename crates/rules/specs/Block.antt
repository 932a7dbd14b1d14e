-- Document 02, L1: the whole security board configuration (source document 004), 431 bytes: two ABI bytes, the access list, the host hierarchy and
-- the OTP part. Why a block is refused, in order, and the host that a refusal reports.
use Rattle.std.specs.Prelude.{ℕ, ◌+◌, Bool, not, ◌&&◌, List, [], ◌∷◌, ◌++◌, length, take, drop, eqb, Err}
use Rattle.rules.specs.Verdict.{Verdict, Accepted}
use Rattle.rules.specs.declared.Fault.TheVariants.{A1, B1, B2, B9, B10}
use Rattle.rules.specs.Table.{Line, ◌gives◌, first_of}
use Rattle.rules.specs.Bytes.{byte_at}
use Rattle.rules.specs.Board.{Board}
use Rattle.rules.specs.Substructure.{magic_in, size_in}
use Rattle.rules.specs.AccessList.{list_size, content_table}
use Rattle.rules.specs.Hierarchy.{hierarchy_size, hierarchy_table}

-- ---- the block's parts, one behind the other after the two ABI bytes

abbrev pub list_place : ℕ
list_place = 2

abbrev pub list_part : List ℕ → List ℕ
list_part block = take list_size (drop list_place block)

abbrev pub hierarchy_place : ℕ
hierarchy_place = list_place + list_size

abbrev pub hierarchy_part : List ℕ → List ℕ
hierarchy_part block = take hierarchy_size (drop hierarchy_place block)

abbrev pub otp_place : ℕ
otp_place = hierarchy_place + hierarchy_size

-- 32 pairs and a write host behind its header
abbrev pub otp_size : ℕ
otp_size = 69

abbrev pub otp_part : List ℕ → List ℕ
otp_part block = take otp_size (drop otp_place block)

-- 431
abbrev pub block_size : ℕ
block_size = otp_place + otp_size

-- ---- why a block is refused

-- the ABI bytes, major and minor, equal the two that the caller names
abbrev pub abi_good : ℕ → ℕ → List ℕ → Bool
abi_good major minor block = eqb (byte_at block 0) major && eqb (byte_at block 1) minor

-- B9 and B10; the other bytes of the OTP part are not judged
unfoldable pub otp_table : List ℕ → List (Line Verdict)
otp_table bytes = (not (eqb (magic_in bytes) 0x4081) gives Err B9) ∷ (not (eqb (size_in bytes) otp_size) gives Err B10) ∷ []

-- A1, where a list or a block was accepted, B1 and B2; the list's A3 to A8; the hierarchy's B3 to B8; B9 and B10
unfoldable pub block_table : Board → Bool → ℕ → ℕ → List ℕ → List (Line Verdict)
block_table b listed major minor block =
    (listed gives Err A1)
    ∷ (not (eqb (length block) block_size) gives Err B1)
    ∷ (not (abi_good major minor block) gives Err B2)
    ∷ (content_table b (list_part block) ++ (hierarchy_table b (hierarchy_part block) ++ otp_table (otp_part block)))

-- the first fault is reported
unfoldable pub block_verdict : Board → Bool → ℕ → ℕ → List ℕ → Verdict
block_verdict b listed major minor block = first_of Accepted (block_table b listed major minor block)
