-- Laws of the judge of a block: what is left of the table behind each of its parts.
use Prim.Native.Nat.{ℕ}
use mathlib.Core.Path.{◌≡◌, sym, ap, ◌∙◌}
use mathlib.Core.Bool.{Bool, false}
use mathlib.Core.List.{List, ◌++◌}
use lib.ListN.{length}
use borrow.Author.Tests.{eq-eqb}
use Rattle.std.specs.Prelude.{Err}
use Rattle.rules.specs.declared.Fault.{Fault}
use Rattle.rules.specs.Table.{Line, first_of}
use Rattle.rules.specs.Bytes.{byte_at}
use Rattle.rules.specs.Verdict.{Verdict, Accepted, accepted}
use Rattle.rules.specs.Board.{Board}
use Rattle.rules.specs.AccessList.{content_table, verdict_of}
use Rattle.rules.specs.Hierarchy.{hierarchy_table}
use Rattle.rules.specs.Block.{list_part, block_size, hierarchy_part, otp_part, otp_table, block_table, block_verdict}
use Rattle.rules.proofs.Tests.{first_of-append}
use Rattle.rules.proofs.Blocks.{content-none, hierarchy-none, refused_number, list_length, alone-content, good_block}
use Rattle.access_list.proofs.Substructure.{fault-stops, good_falls}

-- ---- the parts' lines

abbrev content : Board → List ℕ → List (Line Verdict)
content b block = content_table b (list_part block)

abbrev hierarchy : Board → List ℕ → List (Line Verdict)
hierarchy b block = hierarchy_table b (hierarchy_part block)

abbrev otp : List ℕ → List (Line Verdict)
otp block = otp_table (otp_part block)

-- the parts decide, and the list has been judged
pub record PartsLeft (b : Board) (block : List ℕ) (whole fault : Verdict) : Type 0 where
  pub left : whole ≡ first_of (first_of Accepted (hierarchy b block ++ otp block)) (content b block)
  pub judged : fault ≡ first_of Accepted (content b block)

-- ---- before the parts

-- behind the length and the ABI bytes, the two that have been read, the parts decide
module _ (b : Board) (listed : Bool) (major minor : ℕ) (block : List ℕ) (first : listed ≡ false) (size : length block ≡ block_size)
    {x y : ℕ} (one : x ≡ byte_at block 0) (good : x ≡ major) (other : y ≡ byte_at block 1) (right : y ≡ minor) where
  past_length : block_verdict b listed major minor block ≡ first_of Accepted (content b block ++ (hierarchy b block ++ otp block))
  unfolding block_verdict block_table first_of
  past_length =
      rw (first, eq-eqb (length block) block_size size, eq-eqb (byte_at block 0) major (sym one ∙ good), eq-eqb (byte_at block 1) minor (sym other ∙ right))

  pub past-abi : {fault : Verdict} → fault ≡ verdict_of b false (list_part block) → PartsLeft b block (block_verdict b listed major minor block) fault
  past-abi judged =
      record {
        left = past_length ∙ first_of-append Accepted (content b block) (hierarchy b block ++ otp block);
        judged = judged ∙ alone-content b (list_part block) (list_length block size);
      }

-- ---- the parts

module _ {b : Board} {block : List ℕ} {whole fault : Verdict} (parts : PartsLeft b block whole fault) where
  -- a fault of the list comes before the hierarchy
  pub bad_list : {x : Fault} → fault ≡ Err x → whole ≡ Err x
  bad_list bad = parts.left ∙ fault-stops _ (content b block) parts.judged bad

  module _ {found : Verdict} (good : fault ≡ Accepted) (of-hierarchy : found ≡ first_of Accepted (hierarchy b block)) where
    past_list : whole ≡ first_of (first_of Accepted (otp block)) (hierarchy b block)
    past_list =
        parts.left
        ∙ good_falls _ (content b block) parts.judged (content-none accepted refused_number b (list_part block)) good
        ∙ first_of-append Accepted (hierarchy b block) (otp block)

    -- a fault of the hierarchy comes before the OTP part
    pub bad_hierarchy : {x : Fault} → found ≡ Err x → whole ≡ Err x
    bad_hierarchy bad = past_list ∙ fault-stops _ (hierarchy b block) of-hierarchy bad

    -- without one this decides
    pub otp-decides : {v : Verdict} → found ≡ Accepted → v ≡ first_of Accepted (otp block) → whole ≡ v
    otp-decides none told = past_list ∙ good_falls _ (hierarchy b block) of-hierarchy (hierarchy-none b (hierarchy_part block)) none ∙ sym told

-- ---- accepted

pub accepted-size : (b : Board) {v : Verdict} (listed : Bool) (major minor : ℕ) (block : List ℕ) → v ≡ block_verdict b listed major minor block → v ≡ Accepted
    → length block ≡ block_size
unfolding accepted
accepted-size b listed major minor block told good = (good_block b listed major minor block (ap accepted (sym told ∙ good))).size
