-- What the three offers promise, over the definitions that demand 3 is about.
use Rattle.std.specs.Prelude.{ℕ, ◌≡◌, List}
use Rattle.rules.specs.Verdict.{Verdict, reported_host}
use Rattle.rules.specs.Description.{board_verdict}
use Rattle.rules.specs.AccessList.{verdict_of}
use Rattle.rules.specs.Block.{block_verdict}
use Rattle.rules.specs.Call.{board, list, block, offer, next}
use Rattle.board.specs.Memory.{board_in}
use Rattle.board_setup.specs.Setup.{board_after}
use Rattle.access.specs.Memory.{listed_in}
use Rattle.call_offer.specs.AccessAfter.{access_after, access_after_block}
use Rattle.record.specs.Memory.{state_in, kept}

-- for any content of the board memory and of the access memory, and any description: the verdict and the board memory afterwards are what the
-- rules give; read with any records, the memories hold what is kept of the rules' next state
pub record BoardCall (memory access bytes memory' : List ℕ) (r : Verdict) : Type 0 where
  pub verdict : r ≡ board_verdict (listed_in access) bytes
  pub memory_after_lem : memory' ≡ board_after memory (listed_in access) bytes
  pub state :
      (records : List ℕ) → state_in (board_in memory') access records ≡ kept (next (state_in (board_in memory) access records) (offer (board bytes)))

-- and for any list: the verdict and the access memory afterwards are what the rules give on the board that the memory holds; read with any records,
-- the memories hold what is kept of the rules' next state
pub record ListCall (memory access bytes access' : List ℕ) (r : Verdict) : Type 0 where
  pub verdict : r ≡ verdict_of (board_in memory) (listed_in access) bytes
  pub access_after_lem : access' ≡ access_after (board_in memory) access bytes
  pub state :
      (records : List ℕ) → state_in (board_in memory) access' records ≡ kept (next (state_in (board_in memory) access records) (offer (list bytes)))

-- the same for any two ABI bytes and any block, with the host that is reported
pub record BlockCall (memory access : List ℕ) (major minor : ℕ) (bytes access' : List ℕ) (r : Verdict) : Type 0 where
  pub verdict : r ≡ block_verdict (board_in memory) (listed_in access) major minor bytes
  pub host : reported_host r ≡ reported_host (block_verdict (board_in memory) (listed_in access) major minor bytes)
  pub access_after_lem : access' ≡ access_after_block (board_in memory) access major minor bytes
  pub state :
      (records : List ℕ)
      → state_in (board_in memory) access' records ≡ kept (next (state_in (board_in memory) access records) (offer (block major minor bytes)))
