-- Traces of the exported functions: calls of `pomrozek_board`, `pomrozek_list`, `pomrozek_block` and `pomrozek_message` one after the other, over the
-- three memories that the caller lends, where every call meets its contract and nobody else writes to the memories. Whatever code meets the contracts
-- has these traces.
use Rattle.std.specs.Prelude.{ℕ, ◌≡◌, List, [], ◌∷◌, ◌++◌, replicate}
use Rattle.rules.specs.Board.{Board}
use Rattle.rules.specs.Description.{ours}
use Rattle.rules.specs.Block.{list_part}
use Rattle.rules.specs.Call.{board, list, block, Lent, Call, offer, message}
use Rattle.board.specs.Memory.{board_in, board_bytes}
use Rattle.access.specs.Memory.{access_size}
use Rattle.record.specs.Memory.{record_size, Memories, memories}
use Rattle.pomrozek.specs.Exported.{ExportedBoard, ExportedList, ExportedBlock, ExportedMessage}

-- a fresh manager's memories: what the start function leaves, and zeros
abbrev pub started : Memories
started = memories (board_bytes ours) (replicate access_size 0) (replicate record_size 0)

-- one call: what it was lent, the memories before and after it, and what it gave. Of an offer the verdict's number, of a block the loop word too; of
-- a message the outcome's number, the words of the report, and what the buffer holds
pub data Step : Type 0 where
  board_step : List ℕ → Memories → Memories → ℕ → Step
  list_step : List ℕ → Memories → Memories → ℕ → Step
  block_step : ℕ → ℕ → List ℕ → Memories → Memories → ℕ → List ℕ → Step
  message_step : Lent → Memories → Memories → ℕ → List ℕ → List ℕ → Step

unfoldable pub before_of : Step → Memories
before_of (board_step bytes before after verdict) = before
before_of (list_step bytes before after verdict) = before
before_of (block_step major minor bytes before after verdict loop) = before
before_of (message_step lent before after outcome report held) = before

unfoldable pub after_of : Step → Memories
after_of (board_step bytes before after verdict) = after
after_of (list_step bytes before after verdict) = after
after_of (block_step major minor bytes before after verdict loop) = after
after_of (message_step lent before after outcome report held) = after

unfoldable pub call_of : Step → Call
call_of (board_step bytes before after verdict) = offer (board bytes)
call_of (list_step bytes before after verdict) = offer (list bytes)
call_of (block_step major minor bytes before after verdict loop) = offer (block major minor bytes)
call_of (message_step lent before after outcome report held) = message lent

-- a step meets the contract of its call, and what the call does not get, or only borrows, stays
unfoldable pub Meets : Step → Type 0
Meets (board_step bytes before after verdict) =
    ExportedBoard before.board before.access bytes after.board verdict
    × (after.access ≡ before.access) × (after.records ≡ before.records)
Meets (list_step bytes before after verdict) =
    ExportedList before.board before.access bytes after.access verdict
    × (after.board ≡ before.board) × (after.records ≡ before.records)
Meets (block_step major minor bytes before after verdict loop) =
    ExportedBlock before.board before.access major minor bytes after.access loop verdict
    × (after.board ≡ before.board) × (after.records ≡ before.records)
Meets (message_step lent before after outcome report held) =
    ExportedMessage before lent after.records held report outcome × (after.board ≡ before.board) × (after.access ≡ before.access)

-- steps that meet their contracts, from memories m on, each over what the last one left
pub data Trace : Memories → List Step → Type 0 where
  done : {m : Memories} → Trace m []
  step : {m : Memories} {x : Step} {xs : List Step} → before_of x ≡ m → Meets x → Trace (after_of x) xs → Trace m (x ∷ xs)

-- the memories that steps from m leave
unfoldable pub end_of : Memories → List Step → Memories
end_of m [] = m
end_of m (x ∷ xs) = end_of (after_of x) xs

unfoldable pub calls_of : List Step → List Call
calls_of [] = []
calls_of (x ∷ xs) = call_of x ∷ calls_of xs

-- a step that accepted a list, verdict 0: the lone list, or a block with that list (document 02, L1)
unfoldable pub Loads : Step → List ℕ → Type 0
Loads (board_step bytes before after verdict) taken = ⊥
Loads (list_step bytes before after verdict) taken = (verdict ≡ 0) × (bytes ≡ taken)
Loads (block_step major minor bytes before after verdict loop) taken = (verdict ≡ 0) × (list_part bytes ≡ taken)
Loads (message_step lent before after outcome report held) taken = ⊥

-- memories in which a list has just been accepted on board b, alone or in a block: a trace from a fresh manager's leads there, of which the last step
-- accepted that list, and b is in force
pub record Loaded (b : Board) (bytes : List ℕ) (m : Memories) : Type 0 where
  pub earlier : List Step
  pub last : Step
  pub trace : Trace started (earlier ++ (last ∷ []))
  pub takes : Loads last bytes
  pub left : after_of last ≡ m
  pub in_force_lem : board_in m.board ≡ b
