-- The rows that several types test alike, as the code looks for what it needs: what is found where they are passed, or the first row that refuses. A
-- type's structure has `size` bytes.
use Rattle.std.specs.Prelude.{ℕ, Bool, not, List, [], ◌∷◌, length, ltb, Result, Ok, Err}
use Rattle.rules.specs.declared.Refusal.{Refusal}
use Rattle.rules.specs.declared.Refusal.TheVariants.{N4, N6, N7}
use Rattle.rules.specs.Table.{◌gives◌, first_of}
use Rattle.rules.specs.Board.{Board, row_of, on_board}
use Rattle.rules.specs.Message.{processor_of}
use Rattle.rules.specs.Outcome.{is_controller}
use Rattle.rules.specs.Role.{permitted}
use Rattle.access.specs.Memory.{entry_at}
use Rattle.record.specs.Memory.{record_at}
use Rattle.message_operation.specs.declared.admission.Subject.{Subject}

-- N4 and N6: the row of the processor that the message names
unfoldable pub row_named : Board → List ℕ → ℕ → Result ℕ Refusal
row_named b message size =
    first_of (Ok (row_of b (processor_of message)))
    ((ltb (length message) size gives Err N4) ∷ (not (on_board b (processor_of message)) gives Err N6) ∷ [])

-- and N7, where the right depends on the row
unfoldable pub with_right : {A : Type 0} → (ℕ → Bool) → (ℕ → A) → Result ℕ Refusal → Result A Refusal
with_right right found (Ok row) = first_of (Ok (found row)) ((not (right row) gives Err N7) ∷ [])
with_right right found (Err refusal) = Err refusal

-- a type that the controller alone may send: the row and the record
unfoldable pub controlled : Board → List ℕ → ℕ → List ℕ → ℕ → Result Subject Refusal
controlled b records channel message size =
    with_right (λ row. is_controller (record_at b records row) channel)
    (λ row. record { row = row; state = record_at b records row })
    (row_named b message size)

-- one that every permitted host may send: the row
unfoldable pub permitted_row : Board → List ℕ → ℕ → List ℕ → ℕ → Result ℕ Refusal
permitted_row b access channel message size =
    with_right (λ row. permitted b (entry_at access row) channel) (λ row. row) (row_named b message size)
