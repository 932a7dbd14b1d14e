-- The line of an offer, laid over the start of what is lent where there is room for any line, and its length.
use Rattle.std.specs.Prelude.{ℕ, List}
use Rattle.rules.specs.Verdict.{Verdict}
use Rattle.rules.specs.Recording.{offer_line}
use Rattle.recording_texts.specs.Texts.{has_room, printed, Printed}

abbrev pub PrintedOffer : List ℕ → List ℕ → Verdict → List ℕ → ℕ → Type 0
PrintedOffer line word v line' n = Printed line (printed (has_room line) (offer_line word v)) line' n
