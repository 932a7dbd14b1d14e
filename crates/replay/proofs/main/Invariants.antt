-- `replay::main`: between two turns the place in the piece is within the piece, and the piece within the buffer.
use Rattle.replay.specs.Stand.{Within}
use Rattle.replay.proofs.main.Given as goal

abbrev pub invariant-loop : goal.invariant-loop
invariant-loop l = Within l.stand
