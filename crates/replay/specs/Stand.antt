-- The place in the piece is not behind its end, and the piece is within the buffer.
use Rattle.std.specs.Prelude.{ℕ, ◌≤◌}
use Rattle.replay.specs.declared.Stand.{Stand}

abbrev pub buffer_size : ℕ
buffer_size = 65536

pub record Within (s : Stand) : Type 0 where
  pub place : s.at ≤ s.end
  pub end_in : s.end ≤ buffer_size
