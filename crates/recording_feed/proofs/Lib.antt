-- What the proofs of this crate share.
pub mod Buffers
pub mod Moves
pub mod Turns
pub mod Sights
pub mod Stops
pub mod Reach
pub mod Theorem
