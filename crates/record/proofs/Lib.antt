-- What the proofs of this crate and of those above it share.
pub mod LentMemory
pub mod Counted
pub mod Kept
pub mod Changes
