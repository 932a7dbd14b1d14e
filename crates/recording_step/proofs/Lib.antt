-- What the proofs of this crate and of those above it share.
pub mod Calls
pub mod Fields
pub mod Kept
