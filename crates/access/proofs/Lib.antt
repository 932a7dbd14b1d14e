-- What the proofs of this crate and of those above it share.
pub mod Kept
pub mod InForce
pub mod Roles
