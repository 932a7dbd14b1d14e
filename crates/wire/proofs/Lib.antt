-- What the proofs of this crate and of those above it share.
pub mod Fields
pub mod Moved
pub mod Numbers
pub mod Past
pub mod Puts
