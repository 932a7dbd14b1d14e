-- What the proofs of this crate and of those above it share.
pub mod Digits
pub mod Lines
pub mod Printing
