-- What the proofs of this crate and of those above it share.
pub mod Fields
pub mod Listed
pub mod EarlierItems
pub mod Verdicts
