-- What the proofs of this crate and of those above it share.
pub mod EachCall
pub mod Verdicts
pub mod Offers
