-- What the proofs of this crate and of those above it share.
pub mod Tables
pub mod EachCall
pub mod Types
