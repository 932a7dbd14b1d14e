-- What the proofs of this crate and of those above it share.
pub mod Extents
pub mod Read
pub mod Stores
pub mod EmptyBoard
