-- What the proofs of this crate and of those above it share.
pub mod Lists
pub mod Steps
pub mod Rows
pub mod Fills
pub mod Started
