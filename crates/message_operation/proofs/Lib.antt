-- What the proofs of this crate share.
pub mod Rows
pub mod StatusWords
pub mod Told
