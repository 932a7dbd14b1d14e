-- What the proofs of this crate share.
pub mod Digits
pub mod Laid
pub mod Offers
