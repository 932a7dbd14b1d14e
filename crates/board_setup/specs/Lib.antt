-- What the board memory holds after an offer, and the steps that fill it.
pub mod Setup
