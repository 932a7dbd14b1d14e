-- The line of an offer, as it is printed.
pub mod Offers
