-- What the feeding function and the announced end promise.
pub mod Pending
pub mod Carry
pub mod Feed
pub mod Statement
