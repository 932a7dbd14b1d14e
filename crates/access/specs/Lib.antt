-- What the lent access memory holds, and what a list in force leaves in it.
pub mod Memory
pub mod InForce
