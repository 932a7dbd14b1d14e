-- Demand 3 of the code: what a trace leaves and gives, the theorem, and one use of it. The tallies of the code.
pub mod Steps
pub mod Theorem
pub mod Warranty
pub mod OnTheBench
pub mod OnThePack
pub mod OnABlock
