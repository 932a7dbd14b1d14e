-- Demand 3 holds: which choices there are, the laws of one call, whole sequences, the theorem, and uses of it.
pub mod Choices
pub mod OneCall
pub mod Sequences
pub mod Theorem
pub mod OnTheBench
pub mod OnThePack
pub mod Clusters
