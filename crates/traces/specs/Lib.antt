-- Traces of the code, demand 3 as a claim about them, and what they leave in the tallies.
pub mod Trace
pub mod Statement
pub mod Warranty
