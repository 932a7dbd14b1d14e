-- The room that a line needs, and the text of a verdict.
pub mod Names
pub mod Texts
