-- Where the program stands in the piece that it read.
pub mod Stand
