-- What the lent board memory holds; and its bytes where nothing is listed.
pub mod Memory
pub mod EmptyBoard
