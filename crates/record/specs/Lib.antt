-- What the lent record memory holds, alone and with the other two, and what a change of the controller leaves in it.
pub mod Memory
pub mod Holder
