-- Packets: their bytes, and what is read and written.
pub mod Structs
pub mod Stored
pub mod Letters
pub mod Kinds
pub mod Parts
pub mod Versions
pub mod Front
pub mod Next
pub mod Writing
pub mod Tries
pub mod Grammar
