pub mod Entries
pub mod Owned
