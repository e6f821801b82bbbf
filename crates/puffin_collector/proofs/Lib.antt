pub mod lemmas
mod Seen
mod Refusing
mod Reporting
mod Knowing
mod Appending
mod Owning
