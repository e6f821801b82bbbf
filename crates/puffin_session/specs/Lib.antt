pub mod Session
pub mod inner
