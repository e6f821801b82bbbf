pub mod Guards
pub mod Sites
pub mod Names
