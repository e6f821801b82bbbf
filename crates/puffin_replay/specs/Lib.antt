pub mod inner
pub mod Script
pub mod Program
pub mod Promise
