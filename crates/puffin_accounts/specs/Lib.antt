pub mod Moments
pub mod Times
pub mod Adding
pub mod Showing
pub mod Running
pub mod Steps
pub mod Rounds
