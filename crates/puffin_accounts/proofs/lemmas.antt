-- What crates above cite, to prove what their own code adds to a thread and what a frame shows of it.
pub mod Times
pub mod Adding
pub mod Opened
pub mod Reported
pub mod Showing
pub mod Accounting
pub mod Steps
pub mod Running
pub mod Listing
pub mod Framing
pub mod Rounds
pub mod Chains
pub mod Handing
