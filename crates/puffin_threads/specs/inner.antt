-- What only private functions and proofs cite.
pub mod StoredThread
pub mod HeldCollection
pub mod FirstStart
pub mod Supplied
