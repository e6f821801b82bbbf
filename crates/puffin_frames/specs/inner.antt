-- What only private functions and proofs cite.
pub mod Stopping
pub mod Pairs
