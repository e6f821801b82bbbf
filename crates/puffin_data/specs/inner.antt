-- Definitions that only private functions and proofs cite.
pub mod Walking
pub mod Fronts
pub mod Groups
pub mod Beginnings
pub mod Appending
