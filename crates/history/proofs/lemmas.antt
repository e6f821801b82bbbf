-- Lemmas about definitions alone, which the crates above cite too. Nothing else of these proofs is seen from there.
pub mod Counting
pub mod AllAuthors
pub mod Sending
