-- Lemmas that the crates above cite too: about definitions alone, and on what may be sent to another thread. Nothing else of these
-- proofs is seen from there.
pub mod ThreadKeys
pub mod Events
pub mod EntriesSeen
pub mod Ids
pub mod Sending
