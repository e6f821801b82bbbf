-- Lemmas that the crates above cite too: about definitions alone, and on what may be sent to another thread. Nothing else of these
-- proofs is seen from there.
pub mod Keyed
pub mod Ranges
pub mod Measured
pub mod Honest
pub mod PackedAgain
pub mod LayoutsKept
pub mod FramesAgain
pub mod Packets
pub mod Sending
