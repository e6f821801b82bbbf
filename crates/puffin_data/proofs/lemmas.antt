-- Lemmas that the crates above cite too: about definitions alone, and on what may be sent to another thread. Nothing else of these
-- proofs is seen from there.
pub mod Numbers
pub mod Decimals
pub mod Lengths
pub mod Unique
pub mod ForestRanges
pub mod Extended
pub mod Tours
pub mod Opening
pub mod Cuts
pub mod WordMeasures
pub mod Readers
pub mod ValueReaders
pub mod Texts
pub mod Loops
pub mod Devices
pub mod Sending
