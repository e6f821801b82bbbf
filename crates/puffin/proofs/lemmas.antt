-- What the crates above cite too: that what a profiler holds may be sent to another thread, and how many ended scopes wait for a
-- report. Nothing else of these proofs is seen from there.
pub mod Sending
pub mod Waiting
pub mod Offsets
pub mod StartedThreads
pub mod CodeRuns
