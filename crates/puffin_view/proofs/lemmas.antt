-- Lemmas that the crates above cite too: about definitions alone, and on what may be sent to another thread. Nothing else of
-- these proofs is seen from there.
pub mod FilesRead
pub mod FramesHeld
pub mod ReadingViews
pub mod FilesAgain
pub mod Sending
pub mod FrameStreams
