-- Frames: the streams that they hold, and how they hold them.
pub mod Streams
pub mod Sums
pub mod Holding
pub mod Unpacked
pub mod Variants
pub mod Contents
