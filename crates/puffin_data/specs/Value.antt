-- Values of packets: their layouts, and how they are read.
pub mod Layout
pub mod Decoding
pub mod Outcomes
