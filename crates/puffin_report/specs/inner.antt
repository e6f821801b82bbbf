-- How a file is summed up, frame after frame: steps of the proof.
pub mod Summing
