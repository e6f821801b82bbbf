-- What the program reads, writes and prints.
pub mod EmittedFrames
pub mod Recording
pub mod ScriptRun
pub mod Arguments
pub mod Faults
pub mod ReplyLines
