pub mod Frame
pub mod Packet
pub mod inner
