pub mod lemmas
mod Appending
mod Listed
mod FormsOfAll
mod Structs
mod PacketsRead
mod Writing
mod OlderPackets
mod PartsTaken
mod PacketsTaken
mod FramesTaken
mod Packings
mod Joining
mod Sharing
mod Reports
mod Layouts
