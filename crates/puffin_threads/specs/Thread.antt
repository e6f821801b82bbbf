-- One thread: its calls, its clock and its reports.
pub mod Calls
pub mod ThreadProfiler
pub mod Closing
pub mod Discarding
pub mod Events
pub mod Clock
pub mod ThreadKey
