-- A profiler without sinks.
pub mod State
pub mod Collecting
pub mod Registering
