pub mod Collector
pub mod inner
