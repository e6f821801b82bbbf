-- Guards of scopes: what contracts see of one, and what its calls do to the borrowed profiler.
pub mod Guard
pub mod Beginning
pub mod Ending
