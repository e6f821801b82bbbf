pub mod Thread
pub mod Details
pub mod inner
