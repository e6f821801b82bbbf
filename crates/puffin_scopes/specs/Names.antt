-- Short names of functions and files.
pub mod Functions
pub mod Files
