-- How a view stores its frames.
pub mod Codes
pub mod Rows
pub mod Held
pub mod Ranks
pub mod Store
pub mod Kept
pub mod Selections
