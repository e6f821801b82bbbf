pub mod View
pub mod ThreadTotals
pub mod inner
