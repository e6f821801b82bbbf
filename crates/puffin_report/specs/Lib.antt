pub mod Lines
pub mod Count
pub mod Summary
pub mod ReportLines
pub mod Report
pub mod inner
