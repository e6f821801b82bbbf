-- What only private functions cite.
pub mod ReportSums
pub mod HandingOut
