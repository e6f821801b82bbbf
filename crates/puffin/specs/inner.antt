-- Definitions that only private types and functions cite.
pub mod Numbers
