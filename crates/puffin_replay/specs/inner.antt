-- What only private functions and proofs cite.
pub mod ScriptReading
pub mod InMemory
