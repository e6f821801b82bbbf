pub mod lemmas
mod Summaries
mod Stepping
mod PrintedScopes
