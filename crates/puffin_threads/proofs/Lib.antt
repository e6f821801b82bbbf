pub mod lemmas
mod HeldScopes
mod RecordedScopes
mod FirstStarts
mod Readiness
mod ThreadStates
mod BegunStates
mod EndedStates
mod Inserting
mod InsertingAll
mod Comparing
mod CollectionsBuilt
