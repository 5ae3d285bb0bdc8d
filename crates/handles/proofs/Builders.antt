-- What builders of header slices heard from their iterators.
pub mod Clones
pub mod Runs
pub mod TryRuns
