pub use Rattle.handles.proofs.Places.Shared.{places-Send as send}
