pub use Rattle.handles.proofs.Places.Shared.{places-Sync as sync}
