pub use Rattle.maps.proofs.LaidCrossing.{entries-Sync as sync}
