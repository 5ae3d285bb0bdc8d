pub use Rattle.maps.proofs.LaidCrossing.{entries-Send as send}
