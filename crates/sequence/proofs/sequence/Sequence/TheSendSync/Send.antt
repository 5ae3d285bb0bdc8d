pub use Rattle.sequence.proofs.LaidCrossing.{items_list-Send as send}
