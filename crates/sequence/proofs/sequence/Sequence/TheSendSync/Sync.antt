pub use Rattle.sequence.proofs.LaidCrossing.{items_list-Sync as sync}
