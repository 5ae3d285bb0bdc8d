-- A slot that is read, and one that is written as it was.
use Rattle.std.proofs.lemmas.List.{set-get_or}
use Rattle.std.proofs.lemmas.Option.{slice_get_read}

pub ruleset slots = (slice_get_read, set-get_or)
