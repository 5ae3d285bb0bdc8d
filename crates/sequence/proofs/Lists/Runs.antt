-- What an iterator that is seen as the list of what is left returns, one item after another.
use Rattle.std.proofs.Common.{ap, length}
use Rattle.core.proofs.iter.runs.Sources.{from_front}
use Rattle.std.specs.Map.Iter.{ShowsInOrder, TakesFirst}

pub in_order : {A X : Type 0} (shows : A → X) → ShowsInOrder shows
in_order shows = from_front (TakesFirst shows) shows (λ s. s) (λ s t h. ap length h.0) (λ s x t h. h)
