use Rattle.std.proofs.Common.{◌≡◌, refl}
use Rattle.std.proofs.lemmas.Iterator.Consumers.{YieldsList-from_first}
use Rattle.std.proofs.lemmas.Iterator.Search.{cmp_from_yields_List}
use Rattle.sequence.proofs.compare.LabelledSequenceOrd.cmp.Goals as goal

pub returns : goal.returns
returns g c =
    cmp_from_yields_List (λ list it. it ≡ list.now) c.args.other g.T.Ord.cmp _ c.cmp.ensures.ran
    (YieldsList-from_first (λ x. x.now) (λ s. s) c.args.self.now c.into_iter.ensures.into_iter_gives)
    (λ it is. YieldsList-from_first (λ x. x.now) (λ s. s) c.args.other.now is) (λ x y. refl)
