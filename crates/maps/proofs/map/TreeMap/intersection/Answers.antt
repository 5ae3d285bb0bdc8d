use Rattle.std.proofs.Common.{◌∙◌, ap, rules}
use Rattle.std.specs.Prelude.{filter, is_some}
use Rattle.std.proofs.lemmas.Fn.{filter_same}
use Rattle.maps.specs.Maps.{lookup}
use Rattle.maps.proofs.map.TreeMap.intersection.Goals as goal

pub returns : goal.returns
returns g c =
    let stays = λ (e : g.row.K.Denot × g.row.V.Denot). is_some (lookup g.K.Ord.cmp e.0 c.args.other.now) in
    let kept = filter_same _ stays _ (λ e b f' k. (search rules, ap (λ v. record { 0 = v }) k.called.met.1)) _ _
    c.in_ok-retain.ensures.kept in
    kept ∙ ap (λ es. filter stays es) (c.deref_mut.ensures.value ∙ c.in_ok-both.ensures.cases)
