use Rattle.std.proofs.Common.{◌∙◌, ap, refl, sym}
use Rattle.std.specs.Ordering.{is_gt}
use Rattle.maps.specs.Maps.{rank_by}
use Rattle.maps.proofs.Cuts.{has_cut, rank_cut}
use Rattle.maps.proofs.entries.Entries.rank.Goals as goal

pub rank-requires : goal.rank-requires
rank-requires g c =
    has_cut g.K.Ord.cmp (g.Q.Query.order c.args.key) (g.met.Q.Query.is_form c.args.key) (λ o. is_gt o) refl refl
    c.self.inside.entries c.self.invariant

pub returns-clause-rank : goal.returns-clause-rank
returns-clause-rank g c =
    let order = g.Q.Query.order c.args.key in
    sym (rank_cut order c.self.inside.entries c.rank.result c.rank.ensures) ∙ ap (rank_by order) c.self.view_is
