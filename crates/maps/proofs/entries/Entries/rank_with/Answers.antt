use Rattle.std.proofs.Common.{◌∙◌, ap, refl, sym}
use Rattle.std.specs.Prelude.{not}
use Rattle.std.specs.Ordering.{is_lt}
use Rattle.maps.specs.Bounds.{rank_with_by}
use Rattle.maps.proofs.Cuts.{has_cut, rank_with_cut}
use Rattle.maps.proofs.entries.Entries.rank_with.Goals as goal

pub rank-requires : goal.rank-requires
rank-requires g c =
    has_cut g.K.Ord.cmp (g.Q.Query.order c.args.key) (g.met.Q.Query.is_form c.args.key) (λ o. not (is_lt o)) refl
    refl c.self.inside.entries c.self.invariant

pub returns-clause-rank : goal.returns-clause-rank
returns-clause-rank g c =
    let order = g.Q.Query.order c.args.key in
    let es = c.self.inside.entries in
    sym (rank_with_cut g.K.Ord.cmp order (g.met.Q.Query.is_form c.args.key) g.met.K.Ord.total es c.self.invariant
    c.rank.result c.rank.ensures)
    ∙ ap (rank_with_by order) c.self.view_is
