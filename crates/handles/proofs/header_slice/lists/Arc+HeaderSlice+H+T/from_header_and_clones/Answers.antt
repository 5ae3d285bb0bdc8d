use Rattle.std.proofs.Common.{rules}
use Rattle.handles.proofs.Builders.Clones.{built_of_clones, built_of_equal}
use Rattle.handles.proofs.header_slice.lists.Arc+HeaderSlice+H+T.from_header_and_clones.Goals as goal

pub returns-clause-clones : goal.returns-clause-clones
returns-clause-clones g c =
    built_of_clones _ g.T.Clone.is_clone (λ f f' x y called. search rules) _ _ _ _ _ (search rules) _
    c.try_from_header_and_iter.ensures

pub returns-clause-if_clones_equal : goal.returns-clause-if_clones_equal
returns-clause-if_clones_equal g c =
    built_of_equal _ g.T.Clone.is_clone (λ f f' x y called. search rules) _ _ _ _ _ (search rules) _
    c.try_from_header_and_iter.ensures
