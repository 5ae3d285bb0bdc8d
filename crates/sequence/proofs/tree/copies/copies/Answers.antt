use Rattle.std.proofs.Common.{◌∙◌, ◌++◌, ap}
use Rattle.std.proofs.lemmas.List.Elements.{same_from_all_zip}
use Rattle.sequence.proofs.tree.copies.copies.Goals as goal

pub returns : goal.returns
returns g c =
    let more = c.in_ok-extend_with_clones.ensures.items in
    λ equal. more.1 ∙ ap (λ es. es ++ more.0) c.in_ok-copy.ensures.items
    ∙ same_from_all_zip _ c.args.items.now more.0 more.2 equal
