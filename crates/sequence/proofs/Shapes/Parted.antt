-- The items of a node before a place, and from it on.
use Rattle.std.proofs.Common.{◌≡◌, ◌+◌, ℕ, List, ◌++◌, take, drop, get_or, ap, sym, ◌∙◌}
use Rattle.std.proofs.Math.Seq.{drop-append-add, drop-append-le, take-append-add, take-append-le}
use Rattle.sequence.specs.declared.tree.Child.{Child}
use Rattle.sequence.specs.declared.tree.search.Spot.{Spot}
use Rattle.sequence.specs.Nodes.{items_in}
use Rattle.sequence.specs.Spots.{Leads}
use Rattle.sequence.proofs.Nodes.Children.{items_split}

module _ {T L : Type 0} (cs : List (Child T L)) (place : ℕ) (spot : Spot) (d : Child T L)
    (leads : Leads cs place spot) where
  -- those of the children before the spot's, and of that child
  pub front_is : items_in (take spot.child cs) ++ take spot.place (get_or cs spot.child d).tree.0
      ≡ take place (items_in cs)
  front_is =
      let l = items_in (take spot.child cs) in
      let m = (get_or cs spot.child d).tree.0 in
      let r = items_in (drop (spot.child + 1) cs) in
      sym (ap (take place) (items_split cs spot.child d leads.within)
      ∙ ap (λ (n : ℕ). take n (l ++ (m ++ r))) leads.is
      ∙ take-append-add l (m ++ r) spot.place
      ∙ ap (λ (es : List T). l ++ es) (take-append-le spot.place m r (leads.inside d)))

  -- those of that child, and of the children behind it
  pub back_is : drop spot.place (get_or cs spot.child d).tree.0 ++ items_in (drop (spot.child + 1) cs)
      ≡ drop place (items_in cs)
  back_is =
      let l = items_in (take spot.child cs) in
      let m = (get_or cs spot.child d).tree.0 in
      let r = items_in (drop (spot.child + 1) cs) in
      sym (ap (drop place) (items_split cs spot.child d leads.within)
      ∙ ap (λ (n : ℕ). drop n (l ++ (m ++ r))) leads.is
      ∙ drop-append-add l (m ++ r) spot.place
      ∙ drop-append-le spot.place m r (leads.inside d))
