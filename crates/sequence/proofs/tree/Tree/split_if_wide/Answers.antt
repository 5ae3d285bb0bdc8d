-- The two parts in a row are the items that the tree had, and the first has as many as were asked for.
use Rattle.std.proofs.Common.{List, ℕ, ◌≡◌, ◌++◌, ◌∙◌, ap, drop, length, sym, take}
use Rattle.std.proofs.Math.Seq.{drop-append_seam, take-append_seam}
use Rattle.sequence.proofs.tree.Tree.split_if_wide.Goals as goal

parts : {T : Type 0} (at : ℕ) (all front back left right : List T) → front ++ back ≡ all → length front ≡ at
    → left ≡ front → right ≡ back → (left ≡ take at all) × (right ≡ drop at all)
parts at all front back left right items kept is are = (
  is ∙ sym (ap (λ n. take n all) (sym kept) ∙ ap (λ es. take (length front) es) (sym items)
      ∙ take-append_seam front back),
  are ∙ sym (ap (λ n. drop n all) (sym kept) ∙ ap (λ es. drop (length front) es) (sym items)
      ∙ drop-append_seam front back),
)

pub returns : goal.returns
returns g c =
    let halves = c.in_ok-back.ensures in
    let done = parts c.args.at c.args.self.now.0 c.split_in_place.new.self.0 c.in_ok-back.back.tree.0
    c.shrink-2.new.self.0 c.shrink-3.new.self.0 (halves.0.items ∙ c.shrink.ensures.same) halves.1
    c.shrink-2.ensures.same c.shrink-3.ensures.same in
    (done.0, done.1, halves.0.child.counted ∙ ap (λ es. length es) (sym c.shrink-3.ensures.same))
