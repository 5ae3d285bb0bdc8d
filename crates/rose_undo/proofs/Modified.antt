-- A value that was changed at the root, or below it in a child.
use Rattle.std.proofs.Common.{◌≡◌, ◌<◌, ℕ, List, [], ◌∷◌, length, length-set, get_or, set, ap, sym, refl, ◌∙◌}
use Rattle.std.proofs.Common.{true≢false, is_some, arith}
use Rattle.std.specs.Prelude.{Option, None, Some, Result, Ok, Err, IfOk, slice_get}
use Rattle.std.specs.Borrow.{MutBor}
use Rattle.std.specs.Fn.{Once, FnOnceReturnsAtMut}
use Rattle.std.specs.List.{refill}
use Rattle.std.specs.Option.{IsSome, option_and_then, option_map}
use Rattle.std.proofs.lemmas.Grind.{common_steps}
use Rattle.std.proofs.lemmas.Option.{slice_get-get_or, slice_get_within}
use Rattle.rose_undo.specs.Modified.{ChangesValue}
use Rattle.rose_undo.specs.declared.rose.Rose.{Rose}
use Rattle.rose_undo.specs.Roses.{at, branch, root}
use Rattle.rose_undo.proofs.Branches.{children_branch, root_branch}

-- a slice that is written back has its own items alone
refilled : {X : Type 0} (xs : List X) (i : ℕ) (x : X) → refill (length xs) xs (set xs i x) ≡ set xs i x
refilled xs i x = grind (arith, common_steps, length-set xs i x)

module _ {V : Type 0} (v : V) (trees : List (Rose V)) where
  module _ (i : ℕ) (path : List ℕ) where
    at_child : (o : Option (Rose V)) → slice_get trees i ≡ o
        → at (i ∷ path) (branch v trees) ≡ option_and_then (at path) o
    at_child o is = rw (children_branch v trees, is) refl

    -- a path that leads to a tree leads to one of the children
    pub leads_within : IsSome (at (i ∷ path) (branch v trees)) → i < length trees
    leads_within some =
        elim (slice_get trees i) as (λ o. slice_get trees i ≡ o → i < length trees) [
          | None ↦ λ is. absurd (true≢false (sym some ∙ ap is_some (at_child None is)))
          | Some child ↦ λ is. slice_get_within trees i child is
        ] refl

    pub at_below : (d : Rose V) → i < length trees → at (i ∷ path) (branch v trees) ≡ at path (get_or trees i d)
    at_below d within = at_child (Some (get_or trees i d)) (slice_get-get_or trees i d within)

  module _ {F R : Type 0} (g : Once F (MutBor V × Unit {0}) (R × (MutBor V × Unit {0}))) (change : F) where
    pub changed_here : (new : V) (r : R) → FnOnceReturnsAtMut g change v r new
        → ChangesValue g change [] (branch v trees) (branch new trees) r
    changed_here new r called = record {
      before = v;
      after = new;
      found = ap Some (root_branch v trees);
      called = called;
      made = ap (λ ts. Some (branch new ts)) (sym (children_branch v trees));
    }

    pub changed_below : {E : Type 0} (i : ℕ) (path : List ℕ) (d new : Rose V) (r : Result R E) → i < length trees
        → IfOk r (ChangesValue g change path (get_or trees i d) new)
        → IfOk r (ChangesValue g change (i ∷ path) (branch v trees)
        (branch v (refill (length trees) trees (set trees i new))))
    changed_below i path d new (Ok r) within is = rw (refilled trees i new) (record {
      before = is.before;
      after = is.after;
      found = ap (option_map root) (at_below i path d within) ∙ is.found;
      called = is.called;
      made = rw (children_branch v trees, root_branch v trees, slice_get-get_or trees i d within)
          (ap (option_map (λ child. branch v (set trees i child))) is.made);
    })
    changed_below i path d new (Err e) within is = tt
