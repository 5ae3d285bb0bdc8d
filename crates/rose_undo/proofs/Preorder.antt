-- The values of a tree, one step down, and those that a walk has still to see.
use Rattle.std.proofs.Common.{◌≡◌, ℕ, ◌+◌, ◌*◌, ◌<◌, ◌≤◌, List, [], ◌∷◌, ◌++◌, length, map, ap, sym, refl, ◌∙◌, arith}
use Rattle.std.proofs.Common.{append_assoc, append-nil, length-append, Bor}
use Rattle.std.proofs.lemmas.List.{length_push, map_push}
use Rattle.std.specs.Prelude.{Result, Ok, Err, OnOk, OnErr}
use Rattle.std.specs.List.{flat_map, AppendsClones, each_same}
use Rattle.std.proofs.lemmas.List.Folds.{flat_map-map}
use Rattle.std.proofs.lemmas.List.Concat.{flat_map-append}
use Rattle.rose_undo.specs.declared.rose.Rose.{Rose, fold_out-Rose}
use Rattle.rose_undo.specs.Roses.{children, preorder, root}

module _ {V : Type 0} where
  pub preorder_out : (tree : Rose V) → preorder tree ≡ root tree ∷ flat_map preorder (children tree)
  preorder_out tree =
      fold_out-Rose V (List V) (λ r. r.node.header ∷ flat_map (λ values. values) r.node.items) tree
      ∙ ap (λ values. root tree ∷ values) (flat_map-map (λ values. values) preorder (children tree))

  -- what a walk has to see of a list of trees
  abbrev pub values_in : Bor (List (Rose V)) → List V
  values_in trees = flat_map preorder trees.now

  pub see_first : (trees rest below : Bor (List (Rose V))) (first : Rose V) → trees.now ≡ first ∷ rest.now
      → below.now ≡ children first → values_in trees ≡ root first ∷ (values_in below ++ values_in rest)
  see_first trees rest below first parts under = rw (parts, under, preorder_out first) refl

  -- the number of the values in these trees
  abbrev pub count : List (Rose V) → ℕ
  count trees = length (flat_map preorder trees)

  pub count-append : (trees more : List (Rose V)) → count (trees ++ more) ≡ count trees + count more
  count-append trees more =
      ap length (flat_map-append preorder trees more) ∙ length-append (flat_map preorder trees) (flat_map preorder more)

  -- an end takes a tree for its children
  pub count-push : (more : List (Rose V)) (tree : Rose V)
      → count (more ++ tree ∷ []) ≡ count more + count (children tree) + 1
  count-push more tree =
      let one = ap length (append-nil (preorder tree) ∙ preorder_out tree) in
      omega (arith, count-append more (tree ∷ []), one)

  pub count-extended : {E : Type 0} (B : Type 0) (r : Result (Unit {0}) E) (old new more : List (Rose V))
      → OnOk r (AppendsClones (λ x y. y ≡ x) old new more) → OnErr r ((new ≡ old) × B)
      → count new ≤ count old + count more
  count-extended B (Ok u) old new more clones err =
      let is : new ≡ old ++ more = clones.1 ∙ ap (λ ys. old ++ ys) (each_same more clones.0 clones.2) in
      omega (arith, ap count is, count-append old more)
  count-extended B (Err e) old new more clones same = omega (arith, ap count same.0)

-- what a walk has still to see, if it goes on with the last of what is left
module _ {E X : Type 0} (see : E → List X) where
  abbrev pub to_see : List E → List X
  to_see [] = []
  to_see (e ∷ more) = to_see more ++ see e

  to_see-push : (more : List E) (e : E) → to_see (more ++ e ∷ []) ≡ see e ++ to_see more
  to_see-push [] e = sym (append-nil (see e))
  to_see-push (first ∷ more) e =
      ap (λ xs. xs ++ see first) (to_see-push more e) ∙ append_assoc (see e) (to_see more) (see first)

  -- a turn that finds nothing to see
  module _ (left more : List E) (e : E) (popped : left ≡ more ++ e ∷ []) (none : see e ≡ []) where
    pub to_see-same : to_see left ≡ to_see more
    to_see-same = ap to_see popped ∙ to_see-push more e ∙ ap (λ xs. xs ++ to_see more) none

    pub fewer_left : 2 * length (to_see more) + length more < 2 * length (to_see left) + length left
    fewer_left = omega (arith, ap length to_see-same, ap length popped, length_push more e)

  -- a turn that sees one, and then has what is below it before the rest
  module _ (left more pushed next : List E) (e rest below : E) (x : X) (popped : left ≡ more ++ e ∷ [])
      (one : pushed ≡ more ++ rest ∷ []) (two : next ≡ pushed ++ below ∷ [])
      (parts : see e ≡ x ∷ (see below ++ see rest)) where
    pub to_see-one : to_see left ≡ x ∷ to_see next
    to_see-one =
        rw (popped, two, to_see-push more e, to_see-push pushed below, one, to_see-push more rest, parts)
        (ap (λ xs. x ∷ xs) (append_assoc (see below) (see rest) (to_see more)))

    pub fewer_to_see : 2 * length (to_see next) + length next < 2 * length (to_see left) + length left
    fewer_to_see =
        omega (
          arith,
          ap length to_see-one,
          ap length popped,
          length_push more e,
          ap length one,
          length_push more rest,
          ap length two,
          length_push pushed below,
        )

-- what was seen and what is still to be seen stay all, if one more is seen
pub seen-more : {X Y : Type 0} (view : Y → X) (seen now : List Y) (y : Y) (x : X) (before after all : List X)
    → now ≡ seen ++ y ∷ [] → view y ≡ x → before ≡ x ∷ after → map view seen ++ before ≡ all
    → map view now ++ after ≡ all
seen-more view seen now y x before after all more is parts whole =
    ap (λ ys. map view ys ++ after) more ∙ ap (λ xs. xs ++ after) (map_push view seen y)
    ∙ append_assoc (map view seen) (view y ∷ []) after
    ∙ ap (λ v. map view seen ++ v ∷ after) is ∙ ap (λ xs. map view seen ++ xs) (sym parts) ∙ whole
