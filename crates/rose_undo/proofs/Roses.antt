-- A value can be set if the path leads to a tree, and else not.
use Rattle.std.proofs.Common.{◌≡◌, ℕ, List, [], ◌∷◌, refl, ap, arith}
use Rattle.std.specs.Prelude.{Option, None, Some, slice_get}
use Rattle.std.specs.Option.{option_map, option_and_then}
use Rattle.rose_undo.specs.declared.rose.Rose.{Rose}
use Rattle.rose_undo.specs.Roses.{at, children, with_child, with_value}

none_mapped : {A B : Type 0} (f : A → B) (o : Option A) → option_map f o ≡ None → o ≡ None
none_mapped f None is = refl
none_mapped f (Some x) is = grind arith

module _ {V : Type 0} where
  pub unset_nowhere : (path : List ℕ) (v : V) (tree : Rose V)
      → with_value path v tree ≡ None → at path tree ≡ None
  unset_nowhere [] v tree is = grind arith
  unset_nowhere (i ∷ path) v tree is =
      elim (slice_get (children tree) i) as (λ o. option_map (λ changed. with_child i changed tree)
      (option_and_then (with_value path v) o) ≡ None → option_and_then (at path) o ≡ None) [
        | None ↦ λ none. refl
        | Some child ↦ λ none. unset_nowhere path v child (none_mapped (λ changed. with_child i changed tree)
            (with_value path v child) none)
      ] is

  pub nowhere_unset : (path : List ℕ) (v : V) (tree : Rose V)
      → at path tree ≡ None → with_value path v tree ≡ None
  nowhere_unset [] v tree is = grind arith
  nowhere_unset (i ∷ path) v tree is =
      elim (slice_get (children tree) i) as (λ o. option_and_then (at path)
      o ≡ None → option_map (λ changed. with_child i changed tree) (option_and_then (with_value path v) o)
      ≡ None) [
        | None ↦ λ none. refl
        | Some child ↦ λ none. ap (option_map (λ changed. with_child i changed tree))
            (nowhere_unset path v child none)
      ] is

pub ruleset setting = (unset_nowhere, nowhere_unset)
