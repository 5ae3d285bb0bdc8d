-- Contracts about recursive types without a model: folds, whose step sees the result for each child.
use Rattle.std.specs.Prelude.{ℕ, Bool, false, ◌||◌, nat_eq, List, [], ◌∷◌, unwrap_or, slice_get}
use Rattle.std.specs.Option.{option_map}
use Rattle.servo_arc.specs.Borrowed.{borrowed}
use Rattle.servo_arc.specs.Unions.{Union, First, Second}
use Rattle.uses.specs.declared.recursive.by_arc.Node.{Node, fold-Node}
use Rattle.uses.specs.declared.recursive.by_arc.Tree.{Tree, fold-Tree}
use Rattle.uses.specs.declared.recursive.by_other_handles.Borrowing.{Borrowing, fold-Borrowing}
use Rattle.uses.specs.declared.recursive.by_other_handles.FirstOfUnion.{FirstOfUnion, fold-FirstOfUnion}
use Rattle.uses.specs.declared.recursive.by_other_handles.HeaderTree.{HeaderTree, fold-HeaderTree}
use Rattle.uses.specs.declared.recursive.by_other_handles.Token.{Token, fold-Token}
use Rattle.uses.specs.declared.recursive.by_other_handles.Unique.{Unique, fold-Unique}

-- the values from a node on
abbrev pub values : Node → List ℕ
values node = fold-Node (List ℕ) (λ n. n.value ∷ unwrap_or n.next []) node

-- whether a key is anywhere in a tree
abbrev pub holds : ℕ → Tree → Bool
holds key tree =
    fold-Tree Bool (λ t. nat_eq t.key key || (unwrap_or t.left false || unwrap_or t.right false)) tree

abbrev pub unique_values : Unique → List ℕ
unique_values unique = fold-Unique (List ℕ) (λ u. u.value ∷ unwrap_or u.next []) unique

-- a list whose last item is written
abbrev pub with_last : ℕ → List ℕ → List ℕ
with_last value [] = []
with_last value (x ∷ []) = value ∷ []
with_last value (x ∷ y ∷ rest) = x ∷ with_last value (y ∷ rest)

abbrev pub token_values : Token → List ℕ
token_values token = fold-Token (List ℕ) (λ t. t.value ∷ unwrap_or t.next []) token

-- the headers from a tree down, by the first child of each
abbrev pub first_headers : HeaderTree → List ℕ
first_headers tree = fold-HeaderTree (List ℕ) (λ t. t.kids.header ∷ unwrap_or (slice_get t.kids.items 0) []) tree

abbrev pub behind : Union (List ℕ) ℕ → List ℕ
behind (First values) = values
behind (Second number) = number ∷ []

-- the values on the path, and the number at its end
abbrev pub union_values : FirstOfUnion → List ℕ
union_values union = fold-FirstOfUnion (List ℕ) (λ u. u.value ∷ behind u.next) union

abbrev pub borrowed_values : Borrowing → List ℕ
borrowed_values borrowing =
    fold-Borrowing (List ℕ) (λ b. b.value ∷ unwrap_or (option_map borrowed b.next) []) borrowing
