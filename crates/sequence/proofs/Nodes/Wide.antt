-- How many items a node of a height has at least.
use Rattle.std.proofs.Common.{◌≡◌, ◌+◌, ◌*◌, ◌<◌, ◌≤◌, ◌^◌, inl, inr, ℕ, zero, suc, List, [], ◌∷◌, length, get_or}
use Rattle.std.proofs.Common.{subst, arith, length-append}
use Rattle.std.specs.List.{All}
use Rattle.std.proofs.lemmas.Bool.{cases_lt}
use Rattle.std.proofs.lemmas.Grind.{pow_more}
use Rattle.std.proofs.lemmas.List.Elements.{All-tail}
use Rattle.std.proofs.lemmas.Nat.{pow_pos}
use Rattle.std.proofs.Math.Nat.{pow-le-pow_right}
use Rattle.sequence.specs.declared.tree.Child.{Child}
use Rattle.sequence.specs.declared.tree.Node.{Node}
use Rattle.sequence.specs.declared.tree.Node.TheVariants.{Leaf, Branch}
use Rattle.sequence.specs.Nodes.{AreChildren, CanLose, IsChild, IsList, IsNode, seen, items_in, height_in}

module _ {T L : Type 0} where
  -- a child under a node of height h has half of 2 ^ h items at least
  pub wide_child : (h : ℕ) (c : Child T L) → IsChild h c → 2 ^ h ≤ 2 * length c.tree.0
  wide_child h c child =
      subst (λ (h : ℕ). 2 ^ h ≤ 2 * length c.tree.0) child.level
      (omega (arith, pow_more 2 c.tree.1, child.wide))

  -- one child and one more
  wide_more : (h : ℕ) (c : Child T L) (cs : List (Child T L)) (n : ℕ) → IsChild h c → n ≤ 2 * length (items_in cs)
      → 2 ^ h + n ≤ 2 * length (items_in (c ∷ cs))
  wide_more h c cs n child more = omega (arith, wide_child h c child, more, length-append c.tree.0 (items_in cs))

  -- a node over children on level h has half of 2 ^ h items at least
  pub one_child : (h : ℕ) (cs : List (Child T L)) → All (IsChild h) cs → 0 < length cs
      → 2 ^ h ≤ 2 * length (items_in cs)
  one_child h [] a p = absurd (omega (arith, p))
  one_child h (c ∷ cs) a p = omega (arith, wide_more h c cs 0 (a 0 c (omega arith)) (omega arith))

  -- one of two children has 2 ^ h at least
  pub two_children : (h : ℕ) (cs : List (Child T L)) → All (IsChild h) cs → 1 < length cs
      → 2 ^ h ≤ length (items_in cs)
  two_children h [] a p = absurd (omega (arith, p))
  two_children h (c ∷ cs) a p =
      let rest = one_child h cs (All-tail (IsChild h) c cs a) (omega (arith, p)) in
      omega (arith, wide_more h c cs (2 ^ h) (a 0 c (omega arith)) rest)

  -- one of three has more than that
  pub three_children : (h : ℕ) (cs : List (Child T L)) → All (IsChild h) cs → 2 < length cs
      → 2 ^ h < length (items_in cs)
  three_children h [] a p = absurd (omega (arith, p))
  three_children h (c ∷ cs) a p =
      let rest = two_children h cs (All-tail (IsChild h) c cs a) (omega (arith, p)) in
      let more : 2 * 2 ^ h ≤ 2 * length (items_in cs) = omega (arith, rest) in
      omega (arith, wide_more h c cs (2 * 2 ^ h) (a 0 c (omega arith)) more, pow_pos h)

  -- an only child has more than it has at least, if the node has as many items as a child of its height
  pub only_spare : (cs : List (Child T L)) (i : ℕ) (d : Child T L) → length cs ≡ 1 → i < length cs
      → 2 ^ height_in cs ≤ length (items_in cs) → CanLose (get_or cs i d).tree
  only_spare [] i d one h wide = absurd (omega (arith, one))
  only_spare (c ∷ []) zero d one h wide =
      let level : height_in (c ∷ []) ≡ c.tree.1 + 1 = omega arith in
      let most = subst (λ (n : ℕ). 2 ^ n ≤ length (items_in (c ∷ []))) level wide in
      omega (arith, most, pow_more 2 c.tree.1, pow_pos c.tree.1, length-append c.tree.0 [])
  only_spare (c ∷ []) (suc i) d one h wide = absurd (omega (arith, h))
  only_spare (c ∷ e ∷ cs) i d one h wide = absurd (omega (arith, one))

module _ {T L : Type 0} {label_of : T → L} where
  -- a branch has a child
  pub some_in : (cs : List (Child T L)) → AreChildren label_of cs → 0 < length cs
  some_in [] are = absurd (omega (arith, are.list.some))
  some_in (c ∷ cs) are = omega arith

  -- so it is not as low as a leaf
  pub height_some : (cs : List (Child T L)) → AreChildren label_of cs → 0 < height_in cs
  height_some [] are = absurd (omega (arith, are.list.some))
  height_some (c ∷ cs) are = omega (arith, (are.each 0 c (omega arith)).level)

module _ {T L : Type 0} (label_of : T → L) where
  -- a node has half of 2 ^ height items at least
  pub wide_node : (node : Node T L) → IsNode label_of node → 2 ^ (seen node).1 ≤ 2 * length (seen node).0
  wide_node (Leaf es) is = omega (arith, is.some)
  wide_node (Branch cs) is = one_child (height_in cs.items) cs.items is.each (some_in cs.items is)

  -- what holds of the items of a node
  pub list_node : (node : Node T L) → IsNode label_of node → IsList (seen node).0
  list_node (Leaf es) is = is
  list_node (Branch cs) is = is.list

-- a node is not higher than a number of items allows
pub low : (h n : ℕ) → 2 ^ h ≤ 2 * n → n < 2 ^ 64 → h < 65
low h n w r = elim (cases_lt h 65) [
  | inl is ↦ is
  | inr above ↦ absurd (omega (arith, pow-le-pow_right {n = 2} (omega arith) above, w, r))
]
