-- The query that finds a node: a child with its parent and its source.
use Rattle.std.specs.Prelude.{◌≡◌, Bool, true}
use Rattle.std.proofs.Common.{refl, ◌∙◌}
use Rattle.interner.specs.Queries.{IsFormOf}
use Rattle.cascade.specs.contracts.node.ChildHash.TheImpl.{hash_input-value as child_writes}
use Rattle.cascade.specs.contracts.node.RuleNodeEq.TheImpl.Laws.{laws-law}
use Rattle.cascade.specs.contracts.node.RuleNodeHash.TheImpl.{hash_input-value as node_writes}
use Rattle.cascade.specs.contracts.node.RuleNodeHash.TheImpl.Laws.{respects_eq-law}
use Rattle.cascade.specs.contracts.node.RuleNodePartialEq.TheImpl.{eq-value}
use Rattle.cascade.specs.declared.node.Child.{Child}
use Rattle.cascade.specs.declared.node.LentSource.{LentSource}
use Rattle.cascade.specs.declared.node.LentSource.TheVariants.{OfRule, OfInline}
use Rattle.cascade.specs.declared.node.RuleNode.{RuleNode}
use Rattle.cascade.specs.declared.style.Style.{Style}
use Rattle.cascade.specs.Cascade.{initial}
use Rattle.cascade.specs.RuleTree.{node_of}

-- the child stands for the nodes that equal its own, whatever their style
abbrev pub is_child : Child → RuleNode → Bool
is_child child = eq-value.it (node_of child initial)

-- the style of the node that is made for it plays no part
pub is_own_child : (child : Child) (style : Style) → is_child child (node_of child style) ≡ true
is_own_child child style = laws-law.refl (node_of child initial)

-- it writes what its node writes
same_writes : (child : Child) (source : LentSource) → child_writes.it (record child { source = source })
    ≡ node_writes.it (node_of (record child { source = source }) initial)
same_writes child (OfRule rule) = refl
same_writes child (OfInline inline) = refl

pub is_form : (child : Child) (node : RuleNode) → is_child child node ≡ true
    → IsFormOf eq-value.it (is_child child) (child_writes.it child) (node_writes.it node) node
is_form child node same = record {
  hashed = same_writes child child.source ∙ respects_eq-law (node_of child initial) node same;
  equal = λ other. laws-law.congr (node_of child initial) node other same;
}
