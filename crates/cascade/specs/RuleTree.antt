-- The nodes of a rule tree, each with its style. A node is the number of its place in the list, and none is the root.
use Rattle.std.specs.Prelude.{◌≡◌, ℕ, ◌<◌, List, length, Option, None, Some, slice_get, slice_index_or}
use Rattle.std.specs.Option.{ForSome, option_map_or}
use Rattle.servo_arc.specs.Unions.{Union, First, Second}
use Rattle.cascade.specs.declared.node.Child.{Child}
use Rattle.cascade.specs.declared.node.LentSource.{LentSource}
use Rattle.cascade.specs.declared.node.LentSource.TheVariants.{OfRule, OfInline}
use Rattle.cascade.specs.declared.node.RuleNode.{RuleNode}
use Rattle.cascade.specs.declared.source.Rule.{Rule}
use Rattle.cascade.specs.declared.source.Inline.{Inline}
use Rattle.cascade.specs.declared.style.Style.{Style}
use Rattle.cascade.specs.Cascade.{cascaded}

-- the source that is lent
abbrev pub lent : LentSource → Union Rule Inline
lent (OfRule rule) = First rule.now
lent (OfInline inline) = Second inline.now

-- the node of a child that has this style
abbrev pub node_of : Child → Style → RuleNode
node_of child style = record { parent = child.parent; source = lent child.source; style = style }

-- a node stands before that place, as the root does
abbrev pub IsBefore : Option ℕ → ℕ → Type 0
IsBefore node i = ForSome node (λ place. place < i)

-- the style of a node, or of the root
abbrev pub style_at : Style → List RuleNode → Option ℕ → Style
style_at root nodes None = root
style_at root nodes (Some node) = option_map_or (λ n. n.style) (slice_get nodes node) root

-- the node that is made of a child: its style is that of its parent with what its source declares
abbrev pub made_of : Child → List RuleNode → RuleNode
made_of child nodes = node_of child (cascaded (style_at child.root.now nodes child.parent) (lent child.source))

-- each node stands behind its parent, and its style is that of its parent with what its source declares
pub record AreComputed (root : Style) (nodes : List RuleNode) : Type 0 where
  pub behind : (i : ℕ) (d : RuleNode) → i < length nodes → IsBefore (slice_index_or nodes i d).parent i
  pub style : (i : ℕ) (d : RuleNode) → i < length nodes
      → (slice_index_or nodes i d).style
      ≡ cascaded (style_at root nodes (slice_index_or nodes i d).parent) (slice_index_or nodes i d).source
