-- Nodes that are equal are one.
use Rattle.std.proofs.Common.{◌≡◌, rules}
use Rattle.std.specs.Bool.{Decides}
use Rattle.interner.proofs.Slices.{slices_decide}
use Rattle.servo_arc.specs.HeaderSlice.{HeaderAndItems}
use Rattle.servo_arc.specs.HeaderSlice.Laws.{slice_eq}
use Rattle.uses.specs.contracts.nodes.ChildPartialEq.TheImpl.{eq-value as child_eq}
use Rattle.uses.specs.contracts.nodes.KindPartialEq.TheImpl.{eq-value as kind_eq}
use Rattle.uses.specs.declared.nodes.Child.{Child}
use Rattle.uses.specs.declared.nodes.Child.TheVariants.{Node, Name}
use Rattle.uses.specs.declared.nodes.Kind.{Kind}

kinds : (x y : Kind) → Decides (kind_eq.it x y) (x ≡ y)
kinds x y = (search rules, search rules)

children : (x y : Child) → Decides (child_eq.it x y) (x ≡ y)
children (Node a) (Node b) = (search rules, search rules)
children (Node a) (Name b) = (search rules, search rules)
children (Name a) (Node b) = (search rules, search rules)
children (Name a) (Name b) = (search rules, search rules)

pub same_node : (x y : HeaderAndItems Kind Child) → Decides (slice_eq kind_eq.it child_eq.it x y) (x ≡ y)
same_node = slices_decide kinds children
