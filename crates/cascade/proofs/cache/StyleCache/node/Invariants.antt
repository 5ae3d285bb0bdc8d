use Rattle.std.proofs.Common.{◌≡◌, length, take, map}
use Rattle.std.specs.List.{fold}
use Rattle.servo_arc.specs.Unions.{First}
use Rattle.cascade.specs.Cascade.{cascaded, initial}
use Rattle.cascade.specs.RuleTree.{IsBefore, style_at}
use Rattle.cascade.proofs.cache.StyleCache.node.Given as goal

-- the node is there, and its style is that of the rules so far
abbrev pub invariant-loop-rule : goal.invariant-loop-rule
invariant-loop-rule g l = record {
  there : IsBefore l.node (length l.self.nodes);
  style : style_at l.self.root l.self.nodes l.node ≡ fold cascaded initial (map First (take l.rule-index l.rules));
}
