use Rattle.cascade.specs.Cascade.{initial}
use Rattle.cascade.specs.RuleTree.{lent}
use Rattle.cascade.specs.contracts.node.RuleNodeEq.TheImpl.Laws.{laws-law}
use Rattle.cascade.specs.contracts.node.RuleNodePartialEq.TheImpl.{eq-value}
use Rattle.cascade.proofs.Equal.{same_node}
use Rattle.cascade.proofs.RuleTree.{child_of, computed_after}
use Rattle.cascade.proofs.cache.StyleCache.child.Goals as goal

pub invariant_of-self : goal.invariant_of-self
invariant_of-self g c =
    let was = c.args.self.now in
    record {
      initial = was.initial;
      computed = computed_after was.root was.nodes c.intern_by.new.self c.args.parent (lent c.args.source) eq-value.it
          laws-law same_node initial was.computed c.requires c.intern_by.result c.intern_by.ensures.interned
          c.intern_by.ensures.refused;
    }

pub returns-clause-there : goal.returns-clause-there
returns-clause-there g c =
    let was = c.args.self.now in
    (child_of was.root was.nodes c.intern_by.new.self c.args.parent (lent c.args.source) eq-value.it laws-law same_node
    initial was.computed c.requires c.in_ok-symbol.symbol c.in_ok-symbol.ensures.interned).there

pub returns-clause-style : goal.returns-clause-style
returns-clause-style g c =
    let was = c.args.self.now in
    (child_of was.root was.nodes c.intern_by.new.self c.args.parent (lent c.args.source) eq-value.it laws-law same_node
    initial was.computed c.requires c.in_ok-symbol.symbol c.in_ok-symbol.ensures.interned).style
