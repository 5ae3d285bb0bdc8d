use Rattle.std.proofs.Common.{rules}
use Rattle.interner.proofs.Symbols.{value_at}
use Rattle.uses.specs.Nodes.{line_count}
use Rattle.uses.proofs.nodes.LineCounts.count.Goals as goal

pub returns-in-Some : goal.returns-in-Some
returns-in-Some c =
    value_at c.in-Some.ensures.found line_count (record { header = tt; items = c.args.text.now })
    c.args.self.now.counted (λ v e. search rules)
