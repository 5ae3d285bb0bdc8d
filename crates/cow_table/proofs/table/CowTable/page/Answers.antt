use Rattle.std.proofs.Common.{◌<◌, length, arith}
use Rattle.std.proofs.lemmas.Grind.{common_steps}
use Rattle.cow_table.proofs.Filled.{page_has_item}
use Rattle.cow_table.proofs.table.CowTable.page.Goals as goal

pub returns : goal.returns
returns g c = λ some.
    let pages = c.self.inside.pages.items in
    let there : c.args.p < length pages = grind (arith, common_steps) in
    page_has_item c.self.inside.page_length.items pages c.args.p c.args.self.now there c.self.view_is
    c.self.invariant.cut
    c.self.inside.page_length.positive
