use Rattle.std.proofs.Common.{arith}
use Rattle.cow_table.proofs.Places.{page_there}
use Rattle.cow_table.proofs.table.CowTable.set.Goals as goal

pub own_page-requires-clause-there : goal.own_page-requires-clause-there
own_page-requires-clause-there g c =
    let pages = c.self.inside.pages in
    let at = c.locate-page.ensures in
    let there = page_there c.self.inside.page_length.items pages.items c.args.i c.locate-page.result.0
    c.locate-page.result.1
    at.page at.place c.self.inside.page_length.positive c.self.invariant.cut (omega (arith, c.self.invariant.count)) in
    omega (arith, there, pages.ok.0)
