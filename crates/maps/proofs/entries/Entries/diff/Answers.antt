use Rattle.maps.proofs.Differences.{fewer_left, found_after, found_all}
use Rattle.maps.proofs.entries.Entries.diff.Goals as goal

pub loop-order-init : goal.loop-order-init
loop-order-init g c =
    rw (c.of-olds.ensures.entries, c.of-news.ensures.entries, c.new-changes.ensures.items) (λ cs left. left)

pub loop-order-smaller : goal.loop-order-smaller
loop-order-smaller g c =
    fewer_left g.K.Ord.cmp g.V.PartialEq.eq _ c.loop-order.olds c.loop-order.news c.pass.new.self
    c.pass-in-Some.new.self c.in-Some.order c.is_le.result c.is_ge.result c.in-Some.ensures c.is_le.ensures
    c.is_ge.ensures c.pass.ensures c.pass-in-Some.ensures

pub loop-order-preserved : goal.loop-order-preserved
loop-order-preserved g c =
    found_after g.K.Ord.cmp g.V.PartialEq.eq c.args.self.now c.args.newer.now g.met.K.Ord.total
    c.loop-order.changes.items c.push_any.new.items.items c.in-Some.change c.loop-order.olds c.loop-order.news
    c.pass.new.self c.pass-in-Some.new.self c.in-Some.order c.is_le.result c.is_ge.result c.in-Some.ensures
    c.is_le.ensures c.is_ge.ensures c.pass.ensures c.pass-in-Some.ensures c.in_ok-push_any.ensures
    c.loop-order.invariant

pub returns : goal.returns
returns g c =
    let here = c.loop-order in
    let all = found_all g.K.Ord.cmp g.V.PartialEq.eq c.args.self.now c.args.newer.now c.of-olds.ensures.rising
    c.of-news.ensures.rising here.changes.items here.olds here.news c.in_default.ensures here.invariant in
    record { changes = all.0; rising = all.1 }
