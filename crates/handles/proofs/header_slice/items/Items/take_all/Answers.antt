use Rattle.std.proofs.Common.{◌≡◌, ◌<◌, ◌∷◌, [], length, length-append, arith, rules, inr, Some, Result, Ok}
use Rattle.std.proofs.iter.Next.{Yields-more}
use Rattle.std.proofs.lemmas.List.{map-append}
use Rattle.handles.specs.declared.header_slice.build.BuildError.TheVariants.{UnderReported}
use Rattle.handles.proofs.header_slice.items.Items.take_all.Goals as goal

pub loop-source-preserved : goal.loop-source-preserved
loop-source-preserved g c =
    let (can, given, within, room) = c.loop-source.invariant in let items = c.loop-source.self.items in
    let item = c.in-Some-Ok.item in let steps = g.I.Iterator.next_gives in
    let came : steps c.loop-source.source (Some (Ok item)) c.next.new.self = search rules in
    let below : length items < c.args.number = search rules in
    let one_more = map-append {B = Result g.row.T.Denot g.row.E.Denot} in (
      c.in-Some-Ok.ensures.goes.keeps,
      rw c.push.ensures.items (rw (one_more Ok items (item ∷ [])) (Yields-more steps _ _ _ _ _ given came)),
      rw c.push.ensures.items (omega (arith, below, length-append items (item ∷ []))),
      rw c.push.ensures.room room,
    )

pub returns-clause-failed : goal.returns-clause-failed
returns-clause-failed g c =
    let (can, given, within, room) = c.loop-source.invariant in let items = c.loop-source.self.items in
    let full : length items ≡ c.args.number = search rules in inr (
      UnderReported,
      c.from-2.ensures,
      (items, c.in-Some.extra, (c.loop-source.source, given, c.in-Some.ensures.steps), full),
    )
