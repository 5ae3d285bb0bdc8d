use Rattle.std.proofs.Common.{◌≡◌, ◌∙◌, [], ap, arith, sym}
use Rattle.std.proofs.lemmas.List.{nil_from_length}
use Rattle.std.specs.Vec.Iter.{into_iter_items}
use Rattle.maps.specs.Maps.{with_entries}
use Rattle.maps.proofs.Rising.{with_rising}
use Rattle.maps.proofs.map.TreeMap.from_items.Given as given
use Rattle.maps.proofs.map.TreeMap.from_items.Goals as goal
use Rattle.maps.proofs.map.TreeMap.from_items.Goals.{In_ok-insert}

pub returns-then-rises : goal.returns-then-rises
returns-then-rises g c =
    let rising = rw c.deref.ensures.value at (c.rises.ensures c.if-rises.true) in
    c.of.ensures ∙ c.in_ok-entries.ensures
    ∙ sym (with_rising g.K.Ord.cmp g.met.K.Ord.total [] c.args.items.items rising)

pub loop-key-init : goal.loop-key-init
loop-key-init g c =
    let cmp = g.K.Ord.cmp in
    ap (λ es. with_entries cmp es c.new-map.result) c.into_iter-key-iterator.ensures.into_iter_gives.0
    ∙ ap (with_entries cmp c.args.items.items) c.new-map.ensures

-- what was put in and what is left make the map of all
kept : (g : given.Over) (c : In_ok-insert g)
    → with_entries g.K.Ord.cmp (into_iter_items c.next.new.self) c.insert.new.self
    ≡ with_entries g.K.Ord.cmp c.args.items.items []
kept g c =
    let cmp = g.K.Ord.cmp in
    ap (with_entries cmp (into_iter_items c.next.new.self)) c.in_ok-insert.ensures.entries
    ∙ sym (ap (λ es. with_entries cmp es c.loop-key.map) c.in-Some.ensures.steps.0) ∙ c.loop-key.invariant

pub loop-key-preserved-in_ok-insert : goal.loop-key-preserved-in_ok-insert
loop-key-preserved-in_ok-insert g c = kept g (goal.at.loop-key-preserved-in_ok-insert g c).In_ok-insert

pub loop-key-preserved : goal.loop-key-preserved
loop-key-preserved g c = kept g (goal.at.loop-key-preserved g c).In_ok-insert

pub loop-key-smaller-in_ok-insert : goal.loop-key-smaller-in_ok-insert
loop-key-smaller-in_ok-insert g c = omega (arith, c.in-Some.ensures.steps.1)

pub loop-key-smaller : goal.loop-key-smaller
loop-key-smaller g c = omega (arith, c.in-Some.ensures.steps.1)

pub returns : goal.returns
returns g c =
    let left = c.loop-key.key-iterator in
    let none = nil_from_length (into_iter_items left) (sym left.rest.ok.0 ∙ c.in-None.ensures.steps.0) in
    c.of-2.ensures ∙ sym (ap (λ es. with_entries g.K.Ord.cmp es c.loop-key.map) none) ∙ c.loop-key.invariant
