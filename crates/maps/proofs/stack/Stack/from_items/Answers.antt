use Rattle.std.proofs.Common.{◌++◌, ◌∷◌, [], ◌∙◌, ap, append-nil, append_assoc, arith, sym}
use Rattle.std.proofs.lemmas.List.{nil_from_length}
use Rattle.maps.proofs.stack.Stack.from_items.Goals as goal

pub loop-item-init : goal.loop-item-init
loop-item-init g c =
    let es = c.args.items.items in
    ap (λ xs. es ++ xs) c.new-stack.ensures ∙ append-nil es

pub loop-item-smaller : goal.loop-item-smaller
loop-item-smaller g c =
    omega (arith, c.in-Some.ensures.cases, c.pop.new.self.ok.0, c.loop-item.items.ok.0)

pub loop-item-preserved : goal.loop-item-preserved
loop-item-preserved g c =
    let left = c.pop.new.self.items in
    let stack = c.loop-item.stack in
    ap (λ xs. left ++ xs) c.in_ok-put_first.ensures ∙ sym (append_assoc left (c.in-Some.item ∷ []) stack)
    ∙ sym (ap (λ xs. xs ++ stack) c.in-Some.ensures.items) ∙ c.loop-item.invariant

pub returns : goal.returns
returns g c =
    let left = c.loop-item.items in
    let none = nil_from_length left.items (sym left.ok.0 ∙ c.in_default.ensures.cases.0) in
    ap (λ xs. xs ++ c.loop-item.stack) (sym none) ∙ c.loop-item.invariant
