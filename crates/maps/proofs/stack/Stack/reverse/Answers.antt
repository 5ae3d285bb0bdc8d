use Rattle.std.proofs.Common.{◌++◌, ◌∷◌, [], ◌∙◌, ap, ap₂, append-nil, append_assoc, reverse, sym}
use Rattle.std.proofs.lemmas.Grind.{reverse_onto}
use Rattle.maps.proofs.stack.Stack.reverse.Goals as goal

pub loop-item-init : goal.loop-item-init
loop-item-init g c =
    ap₂ (λ xs ys. reverse xs ++ ys) c.into_iter-item-iterator.ensures.into_iter_gives c.new-reversed.ensures
    ∙ append-nil (reverse c.args.self.now)

pub loop-item-preserved : goal.loop-item-preserved
loop-item-preserved g c =
    let rest = c.next.new.self in
    let item = c.in-Some.item.now in
    let reversed = c.loop-item.reversed in
    let same = c.requires item c.in_ok-clone.field-0 c.in_ok-clone.ensures.cases in
    let all = ap (λ xs. reverse xs) c.in-Some.ensures.steps ∙ reverse_onto rest item [] in
    ap (λ xs. reverse rest ++ xs) (c.in_ok-put_first.ensures ∙ ap (λ x. x ∷ reversed) same)
    ∙ sym (append_assoc (reverse rest) (item ∷ []) reversed) ∙ sym (ap (λ xs. xs ++ reversed) all)
    ∙ c.loop-item.invariant

pub returns : goal.returns
returns g c = ap (λ xs. reverse xs ++ c.loop-item.reversed) (sym c.in-None.ensures.steps.0) ∙ c.loop-item.invariant
