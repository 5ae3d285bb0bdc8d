-- Two items at one place, and then those after them, decide.
use Rattle.std.proofs.Common.{◌≡◌, ℕ, suc, ◌+◌, ◌<◌, ◌≤◌, ◌&&◌, Bool, true, false, not, List, ◌∷◌, length, drop, get_or}
use Rattle.std.proofs.Common.{refl, sym, ◌∙◌, ap, ap₂, subst, arith, drop-cons}
use Rattle.std.proofs.Math.ListN.{drop_of_length-le}
use Rattle.std.specs.Cmp.Lexicographic.{pointwise}
use Rattle.cow_table.proofs.compare.CowTablePartialEq.eq.Goals as goal

module _ {X : Type 0} (E : X → X → Bool) (xs ys : List X) (i : ℕ) (x y : X) where
  here : i < length xs → i < length ys → x ≡ get_or xs i x → y ≡ get_or ys i y
      → pointwise E (drop i xs) (drop i ys) ≡ pointwise E (x ∷ drop (suc i) xs) (y ∷ drop (suc i) ys)
  here in_xs in_ys is_x is_y =
      ap₂ (pointwise E) (drop-cons xs i x in_xs ∙ ap (λ z. z ∷ drop (suc i) xs) (sym is_x))
      (drop-cons ys i y in_ys ∙ ap (λ z. z ∷ drop (suc i) ys) (sym is_y))

differ : (b : Bool) → true ≡ not b → b ≡ false
differ true e = cc
differ false e = refl

agree : (b : Bool) → false ≡ not b → b ≡ true
agree true e = refl
agree false e = cc

pub loop-i-init : goal.loop-i-init
loop-i-init g c = record {
  decides = refl;
  same_length = sym c.len.ensures ∙ c.if-len.false ∙ c.len-2.ensures;
}

pub returns-then-ne : goal.returns-then-ne
returns-then-ne g c =
    let E = g.T.PartialEq.eq in
    let both = here E c.args.self.now c.args.other.now c.loop-i.i c.index.result.now c.index-in-loop-i.result.now
    (omega arith) (omega arith) c.index.ensures c.index-in-loop-i.ensures in
    let unlike = differ _ (sym c.if-ne.true ∙ c.ne.ensures) in
    sym (sym c.loop-i.invariant.decides ∙ both ∙ ap (λ b. b && pointwise E (drop (suc c.loop-i.i) c.args.self.now)
    (drop (suc c.loop-i.i) c.args.other.now)) unlike)

pub loop-i-preserved : goal.loop-i-preserved
loop-i-preserved g c =
    let E = g.T.PartialEq.eq in
    let both = here E c.args.self.now c.args.other.now c.loop-i.i c.index.result.now c.index-in-loop-i.result.now
    (omega arith) (omega arith) c.index.ensures c.index-in-loop-i.ensures in
    let like = agree _ (sym c.if-ne.false ∙ c.ne.ensures) in
    let next : suc c.loop-i.i ≡ c.loop-i.i + 1 = omega arith in
    record {
      decides = subst (λ n. pointwise E (drop n c.args.self.now) (drop n c.args.other.now)
          ≡ pointwise E c.args.self.now c.args.other.now) next
          (sym (ap (λ b. b && pointwise E (drop (suc c.loop-i.i) c.args.self.now)
          (drop (suc c.loop-i.i) c.args.other.now)) like) ∙ sym both ∙ c.loop-i.invariant.decides);
      same_length = c.loop-i.invariant.same_length;
    }

pub returns : goal.returns
returns g c =
    let E = g.T.PartialEq.eq in
    let past : length c.args.self.now ≤ c.loop-i.i = omega arith in
    let past_other : length c.args.other.now ≤ c.loop-i.i = omega arith in
    sym (sym c.loop-i.invariant.decides ∙ ap₂ (pointwise E) (drop_of_length-le c.args.self.now past)
    (drop_of_length-le c.args.other.now past_other))
