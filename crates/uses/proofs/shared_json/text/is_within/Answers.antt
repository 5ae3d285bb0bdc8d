use Rattle.std.proofs.Common.{◌≡◌, ℕ, ◌+◌, ◌<◌, ◌≤◌, List, [], ◌∷◌, ap, arith, inl, inr, subst, sym}
use Rattle.json.specs.Reads.{token_of}
use Rattle.json.specs.Token.{Token}
use Rattle.uses.specs.JsonLevels.{most_open, open_after}
use Rattle.uses.proofs.shared_json.text.is_within.Goals as goal

at_least : (n : ℕ) (ts : List Token) → n ≤ most_open n ts
at_least n [] = omega arith
at_least n (t ∷ ts) = omega arith

one_more : (n : ℕ) (t : Token) (ts : List Token) → open_after n t ≡ n + 1 → n < most_open n (t ∷ ts)
one_more n t ts e = let least = at_least (open_after n t) ts in omega (arith, least, e)

pub returns-then-open-levels : goal.returns-then-open-levels
returns-then-open-levels c =
    let l = c.loop-token in
    let first : l.reader ≡ token_of c.in-Some.token ∷ c.next.new.self = c.in-Some.ensures.value in
    let opens : open_after l.open (token_of c.in-Some.token) ≡ l.open + 1 = elim c.in-BeginArray.is [
      | inl e ↦ ap (λ k. open_after l.open (token_of k)) e
      | inr e ↦ ap (λ k. open_after l.open (token_of k)) e
    ] in
    let over = one_more l.open _ c.next.new.self opens in (
      λ h. absurd (cc),
      λ h.
          let few = l.invariant.1.0 (subst (λ ts. most_open 0 ts ≤ c.args.levels) (sym c.in_ok-reader.ensures.ok) h) in
          absurd (omega (arith, over, few, ap (most_open l.open) first, c.if-open-levels.true)),
    )
