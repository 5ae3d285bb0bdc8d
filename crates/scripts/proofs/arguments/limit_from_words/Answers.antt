use Rattle.std.proofs.Common.{map, ◌≡◌, ℕ, ◌<◌, List, [], ◌∷◌, length, get_or, subst, arith}
use Rattle.std.proofs.Common.{◌∙◌, decimal}
use Rattle.std.proofs.lemmas.Fmt.{decimal_injective}
use Rattle.scripts.specs.Number.{IsNumber}
use Rattle.scripts.specs.Arguments.{AskLimit}
use Rattle.scripts.proofs.arguments.limit_from_words.Goals as goal

-- a word by its place
map-one : {X : Type 0} (f : X → List ℕ) (xs : List X) (x : X)
    → length xs ≡ 1 → x ≡ get_or xs 0 x → map f xs ≡ f x ∷ []
map-one f [] x one first = absurd (omega arith)
map-one f (a ∷ []) x one first = let e : x ≡ a = first in cc
map-one f (a ∷ b ∷ more) x one first = absurd (omega arith)

-- no handle at all is no limit
no_limit : (words : List (List ℕ)) (text bytes : List ℕ) (number : ℕ) → words ≡ text ∷ [] → bytes ≡ text
    → IsNumber bytes number → number ≡ 0 → (limit : ℕ) → ¬ (AskLimit words limit)
no_limit words text bytes number are same is none limit asks =
    let asked : AskLimit (text ∷ []) limit = subst (λ w. AskLimit w limit) are asks in
    let written : text ≡ decimal limit = asked.0.0 in
    let fits : limit < 4294967296 = asked.0.1 in
    let read : bytes ≡ decimal number = is.0 in
    let texts : decimal number ≡ decimal limit = cc in
    let equal : number ≡ limit = decimal_injective number limit (omega arith) (omega arith) texts in
    omega (arith, asked.1)

pub returns-in-0-clause-wrong : goal.returns-in-0-clause-wrong
returns-in-0-clause-wrong g c =
    let are = map-one g.S.AsStr.text c.args.words.now c.limit-item.result (omega arith) c.limit-item.is in
    no_limit _ _ _ _ are (c.as_bytes.ensures.value ∙ c.as_str.ensures) c.in_ok-limit-in-len1.ensures.number c.in-0.is
