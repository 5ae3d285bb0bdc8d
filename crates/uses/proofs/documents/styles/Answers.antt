use Rattle.std.proofs.Common.{◌≡◌, ◌∙◌, List, [], ◌∷◌, map, Bor, refl, ap, arith}
use Rattle.std.proofs.lemmas.Grind.{common_steps}
use Rattle.uses.specs.declared.documents.Part.{Part}
use Rattle.cascade.specs.Cascade.{style_of}
use Rattle.uses.proofs.documents.styles.Goals as goal

behind : (parts : List (Bor Part))
    → map (λ p. style_of p.now.element) parts ≡ map (λ part. style_of part.element) (map (λ p. p.now) parts)
behind [] = refl
behind (p ∷ parts) = ap (λ styles. style_of p.now.element ∷ styles) (behind parts)

pub returns : goal.returns
returns c =
    let parts = c.in_ok-values.values.items in
    let all : c.loop-part.styles.items ≡ map (λ (p : Bor Part). style_of p.now.element) parts =
    grind (arith, common_steps) in
    all ∙ behind parts ∙ ap (map (λ (part : Part). style_of part.element)) c.in_ok-values.ensures
