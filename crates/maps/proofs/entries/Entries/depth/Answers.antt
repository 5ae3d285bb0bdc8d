use Rattle.std.proofs.Common.{◌≡◌, ℕ, zero, suc, ◌+◌, ◌*◌, ◌^◌, ◌≤◌, arith, length, rules, subst}
use Rattle.sequence.specs.Nodes.{IsDeep as IsDeepTree}
use Rattle.maps.specs.Nodes.{key_of}
use Rattle.maps.proofs.entries.Entries.depth.Goals as goal

square : (n : ℕ) → n ^ 2 ≡ n * n
square n = search rules

four_times : (n : ℕ) → 4 * n ≤ (n + 1) * (n + 1)
four_times zero = omega arith
four_times (suc m) = grind arith

pub returns-in-Some-clause-at_most : goal.returns-in-Some-clause-at_most
returns-in-Some-clause-at_most g c =
    let n = length c.in-Some.tree.now.0 in
    subst (λ es. 2 ^ c.depth.result ≤ (length es + 1) ^ 2) c.in-Some.ensures.entries
    (omega (arith, c.depth.ensures.at_most, four_times n, square (n + 1)))

pub returns-in-Some-clause-nodes : goal.returns-in-Some-clause-nodes
returns-in-Some-clause-nodes g c some = record {
  rising = c.tree.ensures.rising;
  whole = subst (λ es. IsDeepTree key_of es c.depth.result) c.in-Some.ensures.entries c.depth.ensures.nodes;
}
