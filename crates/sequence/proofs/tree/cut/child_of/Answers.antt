use Rattle.std.proofs.Common.{◌≡◌, ◌+◌, ◌<◌, ◌≤◌, ◌∙◌, inl, inr, ℕ, List, ap, arith, length, nat_lt, subst, sym, take}
use Rattle.std.specs.Int.{from_bool}
use Rattle.std.proofs.lemmas.Bool.{cases_lt, le-ltb, lt-ltb}
use Rattle.std.proofs.lemmas.List.{take_all}
use Rattle.std.proofs.lemmas.List.Sums.{prefix_len-le-length}
use Rattle.sequence.specs.declared.tree.Child.{Child}
use Rattle.sequence.specs.Cuts.{first}
use Rattle.sequence.specs.Nodes.{items_in}
use Rattle.sequence.proofs.Cutting.Labels.{label_read, length-sooner}
use Rattle.sequence.proofs.tree.cut.child_of.Goals as goal

-- one more child is counted if its first item is before the cut, and is then the next of those that are
module _ (starts : ℕ → ℕ) (cut at seen next : ℕ) (behind : at ≤ seen) (before : 0 < starts at → starts at < cut)
    (to : at < seen → cut ≤ starts (at + 1)) (later : at < seen → starts (at + 1) ≤ starts (seen + 1))
    (is : next ≡ at + from_bool (nat_lt (starts (seen + 1)) cut)) where
  abbrev Counted : Type 0
  Counted = record {
    behind : next ≤ seen + 1;
    before : 0 < starts next → starts next < cut;
    to : next < seen + 1 → cut ≤ starts (next + 1);
  }

  one_more : starts (seen + 1) < cut → Counted
  one_more less =
      let adds : next ≡ at + 1 = is ∙ ap (λ b. at + from_bool b) (lt-ltb (starts (seen + 1)) cut less) in
      let all : seen ≤ at = elim (cases_lt at seen) [
        | inl l ↦ absurd (omega (arith, less, to l, later l))
        | inr all ↦ all
      ] in
      let last : seen + 1 ≡ next = omega (arith, adds, all, behind) in
      record {
        behind = omega (arith, last);
        before = λ _. subst (λ (n : ℕ). starts n < cut) last less;
        to = λ less. absurd (omega (arith, less, last));
      }

  no_more : cut ≤ starts (seen + 1) → Counted
  no_more past =
      let adds : at ≡ next = omega (arith, is ∙ ap (λ b. at + from_bool b) (le-ltb (starts (seen + 1)) cut past)) in
      let up : cut ≤ starts (at + 1) = elim (cases_lt at seen) [
        | inl l ↦ to l
        | inr all ↦ let same : seen ≡ at = omega (arith, all, behind) in
            subst (λ (n : ℕ). cut ≤ starts (n + 1)) same past
      ] in
      record {
        behind = omega (arith, adds, behind);
        before = subst (λ (n : ℕ). 0 < starts n → starts n < cut) adds before;
        to = λ _. subst (λ (n : ℕ). cut ≤ starts (n + 1)) adds up;
      }

  counted : Counted
  counted = elim (cases_lt (starts (seen + 1)) cut) [
    | inl less ↦ one_more less
    | inr past ↦ no_more past
  ]

pub along-preserved : goal.along-preserved
along-preserved g c =
    let cs = c.args.children.now in
    let at = c.along.at in
    let seen = c.along.seen in
    let was = c.along.invariant in
    let within : seen + 1 < length cs = omega (arith, c.along-test.true, was.within) in
    let read =
    label_read g.L.Label.label_of (g.C.Cut.is_before c.args.cut.now) cs c.requires.children c.requires.cut (seen + 1)
    c.index-children-seen.result (omega arith) within c.label.result c.label.ensures in
    let more = counted (λ (i : ℕ). length (items_in (take i cs)))
    (first (g.C.Cut.is_before c.args.cut.now) (items_in cs)) at seen _ was.behind was.before
    was.to (λ less. length-sooner cs (at + 1) (seen + 1) (omega (arith, less)))
    (ap (λ n. at + n) (c.from-at.ensures ∙ ap from_bool read)) in
    record { within = within; behind = more.behind; before = more.before; to = more.to }

pub returns-clause-among : goal.returns-clause-among
returns-clause-among g c =
    let cs = c.args.children.now in
    let at = c.along.at in
    let seen = c.along.invariant in
    let test = g.C.Cut.is_before c.args.cut.now in
    record {
      behind = seen.before;
      up = elim (cases_lt at c.along.seen) [
        | inl less ↦ seen.to less
        | inr all ↦
            subst (λ (xs : List (Child g.row.T.Denot g.row.L.Denot)). first test (items_in cs) ≤ length (items_in xs))
            (sym (take_all (at + 1) cs (omega (arith, all, c.along-test.false))))
            (prefix_len-le-length test (items_in cs))
      ];
    }
