-- Equal nodes of a rule tree have the same parent and the same source.
use Rattle.std.proofs.Common.{◌≡◌, ℕ, Bool, true, false, ◌&&◌, nat_eq, List, [], ◌∷◌, Option, Some, None}
use Rattle.std.proofs.Common.{refl, ap, ap₂, sym, true≢false, arith, rules}
use Rattle.std.specs.Cmp.Lexicographic.{pointwise}
use Rattle.std.specs.Option.{option_eq}
use Rattle.servo_arc.specs.Unions.{Union, First, Second, union_eq}
use Rattle.cascade.specs.contracts.node.RuleNodePartialEq.TheImpl.{eq-value}
use Rattle.cascade.specs.declared.node.RuleNode.{RuleNode}
use Rattle.cascade.specs.declared.source.Declaration.{Declaration}
use Rattle.cascade.specs.declared.source.Rule.{Rule}
use Rattle.cascade.specs.declared.source.Inline.{Inline}

both : (a b : Bool) → (a && b) ≡ true → (a ≡ true) × (b ≡ true)
both true b is = (refl, is)
both false b is = absurd (true≢false (sym is))

module _ {D : Type 0} (E : D → D → Bool) (exact : (a b : D) → E a b ≡ true → a ≡ b) where
  pointwise_true : (xs ys : List D) → pointwise E xs ys ≡ true → xs ≡ ys
  pointwise_true [] [] is = refl
  pointwise_true [] (y ∷ ys) is = absurd (true≢false (sym is))
  pointwise_true (x ∷ xs) [] is = absurd (true≢false (sym is))
  pointwise_true (x ∷ xs) (y ∷ ys) is =
      let parts = both (E x y) (pointwise E xs ys) is in
      ap₂ (λ a b. a ∷ b) (exact x y parts.0) (pointwise_true xs ys parts.1)

  option_true : (a b : Option D) → option_eq E a b ≡ true → a ≡ b
  option_true None None is = refl
  option_true None (Some b) is = absurd (true≢false (sym is))
  option_true (Some a) None is = absurd (true≢false (sym is))
  option_true (Some a) (Some b) is = ap Some (exact a b is)

union_true : {A B : Type 0} (R : A → A → Bool) (S : B → B → Bool) → ((a b : A) → R a b ≡ true → a ≡ b)
    → ((a b : B) → S a b ≡ true → a ≡ b) → (u v : Union A B) → union_eq R S u v ≡ true → u ≡ v
union_true R S r s (First a) (First b) is = ap First (r a b is)
union_true R S r s (First a) (Second b) is = absurd (true≢false (sym is))
union_true R S r s (Second a) (First b) is = absurd (true≢false (sym is))
union_true R S r s (Second a) (Second b) is = ap Second (s a b is)

abbrev rule_eq : (Declaration → Declaration → Bool) → Rule → Rule → Bool
rule_eq E r s = nat_eq r.specificity s.specificity && pointwise E r.declarations.items s.declarations.items

abbrev inline_eq : (Declaration → Declaration → Bool) → Inline → Inline → Bool
inline_eq E r s = pointwise E r.declarations.items s.declarations.items

module _ (E : Declaration → Declaration → Bool) (exact : (x y : Declaration) → E x y ≡ true → x ≡ y) where
  rule_true : (r s : Rule) → rule_eq E r s ≡ true → r ≡ s
  rule_true r s is =
      let xs = r.declarations.items in
      let ys = s.declarations.items in
      let parts = both (nat_eq r.specificity s.specificity) (pointwise E xs ys) is in
      let number : r.specificity ≡ s.specificity = grind (arith, parts.0) in
      ap₂ (λ n d. record { specificity = n; declarations = record { header = tt; items = d } }) number
      (pointwise_true E exact xs ys parts.1)

  inline_true : (r s : Inline) → inline_eq E r s ≡ true → r ≡ s
  inline_true r s is =
      ap (λ d. record { declarations = record { header = tt; items = d } })
      (pointwise_true E exact r.declarations.items s.declarations.items is)

node_true : (N : ℕ → ℕ → Bool) (E : Declaration → Declaration → Bool) (a b : RuleNode)
    → (option_eq N a.parent b.parent && union_eq (rule_eq E) (inline_eq E) a.source b.source) ≡ true
    → ((m n : ℕ) → N m n ≡ true → m ≡ n) → ((x y : Declaration) → E x y ≡ true → x ≡ y)
    → (a.parent ≡ b.parent) × (a.source ≡ b.source)
node_true N E a b is numbers exact =
    let parts = both (option_eq N a.parent b.parent) (union_eq (rule_eq E) (inline_eq E) a.source b.source) is in (
      option_true N numbers a.parent b.parent parts.0,
      union_true (rule_eq E) (inline_eq E) (rule_true E exact) (inline_true E exact) a.source b.source parts.1,
    )

pub same_node : (a b : RuleNode) → eq-value.it a b ≡ true → (a.parent ≡ b.parent) × (a.source ≡ b.source)
same_node a b is = node_true _ _ a b is (λ m n h. search rules) (λ x y h. search rules)
