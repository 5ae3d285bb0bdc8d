-- What a node that is found, and one that is made, say of the styles of a rule tree.
use Rattle.std.proofs.Common.{◌≡◌, ℕ, ◌<◌, Bool, true, false, nat_lt, List, [], ◌∷◌, ◌++◌, length, get_or}
use Rattle.std.proofs.Common.{Option, None, Some, Result, Ok, Err, IfOk, OnErr}
use Rattle.std.proofs.Common.{refl, sym, ap, ap₂, ◌∙◌, subst, arith, length-append, if◌then◌else◌}
use Rattle.std.proofs.lemmas.List.{get_or_append_left, get_or_push}
use Rattle.std.proofs.lemmas.List.Quantifiers.{position-Some}
use Rattle.std.proofs.lemmas.Option.{slice_get-get_or}
use Rattle.std.specs.Cmp.{IsEquivalence}
use Rattle.std.specs.List.{list_any}
use Rattle.std.specs.Option.{option_map_or}
use Rattle.interner.specs.Made.{IsFoundOrMade}
use Rattle.interner.proofs.Symbols.{any_of_form}
use Rattle.servo_arc.specs.Unions.{Union}
use Rattle.cascade.specs.declared.node.RuleNode.{RuleNode}
use Rattle.cascade.specs.declared.source.Inline.{Inline}
use Rattle.cascade.specs.declared.source.Rule.{Rule}
use Rattle.cascade.specs.declared.style.Style.{Style}
use Rattle.cascade.specs.Cascade.{cascaded}
use Rattle.cascade.specs.RuleTree.{IsBefore, AreComputed, style_at}

-- what holds of each item and of one more
each_of_push : {X : Type 0} (P : ℕ → X → Type 0) (xs : List X) (x : X)
    → ((i : ℕ) (d : X) → i < length xs → P i (get_or xs i d)) → P (length xs) x
    → (i : ℕ) (d : X) → i < length (xs ++ x ∷ []) → P i (get_or (xs ++ x ∷ []) i d)
each_of_push P xs x each last i d low = by (nat_lt i (length xs)) refl
  where
    by : (b : Bool) → nat_lt i (length xs) ≡ b → P i (get_or (xs ++ x ∷ []) i d)
    by true is =
        let below : i < length xs = grind (arith, is) in
        subst (P i) (sym (get_or_append_left xs (x ∷ []) d i below)) (each i d below)
    by false is =
        let at : length xs ≡ i = grind (arith, is, low, length-append xs (x ∷ [])) in
        subst (P i) (sym (get_or_push xs x d i at)) (subst (λ k. P k x) at last)

module _ (root : Style) where
  style_of_place : (nodes : List RuleNode) (i : ℕ) (d : RuleNode) → i < length nodes
      → style_at root nodes (Some i) ≡ (get_or nodes i d).style
  style_of_place nodes i d low = ap (λ o. option_map_or (λ n. n.style) o root) (slice_get-get_or nodes i d low)

  -- what stood before keeps its style
  style_stays : (nodes : List RuleNode) (more : RuleNode) (node : Option ℕ) → IsBefore node (length nodes)
      → style_at root (nodes ++ more ∷ []) node ≡ style_at root nodes node
  style_stays nodes more None there = refl
  style_stays nodes more (Some n) there =
      let low : n < length nodes = there n refl in
      let longer : n < length (nodes ++ more ∷ []) = omega (arith, low, length-append nodes (more ∷ [])) in
      style_of_place (nodes ++ more ∷ []) n more longer
      ∙ ap (λ node. node.style) (get_or_append_left nodes (more ∷ []) more n low)
      ∙ sym (style_of_place nodes n more low)

  earlier : (node : Option ℕ) (i n : ℕ) → i < n → IsBefore node i → IsBefore node n
  earlier parent i n low there = λ p is. let below = there p is in omega arith

  computed_with : (nodes : List RuleNode) (node : RuleNode) → AreComputed root nodes
      → IsBefore node.parent (length nodes) → node.style ≡ cascaded (style_at root nodes node.parent) node.source
      → AreComputed root (nodes ++ node ∷ [])
  computed_with nodes node old there is = record {
    behind = each_of_push (λ i n. IsBefore n.parent i) nodes node old.behind there;
    style = each_of_push Fits nodes node before last;
  }
    where
      Fits : ℕ → RuleNode → Type 0
      Fits i n = n.style ≡ cascaded (style_at root (nodes ++ node ∷ []) n.parent) n.source

      before : (i : ℕ) (d : RuleNode) → i < length nodes → Fits i (get_or nodes i d)
      before i d low =
          let parent = earlier (get_or nodes i d).parent i (length nodes) low (old.behind i d low) in
          old.style i d low
          ∙ ap (λ s. cascaded s (get_or nodes i d).source)
          (sym (style_stays nodes node (get_or nodes i d).parent parent))

      last : Fits (length nodes) node
      last = is ∙ ap (λ s. cascaded s node.source) (sym (style_stays nodes node node.parent there))

  module _ (nodes new : List RuleNode) (parent : Option ℕ) (source : Union Rule Inline) where
    -- all styles are computed after a child was found or made, and its own is that of its parent with its source
    pub record IsChild (s : ℕ) : Type 0 where
      pub computed : AreComputed root new
      pub there : s < length new
      pub style : style_at root new (Some s) ≡ cascaded (style_at root nodes parent) source

    module _ (E : RuleNode → RuleNode → Bool) (laws : IsEquivalence E)
        (exact : (a b : RuleNode) → E a b ≡ true → (a.parent ≡ b.parent) × (a.source ≡ b.source)) (any : Style) where
      abbrev node : Style → RuleNode
      node style = record { parent = parent; source = source; style = style }

      abbrev pub IsMet : ℕ → Type 0
      IsMet = IsFoundOrMade E (E (node any)) (λ n. n ≡ node (cascaded (style_at root nodes parent) source)) nodes new

      module _ (old : AreComputed root nodes) (before : IsBefore parent (length nodes)) where
        module _ (s : ℕ) (met : IsMet s) where
          reached : AreComputed root new → style_at root new parent ≡ style_at root nodes parent → IsChild s
          reached computed same =
              let place = position-Some (E met.value) new s met.value
              ((met.interned.one met.value).1 (laws.refl met.value)) in
              let first = exact (node any) met.value met.stands in
              let second = exact met.value (get_or new s met.value) place.1 in
              record {
                computed = computed;
                there = place.0;
                style =
                    style_of_place new s met.value place.0
                    ∙ computed.style s met.value place.0
                    ∙ ap₂ cascaded (ap (style_at root new) (sym (first.0 ∙ second.0)) ∙ same)
                    (sym (first.1 ∙ second.1));
              }

          pub child_of : IsChild s
          child_of = by (list_any (E met.value) nodes) refl
            where
              by : (b : Bool) → list_any (E met.value) nodes ≡ b → IsChild s
              by true is =
                  let same : new ≡ nodes
                  = met.interned.values ∙ ap (λ b. if b then nodes else nodes ++ met.value ∷ []) is in
                  reached (subst (AreComputed root) (sym same) old) (ap (λ ns. style_at root ns parent) same)
              by false is =
                  let none = any_of_form laws (E (node any)) (laws.congr (node any)) met.value met.stands nodes ∙ is in
                  let made = met.made none in
                  let grown : new ≡ nodes ++ node (cascaded (style_at root nodes parent) source) ∷ []
                  = met.interned.values ∙ ap (λ b. if b then nodes else nodes ++ met.value ∷ []) is
                  ∙ ap (λ n. nodes ++ n ∷ []) made in
                  reached
                  (subst (AreComputed root) (sym grown) (computed_with nodes (node _) old before refl))
                  (ap (λ ns. style_at root ns parent) grown ∙ style_stays nodes (node _) parent before)

        -- the styles stay computed, whether or not the node was refused
        pub computed_after : {X : Type 0} (r : Result ℕ X) → IfOk r IsMet → OnErr r (new ≡ nodes)
            → AreComputed root new
        computed_after (Ok s) met refused = (child_of s met).computed
        computed_after (Err e) met refused = subst (AreComputed root) (sym refused) old
