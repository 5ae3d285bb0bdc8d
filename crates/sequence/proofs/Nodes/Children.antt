-- The items under the children of a node.
use Rattle.std.proofs.Common.{◌≡◌, ◌+◌, ◌<◌, ◌≤◌, ◌^◌, ℕ, suc, List, [], ◌∷◌, ◌++◌, length, take, drop, get_or, set}
use Rattle.std.proofs.Common.{ap, sym, ◌∙◌, subst, arith, add-one, append-nil, length-append}
use Rattle.std.proofs.Common.{length-take, take-append-drop}
use Rattle.std.proofs.Common.{Bool, true, eq-eqb, refl}
use Rattle.std.specs.Prelude.{cond, nat_eq, slice_get}
use Rattle.std.specs.List.{All, list_all}
use denote.Param.Weighed.{most}
use Rattle.std.proofs.lemmas.List.{drop_more, set_split, take_more}
use Rattle.std.proofs.lemmas.List.Concat.{flat_map-append}
use Rattle.std.proofs.lemmas.List.Elements.{All-tail, All-take}
use Rattle.std.proofs.lemmas.Nat.{pow_pos}
use Rattle.std.proofs.Math.Seq.{get_or_at, take_at}
use Rattle.sequence.specs.Parts.{IsPart}
use Rattle.sequence.specs.declared.tree.Child.{Child}
use Rattle.sequence.specs.Nodes.{AreChildren, IsChild, IsLabelled, height_in, items_in}
use Rattle.sequence.specs.declared.tree.search.Spot.{Spot}
use Rattle.sequence.specs.Spots.{Leads}
use Rattle.sequence.proofs.Lists.Spliced.{get_between}

-- a list around one item
pub split_at : {X : Type 0} (xs : List X) (i : ℕ) (d : X) → i < length xs
    → xs ≡ take i xs ++ get_or xs i d ∷ drop (i + 1) xs
split_at xs i d h = sym (take-append-drop i xs) ∙ ap (λ r. take i xs ++ r) (drop_more xs i d h)

module _ {T L : Type 0} where
  abbrev under : List (Child T L) → List T
  under cs = items_in cs

  -- the items under the front and under the back
  pub items_append : (cs ds : List (Child T L)) → items_in (cs ++ ds) ≡ items_in cs ++ items_in ds
  items_append cs ds = flat_map-append (λ (c : Child T L). c.tree.0) cs ds

  -- the items before a child, in it and after it
  pub items_split : (cs : List (Child T L)) (i : ℕ) (d : Child T L) → i < length cs
      → items_in cs ≡ items_in (take i cs) ++ ((get_or cs i d).tree.0 ++ items_in (drop (i + 1) cs))
  items_split cs i d h =
      ap under (split_at cs i d h) ∙ items_append (take i cs) (get_or cs i d ∷ drop (i + 1) cs)

  -- with another child in its place
  pub items_set : (cs : List (Child T L)) (i : ℕ) (c : Child T L) → i < length cs
      → items_in (set cs i c) ≡ items_in (take i cs) ++ (c.tree.0 ++ items_in (drop (i + 1) cs))
  items_set cs i c h =
      ap under (set_split cs i c h) ∙ items_append (take i cs) (c ∷ drop (suc i) cs)
      ∙ ap (λ (n : ℕ). items_in (take i cs) ++ (c.tree.0 ++ items_in (drop n cs))) (sym (add-one i))

  -- the items of the first children and of the others
  pub two_parts : (cs : List (Child T L)) (n : ℕ) → items_in cs ≡ items_in (take n cs) ++ items_in (drop n cs)
  two_parts cs n = ap under (sym (take-append-drop n cs)) ∙ items_append (take n cs) (drop n cs)

  pub length-parts : (cs : List (Child T L)) (n : ℕ)
      → length (items_in (take n cs)) + length (items_in (drop n cs)) ≡ length (items_in cs)
  length-parts cs n =
      omega (
        arith,
        ap (length {A = T}) (two_parts cs n),
        length-append (items_in (take n cs)) (items_in (drop n cs)),
      )

  -- the items up to a child and with it
  pub items_more : (cs : List (Child T L)) (i : ℕ) (d : Child T L) → i < length cs
      → items_in (take (i + 1) cs) ≡ items_in (take i cs) ++ (get_or cs i d).tree.0
  items_more cs i d h =
      ap under (take_more cs i d h) ∙ items_append (take i cs) (get_or cs i d ∷ [])
      ∙ ap (λ (es : List T). items_in (take i cs) ++ es) (append-nil (get_or cs i d).tree.0)

  pub length-more : (cs : List (Child T L)) (i : ℕ) (d : Child T L) → i < length cs
      → length (items_in (take (i + 1) cs)) ≡ length (items_in (take i cs)) + length (get_or cs i d).tree.0
  length-more cs i d h =
      omega (
        arith,
        ap (length {A = T}) (items_more cs i d h),
        length-append (items_in (take i cs)) (get_or cs i d).tree.0,
      )

  -- how many there are before a child, in it and after it
  pub length-split : (cs : List (Child T L)) (i : ℕ) (d : Child T L) → i < length cs
      → length (items_in (take i cs)) + length (get_or cs i d).tree.0 + length (items_in (drop (i + 1) cs))
      ≡ length (items_in cs)
  length-split cs i d h = omega (arith, length-more cs i d h, length-parts cs (i + 1))

  -- of children on one level the highest stands there
  most_is : (h : ℕ) (cs : List (Child T L)) → All (IsChild h) cs → 0 < length cs → most (λ c. c.tree.1 + 1) cs ≡ h
  most_is h [] a p = absurd (omega (arith, p))
  most_is h (c ∷ []) a p = let here = (a 0 c (omega arith)).level in omega (arith, here)
  most_is h (c ∷ d ∷ ds) a p =
      let here = (a 0 c (omega arith)).level in
      let rest = most_is h (d ∷ ds) (All-tail (IsChild h) c (d ∷ ds) a) (omega arith) in
      omega (arith, here, rest)

  -- and no two of them differ
  none_differs : (n : ℕ) (cs : List (Child T L)) → All (IsChild (n + 1)) cs
      → list_all (λ c. nat_eq c.tree.1 n) cs ≡ true
  none_differs n [] a = refl
  none_differs n (c ∷ cs) a =
      let here : c.tree.1 ≡ n = omega (arith, (a 0 c (omega arith)).level) in
      rw (eq-eqb c.tree.1 n here) (none_differs n cs (All-tail (IsChild (n + 1)) c cs a))

  -- children on one level have that height
  pub height_is : (h : ℕ) (cs : List (Child T L)) → All (IsChild h) cs → 0 < length cs → height_in cs ≡ h
  height_is h [] a p = absurd (omega (arith, p))
  height_is h (c ∷ cs) a p =
      let level = subst (λ (h : ℕ). All (IsChild h) (c ∷ cs)) (sym (a 0 c (omega arith)).level) a in
      let same = none_differs c.tree.1 cs (All-tail (IsChild (c.tree.1 + 1)) c cs level) in
      omega (arith, most_is h (c ∷ cs) a p, ap (λ (b : Bool). cond b 0 (2 ^ 64)) same)

  -- there are items under some children
  pub some_under : (h : ℕ) (cs : List (Child T L)) → All (IsChild h) cs → 0 < length cs → 0 < length (items_in cs)
  some_under h [] a p = absurd (omega (arith, p))
  some_under h (c ∷ cs) a p =
      let child = a 0 c (omega arith) in
      omega (arith, child.wide, pow_pos c.tree.1, length-append c.tree.0 (items_in cs))

  -- labelled children on one level make a node, if a tree can count their items
  pub children_are : {label_of : T → L} (h : ℕ) (cs : List (Child T L)) → All (IsChild h) cs → 0 < length cs
      → length (items_in cs) < 2 ^ 64 → All (IsLabelled label_of) (drop 1 cs) → AreChildren label_of cs
  children_are h cs a p room labels = record {
    list = record { some = some_under h cs a p; room = room };
    each = subst (λ (h : ℕ). All (IsChild h) cs) (sym (height_is h cs a p)) a;
    labels = labels;
  }

  -- the items of a child are a part of the node's
  pub part_child : (cs : List (Child T L)) (i : ℕ) (d : Child T L) (s n : ℕ) (all : List T) → i < length cs
      → n ≡ s + length (items_in (take i cs)) → IsPart (items_in cs) s all → IsPart (get_or cs i d).tree.0 n all
  part_child cs i d s n all h is part = record {
    at = λ k within.
        let l = items_in (take i cs) in
        let m = (get_or cs i d).tree.0 in
        let r = items_in (drop (i + 1) cs) in
        let place : s + (length l + k) ≡ n + k = omega (arith, is) in
        sym (get_between l m r (length l + k) k (omega arith) within)
        ∙ (subst (λ (es : List T). IsPart es s all) (items_split cs i d h) part).at (length l + k)
        (omega (arith, within, length-append l (m ++ r), length-append m r))
        ∙ ap (λ (n : ℕ). slice_get all n) place;
  }

  -- the items under an only child
  pub items_only : (cs : List (Child T L)) (c : Child T L) → c ≡ get_or cs 0 c → length cs ≡ 1 → c.tree.0 ≡ items_in cs
  items_only [] c h is = absurd (omega (arith, is))
  items_only (d ∷ []) c h is = ap (λ (c : Child T L). c.tree.0) h ∙ sym (append-nil d.tree.0)
  items_only (d ∷ e ∷ cs) c h is = absurd (omega (arith, is))

  -- a place that leads to a child behind the first is behind the first item of that child
  pub leads_inner : (h : ℕ) (cs : List (Child T L)) (place : ℕ) (spot : Spot) → All (IsChild h) cs
      → Leads cs place spot → 0 < spot.child → 0 < spot.place
  leads_inner h cs place spot a leads p =
      let front = take spot.child cs in
      let some : 0 < length (items_in front) =
      some_under h front (All-take (IsChild h) spot.child cs a)
      (omega (arith, p, leads.within, length-take spot.child cs)) in
      leads.inner (omega (arith, some, leads.is))

  -- a place that leads to a child behind others
  pub leads_at : (pre post : List (Child T L)) (c : Child T L) (n place k : ℕ) → length pre ≡ n
      → place ≡ length (items_in pre) + k → k ≤ length c.tree.0 → (0 < place → 0 < k)
      → Leads (pre ++ c ∷ post) place (record { child = n; place = k })
  leads_at pre post c n place k long is inside inner = record {
    within = omega (arith, length-append pre (c ∷ post), long);
    inside = λ d. subst (λ (c : Child T L). k ≤ length c.tree.0) (sym (get_or_at pre c post d n long)) inside;
    is = is ∙ ap (λ (cs : List (Child T L)). length (items_in cs) + k) (sym (take_at pre (c ∷ post) n long));
    inner = inner;
  }
