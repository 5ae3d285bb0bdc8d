-- A place between two children, where a branch becomes two.
use Rattle.std.proofs.Common.{◌≡◌, ◌+◌, ◌-◌, ◌/◌, ◌<◌, ◌≤◌, ◌^◌, ℕ, List, [], ◌∷◌, ◌++◌, length, take, drop, get_or}
use Rattle.std.proofs.Common.{set, ap, sym, ◌∙◌, subst, arith, append-nil, inl, inr, length-append, length-set}
use Rattle.std.specs.List.{insert}
use Rattle.std.specs.Prelude.{Err, MatchResult, Ok, Result}
use Rattle.std.proofs.lemmas.Bool.{cases_lt}
use Rattle.std.proofs.lemmas.Grind.{pow_more}
use Rattle.std.proofs.lemmas.List.{drop_all, get_or_default, length-take-le, take_more_set}
use Rattle.std.proofs.lemmas.Nat.{pow_pos}
use Rattle.std.proofs.Math.Seq.{take_at}
use Rattle.sequence.specs.declared.tree.Child.{Child}
use Rattle.sequence.specs.declared.tree.search.Spot.{Spot}
use Rattle.sequence.specs.Nodes.{AreChildren, AreCut, AreHalves, IsChild, StandFor, height_in, items_in}
use Rattle.sequence.specs.Spots.{IsEdge, Leads}
use Rattle.sequence.proofs.Nodes.Children.{items_append, length-parts}
use Rattle.sequence.proofs.Nodes.Placed.{child_here, stand_on}
use Rattle.sequence.proofs.Shapes.Joined.{split_stands}

-- half of what a child one level higher has at least
pub half_is : (n h least : ℕ) → n + 1 ≡ h → least ≡ 2 ^ h → least / 2 ≡ 2 ^ n
half_is n h least up is = omega (arith, pow_more 2 n, is ∙ ap (λ (k : ℕ). 2 ^ k) (sym up))

module _ {T L : Type 0} where
  -- each side of a place has enough items for the height of these
  abbrev pub AreWide : ℕ → List (Child T L) → Type 0
  AreWide at cs =
      (2 ^ height_in cs ≤ length (items_in (take at cs))) × (2 ^ height_in cs ≤ length (items_in (drop at cs)))

  module _ (cs : List (Child T L)) (at : ℕ) where
    pub wide_at : (place least : ℕ) → IsEdge cs place at → least ≡ 2 ^ height_in cs → least ≤ place
        → place + least ≤ length (items_in cs) → AreWide at cs
    wide_at place least edge is front back =
        (omega (arith, edge.is, is, front), omega (arith, edge.is, is, back, length-parts cs at))

    -- so there is a child behind the place
    pub wide_within : AreWide at cs → at < length cs
    wide_within wide = elim (cases_lt at (length cs)) [
      | inl is ↦ is
      | inr all ↦ absurd (omega (
        arith,
        wide.1,
        pow_pos (height_in cs),
        ap (λ (xs : List (Child T L)). length (items_in xs)) (drop_all at cs all),
      ))
    ]

  -- a place before all of a child is between it and the one before it
  pub edge_here : (cs : List (Child T L)) (place i : ℕ) → 0 < place → place ≡ length (items_in (take i cs)) + 0
      → IsEdge cs place i
  edge_here cs place i some is = record {
    some = elim (cases_lt 0 i) [
      | inl p ↦ p
      | inr none ↦
          let first : i ≡ 0 = omega (arith, none) in
          absurd (omega (arith, some, is, ap (λ (n : ℕ). length (items_in (take n cs))) first))
    ];
    is = omega (arith, is);
  }

module _ {T L : Type 0} {label_of : T → L} where
  -- the place stays between two children if those before it stay
  pub wide_kept : (cs new : List (Child T L)) (at : ℕ) → StandFor label_of cs new → take at new ≡ take at cs
      → AreWide at cs → AreWide at new
  wide_kept cs new at same before wide =
      let front = ap (λ (xs : List (Child T L)). length (items_in xs)) before in
      let high = ap (λ (h : ℕ). 2 ^ h) same.height in (
        omega (arith, wide.0, front, high),
        omega (
          arith,
          wide.1,
          front,
          high,
          length-parts cs at,
          length-parts new at,
          ap (length {A = T}) same.items,
        ),
      )

  -- a branch in two at the place of that child or as it was, if others stood for its children
  pub cut_through : {E : Type 0} (cs there new : List (Child T L)) (place at : ℕ) → StandFor label_of cs there
      → IsEdge there place at → (r : Result (Child T L) E)
      → MatchResult r (AreCut label_of (length (items_in (take at there))) there new) (λ _. StandFor label_of there new)
      → MatchResult r (AreCut label_of place cs new) (λ _. StandFor label_of cs new)
  cut_through cs there new place at same edge (Ok r) cut = record {
    halves = subst (λ (t : List T × ℕ). AreHalves label_of t (items_in new, height_in new) r)
        (λ i. (same.items i, same.height i)) cut.halves;
    kept = cut.kept ∙ sym edge.is;
  }
  cut_through cs there new place at same edge (Err _) stands = stand_on cs there new same stands

  -- a branch in two, if others stood for its children, and others stand for those that it keeps
  pub cut_stands : (cs there left new : List (Child T L)) (r : Child T L) (at : ℕ) → StandFor label_of cs there
      → take at there ≡ take at cs → left ≡ take at there
      → AreHalves label_of (items_in there, height_in there) (items_in left, height_in left) r
      → StandFor label_of left new → AreCut label_of (length (items_in (take at cs))) cs new r
  cut_stands cs there left new r at same before kept halves last =
      let halves : AreHalves label_of (items_in cs, height_in cs) (items_in left, height_in left) r =
      subst (λ (t : List T × ℕ). AreHalves label_of t (items_in left, height_in left) r)
      (λ i. (same.items i, same.height i)) halves in
      record {
        halves = subst (λ (t : List T × ℕ). AreHalves label_of (items_in cs, height_in cs) t r)
            (λ i. (sym last.items i, sym last.height i)) halves;
        kept = ap (length {A = T}) last.items
            ∙ ap (λ (xs : List (Child T L)). length (items_in xs)) (kept ∙ before);
      }

  module _ (cs : List (Child T L)) (i : ℕ) (d l r : Child T L) (are : AreChildren label_of cs)
      (h : i < length cs) (is : d ≡ get_or cs i d) (child : IsChild (d.tree.1 + 1) l)
      (halves : AreHalves label_of d.tree l.tree r) (same : l.label ≡ d.label) where
    -- a child that is two has the place between them
    pub edge_between : (place : ℕ) → place ≡ length (items_in (take i cs)) + length l.tree.0
        → StandFor label_of cs (insert (set cs i l) (i + 1) r) × IsEdge (insert (set cs i l) (i + 1) r) place (i + 1)
    edge_between place at =
        let all = set cs i l in
        let front : take (i + 1) (insert all (i + 1) r) ≡ take i cs ++ l ∷ [] =
        take_at (take (i + 1) all) (r ∷ drop (i + 1) all) (i + 1)
        (length-take-le (i + 1) all (omega (arith, h, length-set cs i l)))
        ∙ take_more_set cs i l h in
        let items = ap (λ (xs : List (Child T L)). items_in xs) front
        ∙ items_append (take i cs) (l ∷ [])
        ∙ ap (λ (es : List T). items_in (take i cs) ++ es) (append-nil l.tree.0) in (
          split_stands cs i d l r are h is child halves same,
          record {
            some = omega arith;
            is = omega (arith, at, ap (length {A = T}) items, length-append (items_in (take i cs)) l.tree.0);
          },
        )

  -- a child around a place asks for no more to become two there
  pub part_asks : (cs : List (Child T L)) (place least : ℕ) (spot : Spot) (d e : Child T L) → AreChildren label_of cs
      → Leads cs (place + 1) spot → d ≡ get_or cs spot.child d → e ≡ get_or cs spot.child e
      → least ≡ 2 ^ height_in cs → least / 2 ≤ spot.place - 1 → least / 2 ≤ e.len - (spot.place - 1)
      → (least / 2 ≡ 2 ^ d.tree.1)
      × ((least / 2 ≤ spot.place - 1) × (spot.place - 1 + least / 2 ≤ length d.tree.0))
  part_asks cs place least spot d e are leads is read least_is front back =
      let old = child_here cs spot.child d are leads.within is in
      let level = ap (λ (c : Child T L). c.tree.1 + 1) is ∙ (are.each spot.child d leads.within).level in
      let same = read ∙ get_or_default cs spot.child e d leads.within ∙ sym is in (
        half_is d.tree.1 (height_in cs) least level least_is,
        (
          front,
          omega (
            arith,
            back,
            ap (λ (c : Child T L). c.len) same,
            old.counted,
            leads.inside d,
            ap (λ (c : Child T L). length c.tree.0) is,
          ),
        ),
      )
