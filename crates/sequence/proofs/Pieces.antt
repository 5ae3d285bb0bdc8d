-- What a tree takes in, on its way down.
use Rattle.std.proofs.Common.{◌≡◌, ◌∙◌, ◌+◌, ◌<◌, ◌≤◌, ◌^◌, ◌⊎◌, inl, inr, ℕ, List, length, get_or, set, ap, sym}
use Rattle.std.proofs.Common.{subst, arith, w64, Fits as FitsWidth}
use Rattle.std.specs.Prelude.{Err, IsErrAnd, MatchResult, Ok, OnErr, OnOk, Option, Result, Some}
use Rattle.sequence.specs.declared.tree.Child.{Child}
use Rattle.sequence.specs.declared.tree.insert.Piece.{Piece}
use Rattle.sequence.specs.declared.tree.insert.Piece.TheVariants.{Item, Part}
use Rattle.sequence.specs.declared.tree.search.Spot.{Spot}
use Rattle.sequence.specs.Nodes.{AreChildren, IsList, height_in, items_in}
use Rattle.sequence.specs.Pieces.{Counts, Fits, GoesOn, IsHere, IsPart, items_of, part_of}
use Rattle.sequence.specs.Spots.{Leads, spliced}
use Rattle.sequence.proofs.Nodes.Children.{leads_inner, length-split}
use Rattle.sequence.proofs.Nodes.Ended.{IsEnded, ended, on_ok}
use Rattle.sequence.proofs.Nodes.Placed.{child_here, child_within}

module _ {T L : Type 0} where
  -- one level below it has the same items
  pub same_items : (piece next : Piece T L) → GoesOn piece next → items_of next ≡ items_of piece
  same_items (Item item) next on = ap (λ (p : Piece T L). items_of p) on
  same_items (Part child below) next on = ap (λ (p : Piece T L). items_of p) on.1

  -- and is the same child, if it is one
  pub same_part : (piece next : Piece T L) → GoesOn piece next → part_of next ≡ part_of piece
  same_part (Item item) next on = ap (λ (p : Piece T L). part_of p) on
  same_part (Part child below) next on = ap (λ (p : Piece T L). part_of p) on.1

module _ {T L : Type 0} (label_of : T → L) where
  -- a piece that fits says how many items it has
  pub counts : (piece : Piece T L) (place : ℕ) (tree : List T × ℕ) → Fits label_of piece place tree → Counts piece
  counts (Item item) place tree fits = tt
  counts (Part child below) place tree fits = fits.whole.counted

  -- and fits there
  pub fits_under : (piece next : Piece T L) (tree : List T × ℕ) (cs : List (Child T L)) (place : ℕ) (spot : Spot)
      (d : Child T L) → GoesOn piece next → Fits label_of piece place tree → AreChildren label_of cs
      → items_in cs ≡ tree.0 → height_in cs ≡ tree.1
      → Leads cs place spot → d ≡ get_or cs spot.child d → Fits label_of next spot.place d.tree
  fits_under (Item item) next tree cs place spot d on fits are items high leads is =
      subst (λ (p : Piece T L). Fits label_of p spot.place d.tree) (sym on) tt
  fits_under (Part child below) next tree cs place spot d on fits are items high leads is =
      let level = (are.each spot.child d leads.within).level in
      let same = ap (λ (c : Child T L). c.tree.1) is in
      let long = ap (λ (c : Child T L). length c.tree.0) is in
      let split = length-split cs spot.child d leads.within in
      let all = ap (length {A = T}) items in
      let inside = leads.inside d in
      let edge : (spot.place ≡ 0) ⊎ (spot.place ≡ length d.tree.0) = elim fits.edge [
        | inl first ↦ inl (omega (arith, first, leads.is))
        | inr last ↦ inr (omega (arith, last, leads.is, split, all, inside, long))
      ] in
      subst (λ (p : Piece T L). Fits label_of p spot.place d.tree) (sym on.1) record {
        whole = fits.whole;
        label = fits.label;
        lower = omega (arith, on.0);
        level = omega (arith, on.0, fits.level, level, same, high);
        edge = edge;
      }

-- the child where a piece goes on down, and the branch that it is under
pub record IsIn {T L : Type 0} (label_of : T → L) (piece next : Piece T L) (place : ℕ) (tree : List T × ℕ)
    (cs : List (Child T L)) (spot : Spot) (d : Child T L) : Type 0 where
  pub are : AreChildren label_of cs
  pub same : ◌≡◌ {A = List T × ℕ} (items_in cs, height_in cs) tree
  pub leads : Leads cs place spot
  pub is : d ≡ get_or cs spot.child d
  pub on : GoesOn piece next
  pub fits : Fits label_of piece place tree
  pub room : length tree.0 + length (items_of piece) < 2 ^ 64

module _ {T L : Type 0} (label_of : T → L) (piece next : Piece T L) (place : ℕ) (tree : List T × ℕ)
    (cs : List (Child T L)) (spot : Spot) (d : Child T L) (under : IsIn label_of piece next place tree cs spot d) where
  pub lower_in : (t : ℕ) → tree.1 ≡ t → d.tree.1 < t
  lower_in t is =
      let level = (under.are.each spot.child d under.leads.within).level in
      omega (arith, is, ap (λ (t : List T × ℕ). t.1) under.same, ap (λ (c : Child T L). c.tree.1) under.is, level)

  pub within_in : spot.place ≤ length d.tree.0
  within_in = omega (arith, under.leads.inside d, ap (λ (c : Child T L). length c.tree.0) under.is)

  pub fits_in : Fits label_of next spot.place d.tree
  fits_in =
      fits_under label_of piece next tree cs place spot d under.on under.fits under.are
      (ap (λ (t : List T × ℕ). t.0) under.same) (ap (λ (t : List T × ℕ). t.1) under.same) under.leads under.is

  fewer_in : length d.tree.0 + length (items_of piece) < 2 ^ 64
  fewer_in =
      let all = ap (λ (t : List T × ℕ). length t.0) under.same in
      omega (arith, child_within cs spot.child d under.are under.leads.within under.is, all, under.room)

  pub room_in : length d.tree.0 + length (items_of next) < 2 ^ 64
  room_in =
      subst (λ (es : List T). length d.tree.0 + length es < 2 ^ 64) (sym (same_items piece next under.on)) fewer_in

  pub count_in : (more : ℕ) → more ≡ length (items_of piece) → FitsWidth w64 (d.len + more)
  count_in more is =
      omega (arith, is, fewer_in, (child_here cs spot.child d under.are under.leads.within under.is).counted)

  -- the branch after the piece went in under the child, or did not
  pub put_under_it : {A E : Type 0} (new : List T × ℕ) (len : ℕ) (r : Result A E)
      → OnOk r (new.0 ≡ spliced spot.place 0 (items_of next) d.tree.0) → OnErr r (new.0 ≡ d.tree.0)
      → OnOk r (len ≡ d.len + length (items_of piece)) → OnErr r (len ≡ d.len) → new.1 ≡ d.tree.1
      → IsEnded label_of tree place 0 (items_of piece) (set cs spot.child (record d { len = len; tree = new })) r
  put_under_it new len r put refused more kept height =
      let h = under.leads.within in
      let child = child_here cs spot.child d under.are h under.is in
      let items = subst (λ (es : List T). OnOk r (new.0 ≡ spliced spot.place 0 es d.tree.0))
      (same_items piece next under.on) put in
      ended tree cs spot.child d under.are under.same h under.is place spot.place 0 (items_of piece) under.leads.is
      (omega (arith, within_in)) (λ p. leads_inner _ cs place spot under.are.each under.leads p)
      (omega (arith, under.room)) new len r (on_ok r (λ _. omega (arith, child.wide)) more) items refused height
      (on_ok r (λ (is : len ≡ d.len + length (items_of piece)). omega (arith, is)) more) kept

module _ {T B : Type 0} (place : ℕ) (more : List T) (part : B) (tree now : List T × ℕ) where
  -- what the tree has if the call was refused
  pub put_back : {A : Type 0} (r : Result A B) (e : B) → now ≡ tree → IsErrAnd r (λ back. back ≡ e) → e ≡ part
      → MatchResult r (λ _. now ≡ (spliced place 0 more tree.0, tree.1)) (λ back. (now ≡ tree) × (back ≡ part))
  put_back (Ok a) e kept refused back = absurd refused
  put_back (Err b) e kept refused back = (kept, refused ∙ back)

module _ {T A B : Type 0} (place : ℕ) (more : List T) (part : B) (es new : List T) where
  -- the leaf after the call that puts these items into it
  abbrev pub InLeaf : Result A B → Type 0
  InLeaf r =
      MatchResult r (λ _. (new ≡ spliced place 0 more es) × IsList new) (λ back. (new ≡ es) × (back ≡ part))

  pub leaf_is : (r : Result A B) → InLeaf r → IsList es → IsList new
  leaf_is (Ok a) put list = put.1
  leaf_is (Err e) left list = subst (λ (es : List T). IsList es) (sym left.0) list

  pub put_in_leaf : (tree now : List T × ℕ) (r : Result A B) → InLeaf r → (es, 0) ≡ tree → now ≡ (new, 0)
      → MatchResult r (λ _. now ≡ (spliced place 0 more tree.0, tree.1)) (λ back. (now ≡ tree) × (back ≡ part))
  put_in_leaf tree now (Ok a) put same is =
      is ∙ ap (λ (es : List T). (es, 0)) put.0 ∙ ap (λ (t : List T × ℕ). (spliced place 0 more t.0, t.1)) same
  put_in_leaf tree now (Err e) left same is = (is ∙ ap (λ (es : List T). (es, 0)) left.0 ∙ same, left.1)

module _ {T L : Type 0} (label_of : T → L) where
  -- a piece that belongs on this level is a child of it
  pub part_here : (piece : Piece T L) (child : Child T L) (place : ℕ) (tree : List T × ℕ) → IsHere piece child
      → Fits label_of piece place tree → IsPart label_of child 1 place tree
  part_here (Item item) child place tree here fits = absurd here
  part_here (Part part below) child place tree here fits =
      subst (λ (c : Child T L). IsPart label_of c 1 place tree) (sym here.1) record {
        whole = fits.whole;
        label = fits.label;
        lower = omega arith;
        level = omega (arith, fits.level, fits.lower, here.0);
        edge = fits.edge;
      }

  pub items_here : (piece : Piece T L) (child : Child T L) → IsHere piece child → items_of piece ≡ child.tree.0
  items_here (Item item) child here = absurd here
  items_here (Part part below) child here = ap (λ (c : Child T L). c.tree.0) (sym here.1)

  pub is_here : (piece : Piece T L) (child : Child T L) → IsHere piece child → Some child ≡ part_of piece
  is_here (Item item) child here = absurd here
  is_here (Part part below) child here = ap (λ (c : Child T L). Some c) here.1

  -- the branch after a child was put beside those that it has, or was refused
  abbrev pub Beside : {A : Type 0} → ℕ → Child T L → List (Child T L) → List (Child T L)
      → Result A (Option (Child T L)) → Type 0
  Beside place child cs new r =
      MatchResult r (λ _. (items_in new ≡ spliced place 0 child.tree.0 (items_in cs))
      × ((height_in new ≡ height_in cs) × AreChildren label_of new)) (λ back. (new ≡ cs) × (back ≡ Some child))

  pub beside_are : {A : Type 0} (place : ℕ) (child : Child T L) (cs new : List (Child T L))
      (r : Result A (Option (Child T L))) → Beside place child cs new r → AreChildren label_of cs
      → AreChildren label_of new
  beside_are place child cs new (Ok a) put are = put.1.1
  beside_are place child cs new (Err e) left are = subst (AreChildren label_of) (sym left.0) are

  pub put_beside : {A : Type 0} (place : ℕ) (piece : Piece T L) (child : Child T L) (tree now : List T × ℕ)
      (cs new : List (Child T L)) (r : Result A (Option (Child T L))) → Beside place child cs new r
      → IsHere piece child → (items_in cs, height_in cs) ≡ tree → now ≡ (items_in new, height_in new)
      → MatchResult r (λ _. now ≡ (spliced place 0 (items_of piece) tree.0, tree.1))
      (λ back. (now ≡ tree) × (back ≡ part_of piece))
  put_beside place piece child tree now cs new (Ok a) put here same is =
      is ∙ (λ i. (put.0 i, put.1.0 i)) ∙ ap (λ (t : List T × ℕ). (spliced place 0 child.tree.0 t.0, t.1)) same
      ∙ ap (λ (es : List T). (spliced place 0 es tree.0, tree.1)) (sym (items_here piece child here))
  put_beside place piece child tree now cs new (Err e) left here same is = (
    is ∙ ap (λ (xs : List (Child T L)). (items_in xs, height_in xs)) left.0 ∙ same,
    left.1 ∙ is_here piece child here,
  )
