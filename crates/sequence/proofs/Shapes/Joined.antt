-- A node two of whose children, side by side, became one, or one became two.
use Rattle.std.proofs.Common.{◌≡◌, ◌+◌, ◌-◌, ◌<◌, ◌≤◌, ◌^◌, ℕ, suc, List, [], ◌∷◌, ◌++◌, length, take, drop}
use Rattle.std.proofs.Common.{get_or, set, ap, sym, ◌∙◌, subst, arith, length-append, length-drop, append_assoc}
use Rattle.std.proofs.Common.{append-nil, add-one, inl, inr, cond}
use Rattle.std.specs.Prelude.{Bool}
use Rattle.std.specs.List.{All, insert, remove}
use Rattle.std.proofs.lemmas.List.{drop_more, get_or_default, set-get_or, set_at, set_split, length-take-le, take_more}
use Rattle.std.proofs.lemmas.List.Elements.{All-cons, All-nil}
use Rattle.std.proofs.lemmas.List.Edits.{get_or-remove_below, insert-append_right}
use Rattle.std.proofs.lemmas.Bool.Decides.{leb_tells}
use Rattle.std.proofs.lemmas.Nat.{pow_pos}
use Rattle.std.proofs.Math.Seq.{get_or_at, take_at}
use Rattle.sequence.specs.declared.tree.Child.{Child}
use Rattle.sequence.specs.declared.tree.search.Spot.{Spot}
use Rattle.sequence.specs.Nodes.{AreChildren, AreHalves, CanLose, Follows, IsChild, IsLabelled, IsList, StandFor}
use Rattle.sequence.specs.Nodes.{height_in, items_in}
use Rattle.sequence.specs.Spots.{Leads, past}
use Rattle.sequence.proofs.Nodes.Children.{items_append, leads_at, length-more, split_at}
use Rattle.sequence.proofs.Shapes.Halves.{child_is, children_drop, children_take, replaced}
use Rattle.sequence.proofs.Nodes.Labelled.{labelled_at, labelled_both, labelled_left}

module _ {X : Type 0} where
  -- a list around two items
  around_two : (xs : List X) (i : ℕ) (d e : X) → i + 1 < length xs
      → xs ≡ take i xs ++ get_or xs i d ∷ get_or xs (i + 1) e ∷ drop (i + 2) xs
  around_two xs i d e h =
      let next : i + 1 + 1 ≡ i + 2 = omega arith in
      split_at xs i d (omega arith)
      ∙ ap (λ (ys : List X). take i xs ++ get_or xs i d ∷ ys)
      (drop_more xs (i + 1) e h ∙ ap (λ (n : ℕ). get_or xs (i + 1) e ∷ drop n xs) next)

  -- one item in place of the two
  pub one_for_two : (xs : List X) (i : ℕ) (x : X) → i + 1 < length xs
      → set (remove xs (i + 1)) i x ≡ take i xs ++ x ∷ drop (i + 2) xs
  one_for_two xs i x h =
      let next : suc (i + 1) ≡ i + 2 = omega arith in
      ap (λ (ys : List X). set (ys ++ drop (suc (i + 1)) xs) i x) (take_more xs i x (omega arith))
      ∙ ap (λ (ys : List X). set ys i x) (append_assoc (take i xs) (get_or xs i x ∷ []) (drop (suc (i + 1)) xs))
      ∙ set_at (take i xs) (get_or xs i x) (drop (suc (i + 1)) xs) x i (length-take-le i xs (omega arith))
      ∙ ap (λ (n : ℕ). take i xs ++ x ∷ drop n xs) next

  -- another behind the item
  insert_behind : (xs ys : List X) (i : ℕ) (x y : X) → i ≤ length xs
      → insert (take i xs ++ x ∷ ys) (i + 1) y ≡ take i xs ++ x ∷ y ∷ ys
  insert_behind xs ys i x y h =
      let one : i + 1 - i ≡ 1 = omega arith in
      insert-append_right (take i xs) (x ∷ ys) i (i + 1) y (length-take-le i xs h) (omega arith)
      ∙ ap (λ (n : ℕ). take i xs ++ insert (x ∷ ys) n y) one

  -- an item that was taken out goes back
  pub back : (xs : List X) (i : ℕ) (d e x y : X) → i + 1 < length xs → x ≡ get_or xs i d → y ≡ get_or xs (i + 1) e
      → insert (set (remove xs (i + 1)) i x) (i + 1) y ≡ xs
  back xs i d e x y h is next =
      ap (λ (ys : List X). insert ys (i + 1) y) (one_for_two xs i x h)
      ∙ insert_behind xs (drop (i + 2) xs) i x y (omega arith)
      ∙ ap (λ (z : X). take i xs ++ z ∷ y ∷ drop (i + 2) xs) is
      ∙ ap (λ (z : X). take i xs ++ get_or xs i d ∷ z ∷ drop (i + 2) xs) next
      ∙ sym (around_two xs i d e h)

  -- the items of those places, of which the second was taken out
  pub record AreTaken (xs rest : List X) (i : ℕ) (d e : X) : Type 0 where
    pub left : rest ≡ remove xs (i + 1)
    pub first : d ≡ get_or xs i d
    pub second : e ≡ get_or xs (i + 1) e

  -- what a removal gave and an access read, after room was made
  pub taken : (xs room rest : List X) (i : ℕ) (d e : X) → i + 1 < length xs → room ≡ xs → rest ≡ remove room (i + 1)
      → d ≡ get_or rest i d → e ≡ get_or room (i + 1) e → AreTaken xs rest i d e
  taken xs room rest i d e h same gone first second =
      let is = gone ∙ ap (λ (ys : List X). remove ys (i + 1)) same in
      record {
        left = is;
        first = first ∙ ap (λ (ys : List X). get_or ys i d) is
            ∙ get_or-remove_below xs (i + 1) d i (omega arith) h;
        second = second ∙ ap (λ (ys : List X). get_or ys (i + 1) e) same;
      }

  -- an item that was read goes back
  pub written_back : (xs room : List X) (i : ℕ) (d new : X) → d ≡ get_or room i d → new ≡ d → room ≡ xs
      → set room i new ≡ xs
  written_back xs room i d new is kept same =
      ap (λ (x : X). set room i x) (kept ∙ is) ∙ set-get_or room i d ∙ same

  -- two items in place of one
  two_for_one : (xs : List X) (i : ℕ) (x y : X) → i < length xs
      → insert (set xs i x) (i + 1) y ≡ take i xs ++ x ∷ y ∷ drop (i + 1) xs
  two_for_one xs i x y h =
      ap (λ (ys : List X). insert ys (i + 1) y) (set_split xs i x h)
      ∙ insert_behind xs (drop (suc i) xs) i x y (omega (arith, h))
      ∙ ap (λ (n : ℕ). take i xs ++ x ∷ y ∷ drop n xs) (sym (add-one i))

module _ {T L : Type 0} (label_of : T → L) where
  -- what the first of two children asks for to take over the second
  pub record FitsBehind (d e : Child T L) : Type 0 where
    pub follows : Follows label_of d.tree e.tree e.label
    pub room : d.len + e.len < 2 ^ 64

  -- room that was made for a spot
  pub record IsRoom (old new : List (Child T L)) (spot there : Spot) : Type 0 where
    pub same : StandFor label_of old new
    pub leads : (place : ℕ) → Leads old place spot → Leads new place there
    pub spare : (d : Child T L) → CanLose (get_or new there.child d).tree

module _ {T L : Type 0} {label_of : T → L} where
  module _ (cs : List (Child T L)) (i : ℕ) (d e : Child T L) (are : AreChildren label_of cs) (h : i + 1 < length cs)
      (is : d ≡ get_or cs i d) (next : e ≡ get_or cs (i + 1) e) where
    -- two children side by side
    two_at : take 2 (drop i cs) ≡ d ∷ e ∷ []
    two_at =
        ap (take 2) (drop_more cs i d (omega (arith, h))
        ∙ ap (λ (ys : List (Child T L)). get_or cs i d ∷ ys) (drop_more cs (i + 1) e h))
        ∙ ap (λ (c : Child T L). c ∷ get_or cs (i + 1) e ∷ []) (sym is)
        ∙ ap (λ (c : Child T L). d ∷ c ∷ []) (sym next)

    -- are those of a node by themselves
    pub pair_are : AreChildren label_of (d ∷ e ∷ [])
    pair_are =
        subst (AreChildren label_of) two_at
        (children_take (drop i cs) 2 (children_drop cs i are (omega (arith, h))) (omega arith)
        (omega (arith, h, length-drop i cs)))

    module _ (j : Child T L) (child : IsChild (d.tree.1 + 1) j) (joined : j.tree.0 ≡ d.tree.0 ++ e.tree.0)
        (kept : j.label ≡ d.label) where
      both : length j.tree.0 ≡ length d.tree.0 + length e.tree.0
      both = omega (arith, ap (length {A = T}) joined, length-append d.tree.0 e.tree.0)

      before : length (take i cs) ≡ i
      before = length-take-le i cs (omega (arith, h))

      -- the node with the one child of both
      pub record IsJoined (new : List (Child T L)) : Type 0 where
        pub same : StandFor label_of cs new
        pub front : take i new ≡ take i cs
        pub first : (place k : ℕ) → Leads cs place (record { child = i; place = k })
            → Leads new place (record { child = i; place = k })
        pub second : (place k : ℕ) (x : Child T L) → Leads cs place (record { child = i + 1; place = k })
            → Leads new place (record { child = i; place = (get_or cs i x).len + k })
        pub spare : (x : Child T L) → CanLose (get_or new i x).tree

      joined_at : IsJoined (take i cs ++ j ∷ drop (i + 2) cs)
      joined_at =
          let P : Child T L → Type 0 = IsChild (height_in cs) in
          let level = ap (λ (c : Child T L). c.tree.1 + 1) is ∙ (are.each i d (omega (arith, h))).level in
          let one = subst P (sym is) (are.each i d (omega (arith, h))) in
          let two = subst P (sym next) (are.each (i + 1) e h) in
          let low : j.tree.1 ≡ d.tree.1 = omega (arith, child.level) in
          let spare : CanLose j.tree = subst (λ (n : ℕ). 2 ^ n < length j.tree.0) (sym low)
          (omega (arith, one.wide, two.wide, pow_pos e.tree.1, both)) in
          let Q : Child T L → Type 0 = IsLabelled label_of in
          let label = λ (p : 0 < i). labelled_both d e j joined kept (labelled_at cs i d are p (omega (arith, h)) is) in
          record {
            same = replaced cs (j ∷ []) i 2 are
                (All-cons P j [] (subst (λ (n : ℕ). IsChild n j) level child) (All-nil P)) (omega arith) (omega arith)
                (append-nil j.tree.0 ∙ joined ∙ ap (λ (es : List T). d.tree.0 ++ es) (sym (append-nil e.tree.0))
                ∙ ap (λ (cs : List (Child T L)). items_in cs) (sym two_at))
                (All-nil Q) (λ p. All-cons Q j [] (label p) (All-nil Q));
            front = take_at (take i cs) (j ∷ drop (i + 2) cs) i before;
            first = λ place k leads. leads_at (take i cs) (drop (i + 2) cs) j i place k before leads.is
                (omega (arith, both, leads.inside d, ap (λ (c : Child T L). length c.tree.0) is)) leads.inner;
            second = λ place k x leads.
                let len : (get_or cs i x).len ≡ length (get_or cs i x).tree.0 =
                (are.each i x (omega (arith, h))).counted in
                leads_at (take i cs) (drop (i + 2) cs) j i place ((get_or cs i x).len + k) before
                (omega (arith, leads.is, len, length-more cs i x (omega (arith, h))))
                (omega (
                  arith,
                  both,
                  len,
                  leads.inside e,
                  ap (λ (c : Child T L). length c.tree.0) next,
                  ap (λ (c : Child T L). length c.tree.0) is,
                  ap (λ (c : Child T L). length c.tree.0) (get_or_default cs i x d (omega (arith, h))),
                ))
                (λ some. omega (arith, leads.inner some));
            spare = λ x. subst (λ (c : Child T L). CanLose c.tree)
                (sym (get_or_at (take i cs) j (drop (i + 2) cs) x i before)) spare;
          }

      -- as a removal and a write leave it
      pub joined_is : IsJoined (set (remove cs (i + 1)) i j)
      joined_is = subst IsJoined (sym (one_for_two cs i j h)) joined_at

  pub fits_behind : (d e : Child T L) → AreChildren label_of (d ∷ e ∷ []) → FitsBehind label_of d e
  fits_behind d e are =
      let list = subst (λ (es : List T). IsList (d.tree.0 ++ es)) (append-nil e.tree.0) are.list in
      let one = are.each 0 d (omega arith) in
      let two = are.each 1 d (omega arith) in
      record {
        follows = record {
          list = list;
          level = omega (arith, one.level, two.level);
          first = (are.labels 0 d (omega arith)).first;
        };
        room = omega (arith, one.counted, two.counted, list.room, length-append d.tree.0 e.tree.0);
      }

  -- one child of both
  pub child_of_both : (c next new : Child T L) → AreChildren label_of (c ∷ next ∷ [])
      → new.len ≡ c.len + next.len
      → new.tree ≡ (c.tree.0 ++ next.tree.0, c.tree.1) → IsChild (c.tree.1 + 1) new
  child_of_both c next new are len is =
      let one = are.each 0 c (omega arith) in
      let two = are.each 1 c (omega arith) in
      let long = length-append c.tree.0 next.tree.0 in
      child_is (c.tree.0 ++ next.tree.0, c.tree.1) new is
      (omega (arith, len, one.counted, two.counted, long)) (omega (arith, one.wide, long))

  module _ (cs : List (Child T L)) (i : ℕ) (d l r : Child T L) (are : AreChildren label_of cs)
      (h : i < length cs) (is : d ≡ get_or cs i d) (child : IsChild (d.tree.1 + 1) l)
      (halves : AreHalves label_of d.tree l.tree r) (same : l.label ≡ d.label) where
    sums : length d.tree.0 ≡ length l.tree.0 + length r.tree.0
    sums = omega (arith, ap (length {A = T}) halves.items, length-append l.tree.0 r.tree.0)

    split_same : StandFor label_of cs (take i cs ++ l ∷ r ∷ drop (i + 1) cs)
    split_same =
        let P : Child T L → Type 0 = IsChild (height_in cs) in
        let level = ap (λ (c : Child T L). c.tree.1 + 1) is ∙ (are.each i d h).level in
        let each : All P (l ∷ r ∷ []) =
        All-cons P l (r ∷ []) (subst (λ (n : ℕ). IsChild n l) level child)
        (All-cons P r [] (subst (λ (n : ℕ). IsChild n r) level halves.child) (All-nil P)) in
        let Q : Child T L → Type 0 = IsLabelled label_of in
        let second = All-cons Q r [] halves.label (All-nil Q) in
        let label = λ (p : 0 < i). labelled_left d l r halves same (labelled_at cs i d are p h is) in
        replaced cs (l ∷ r ∷ []) i 1 are each (omega arith) (omega arith)
        (ap (λ (es : List T). l.tree.0 ++ es) (append-nil r.tree.0) ∙ halves.items
        ∙ sym (append-nil d.tree.0) ∙ ap (λ (c : Child T L). items_in (c ∷ [])) is
        ∙ ap (λ (xs : List (Child T L)). items_in (take 1 xs)) (sym (drop_more cs i d h)))
        second (λ p. All-cons Q l (r ∷ []) (label p) second)

    -- one of both has the place
    split_left : (k : ℕ) → CanLose l.tree → k ≤ length l.tree.0
        → IsRoom label_of cs (take i cs ++ l ∷ r ∷ drop (i + 1) cs) (record { child = i; place = k })
        (record { child = i; place = k })
    split_left k spare low =
        let before = length-take-le i cs (omega (arith, h)) in
        record {
          same = split_same;
          leads = λ place leads. leads_at (take i cs) (r ∷ drop (i + 1) cs) l i place k before leads.is low leads.inner;
          spare = λ x. subst (λ (c : Child T L). CanLose c.tree)
              (sym (get_or_at (take i cs) l (r ∷ drop (i + 1) cs) x i before)) spare;
        }

    split_right : (k : ℕ) → CanLose r.tree → length l.tree.0 < k
        → IsRoom label_of cs (take i cs ++ l ∷ r ∷ drop (i + 1) cs) (record { child = i; place = k })
        (record { child = i + 1; place = k - length l.tree.0 })
    split_right k spare high =
        let front = take i cs ++ l ∷ [] in
        let before : length front ≡ i + 1 =
        omega (arith, length-append (take i cs) (l ∷ []), length-take-le i cs (omega (arith, h))) in
        let shape : front ++ r ∷ drop (i + 1) cs ≡ take i cs ++ l ∷ r ∷ drop (i + 1) cs =
        append_assoc (take i cs) (l ∷ []) (r ∷ drop (i + 1) cs) in
        let many : length (items_in front) ≡ length (items_in (take i cs)) + length l.tree.0 =
        omega (
          arith,
          ap (length {A = T}) (items_append (take i cs) (l ∷ [])
              ∙ ap (λ (es : List T). items_in (take i cs) ++ es) (append-nil l.tree.0)),
          length-append (items_in (take i cs)) l.tree.0,
        ) in
        subst (λ (xs : List (Child T L)). IsRoom label_of cs xs (record { child = i; place = k })
        (record { child = i + 1; place = k - length l.tree.0 })) shape record {
          same = subst (λ (xs : List (Child T L)). StandFor label_of cs xs) (sym shape) split_same;
          leads = λ place leads.
              leads_at front (drop (i + 1) cs) r (i + 1) place (k - length l.tree.0) before
              (omega (arith, leads.is, many, high))
              (omega (arith, leads.inside d, sums, ap (λ (c : Child T L). length c.tree.0) is))
              (λ some. omega (arith, high));
          spare = λ x. subst (λ (c : Child T L). CanLose c.tree)
              (sym (get_or_at front r (drop (i + 1) cs) x (i + 1) before)) spare;
        }

    -- as a write and an insert leave it
    pub split_is : (k n : ℕ) → CanLose l.tree × CanLose r.tree → n ≡ length l.tree.0
        → IsRoom label_of cs (insert (set cs i l) (i + 1) r)
        (record { child = i; place = k }) (past n (record { child = i; place = k }))
    split_is k n spare len =
        let new = take i cs ++ l ∷ r ∷ drop (i + 1) cs in
        let spot : Spot = record { child = i; place = k } in
        let next = λ (m : ℕ). let there : Spot = record { child = i + 1; place = k - m } in there in
        let choice = λ (b : Bool). cond b spot (next n) in
        subst (λ (xs : List (Child T L)). IsRoom label_of cs xs spot (past n spot)) (sym (two_for_one cs i l r h))
        (elim (leb_tells k n) [
          | inl low ↦ subst (IsRoom label_of cs new spot) (sym (ap choice low.0))
              (split_left k spare.0 (omega (arith, low.1, len)))
          | inr high ↦ subst (IsRoom label_of cs new spot) (sym (ap choice high.0 ∙ ap next len))
              (split_right k spare.1 (omega (arith, high.1, len)))
        ])

    -- the node of both
    pub split_stands : StandFor label_of cs (insert (set cs i l) (i + 1) r)
    split_stands = subst (λ (xs : List (Child T L)). StandFor label_of cs xs) (sym (two_for_one cs i l r h)) split_same
