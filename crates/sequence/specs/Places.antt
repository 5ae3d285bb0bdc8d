-- A `LabelledSequence` of items that go along h, with labels that h keeps, only places what its items own and share.
use Rattle.std.specs.Prelude.{ℕ, zero, suc, ◌+◌, ◌≤◌, ◌<◌, ◌^◌, ◌&&◌, cond, nat_eq, List, [], ◌∷◌, ◌++◌, map, length}
use Rattle.std.specs.Prelude.{drop, slice_index_or, Option, None, Some}
use Rattle.std.specs.List.{All, list_all}
use mathlib.Core.Path.{◌≡◌, refl, sym, ap, subst, ◌∙◌}
use native.Mathlib.Omega.{arith}
use mathlib.Core.Logic.{◌⊎◌, inl, inr}
use mathlib.Core.Former.{Former, none_left, one_more, this, const, pair, or, list, via, list_count, list_put}
use native.Mathlib.Nat.{ℕ_set}
use native.Mathlib.Bridge.{le_prop}
use Prim.Native.Nat.{max}
use lib.ListN.{length-map}
use base.Stored.{Coded-set}
use denote.RattleType.{RattleType}
use denote.HoleLaws.{Alike}
use denote.HolePlaces.{struct_places, enum_places, eachs, laid, Mapss}
use denote.Hole.Fix.{over}
use denote.Param.Weighed.{most}
use denote.Model.Placed.{Held, held, view_places}
use denote.Model.Local.{Parts, rows}
use denote.Model.Knot.{stage}
use Rattle.std.specs.declared.alloc.Global.{Global}
use Rattle.std.specs.contracts.alloc.Global as heap
use Rattle.std.specs.contracts.impls.GlobalAllocator.TheImpl.{ghosts}
use Rattle.std.specs.contracts.option.Option as option
use Rattle.std.specs.declared.vec.Vec.{Vec}
use Rattle.std.specs.contracts.vec.Vec as vec_row
use Rattle.std_alloc.specs.formers.vec.Vec as vecs
use Rattle.handles.specs.formers.arc.Arc as arc
use Rattle.sequence.specs.Nodes.{items_in, are_level, height_in, seen, items_under, first_label, IsChild, IsList}
use Rattle.sequence.specs.Nodes.{IsLabelled, IsNode}
use Rattle.sequence.specs.declared.label.Label as label
use Rattle.sequence.specs.declared.tree.Node.{Node}
use Rattle.sequence.specs.declared.tree.Node.TheVariants.{Leaf, Branch}
use Rattle.sequence.specs.declared.tree.Child.{Child}
use Rattle.sequence.specs.declared.tree.Tree.TheInside as within
use Rattle.sequence.specs.declared.tree.Tree.TheView as looks
use Rattle.sequence.specs.declared.tree.Tree.TheDeep.{member-Tree, split-Child, split-Tree}
use Rattle.sequence.specs.contracts.tree.Tree as tree
use Rattle.sequence.specs.contracts.tree.Tree.TheKnot as knot
use Rattle.sequence.specs.declared.labelled.LabelledSequence.TheInside as whole
use Rattle.sequence.specs.declared.labelled.LabelledSequence.TheView as shows
use Rattle.sequence.specs.contracts.labelled.LabelledSequence as sequence
use Rattle.sequence.specs.contracts.labelled.LabelledSequence.TheInside as inside

module _ (U : RattleType) where
  -- ---- the fields of one layer of the nodes
  abbrev Kid : Type 0 → Type 0
  Kid X = Child X U.Denot

  abbrev Nodes : Type 0 → Type 0
  Nodes X = Node X U.Denot

  abbrev Vecs : Type 0 → Type 0
  Vecs X = Vec X Global

  abbrev vec : Former {0} → Former {0}
  vec g = vecs.the_former g Global

  -- the items and the height of a tree
  abbrev sight : Former {0}
  sight = pair (list this) (const ℕ)

  abbrev kid : Former {0}
  kid = via (pair (const (U.Denot × ℕ)) sight) Kid (λ X c. ((c.label, c.len), c.tree))
      (λ X v. record { label = v.0.0; len = v.0.1; tree = v.1 }) (λ X c. refl) (λ X v. refl)

  module _ {X : Type 0} where
    abbrev split : Nodes X → Vecs X ⊎ Vecs (Kid X)
    split (Leaf v) = inl v
    split (Branch v) = inr v

    abbrev join : Vecs X ⊎ Vecs (Kid X) → Nodes X
    join (inl v) = Leaf v
    join (inr v) = Branch v

    join-split : (n : Nodes X) → join (split n) ≡ n
    join-split (Leaf v) = refl
    join-split (Branch v) = refl

    split-join : (v : Vecs X ⊎ Vecs (Kid X)) → split (join v) ≡ v
    split-join (inl v) = refl
    split-join (inr v) = refl

  abbrev nodes : Former {0}
  nodes = via (or (vec this) (vec kid)) Nodes (λ X. split) (λ X. join) (λ X. join-split) (λ X. split-join)

  abbrev layer : Former {0}
  layer = via nodes (λ X. within.Inside X U.Denot) (λ X a. a.root) (λ X v. record { root = v }) (λ X a. refl) (λ X v.
      refl)

  -- ---- the items of the children, one after another, in the order of the fields
  module _ (X : Type 0) where
    abbrev spread : List X → Held X → Held X
    spread xs p = (list_count this (map ((this).shape X) xs) p.0, list_put this X xs p.0 p.1)

    appended : (xs ys : List X) (p : Held X) → spread (xs ++ ys) p ≡ spread xs (spread ys p)
    appended [] ys p = refl
    appended (x ∷ xs) ys p = ap {B = Held X} (λ (r : Held X). (one_more r.0, (x, r.1))) (appended xs ys p)

    abbrev nested : List (Kid X) → Held X → Held X
    nested cs p = (list_count kid (map ((kid).shape X) cs) p.0, list_put kid X cs p.0 p.1)

    flattened : (cs : List (Kid X)) (p : Held X) → spread (items_in cs) p ≡ nested cs p
    flattened [] p = refl
    flattened (c ∷ cs) p = appended c.tree.0 (items_in cs) p ∙ ap {B = Held X} (λ (r : Held X). spread c.tree.0 r)
        (flattened cs p)

    keeps : (n : Nodes X) → held sight X (seen n) ≡ held layer X (record { root = n })
    keeps (Leaf v) = refl
    keeps (Branch v) = flattened v.items (none_left, tt)

  -- ---- what holds of a node is a proposition
  module _ (X : Type 0) (lab : X → U.Denot) where
    list_prop : (es : List X) → IsProp (IsList es)
    list_prop es p q i = record { some = le_prop p.some q.some i; room = le_prop p.room q.room i }

    child_prop : (height : ℕ) (c : Kid X) → IsProp (IsChild height c)
    child_prop height c p q i = record {
      counted = ℕ_set _ _ p.counted q.counted i;
      level = ℕ_set _ _ p.level q.level
          i;
      wide = le_prop p.wide q.wide i;
    }

    label_prop : (c : Kid X) → IsProp (IsLabelled lab c)
    label_prop c p q i = record { first = Coded-set (option.the_row U).coded _ _ p.first q.first i }

    node_prop : (n : Nodes X) → IsProp (IsNode lab n)
    node_prop (Leaf v) = list_prop v.items
    node_prop (Branch v) = λ p q i. record {
      list = list_prop _ p.list q.list i;
      each = λ k d lt. child_prop _ _ (p.each k d lt) (q.each k d lt) i;
      labels = λ k d lt. label_prop _ (p.labels k d lt) (q.labels k d lt) i;
    }

  module _ (X Y : Type 0) (h : X → Y) where
    abbrev sight_over : List X × ℕ → List Y × ℕ
    sight_over t = (map h t.0, t.1)

    abbrev kid_over : Kid X → Kid Y
    kid_over c = record { label = c.label; len = c.len; tree = sight_over c.tree }

    abbrev node_over : Nodes X → Nodes Y
    node_over n = (nodes).map X Y h n

    map_append : (xs ys : List X) → map h (xs ++ ys) ≡ map h xs ++ map h ys
    map_append [] ys = refl
    map_append (x ∷ xs) ys = ap (λ r. h x ∷ r) (map_append xs ys)

    items_same : (cs : List (Kid X)) → items_in (map kid_over cs) ≡ map h (items_in cs)
    items_same [] = refl
    items_same (c ∷ cs) = ap (λ r. map h c.tree.0 ++ r) (items_same cs) ∙ sym (map_append c.tree.0 (items_in cs))

    most_same : (cs : List (Kid X)) → most (λ (c : Kid Y). c.tree.1 + 1) (map kid_over cs) ≡ most (λ (c : Kid X).
        c.tree.1 + 1) cs
    most_same [] = refl
    most_same (c ∷ cs) = ap (max (c.tree.1 + 1)) (most_same cs)

    all_same : (n : ℕ) (cs : List (Kid X)) → list_all (λ (d : Kid Y). nat_eq d.tree.1 n) (map kid_over cs) ≡ list_all
        (λ (d : Kid X). nat_eq d.tree.1 n) cs
    all_same n [] = refl
    all_same n (c ∷ cs) = ap (λ b. nat_eq c.tree.1 n && b) (all_same n cs)

    level_same : (cs : List (Kid X)) → are_level (map kid_over cs) ≡ are_level cs
    level_same [] = refl
    level_same (c ∷ cs) = all_same c.tree.1 cs

    height_same : (cs : List (Kid X)) → height_in (map kid_over cs) ≡ height_in cs
    height_same cs i = most_same cs i + cond (level_same cs i) 0 (2 ^ 64)

    natural : (n : Nodes X) → seen (node_over n) ≡ sight_over (seen n)
    natural (Leaf v) = refl
    natural (Branch v) = λ i. (items_same v.items i, height_same v.items i)

    -- ---- what holds of a node goes along h, both ways

    list_to : (es : List X) → IsList es → IsList (map h es)
    list_to es p = record {
      some = subst (λ n. 0 < n) (sym (length-map es h)) p.some;
      room = subst (λ n. n < 2 ^ 64)
          (sym (length-map es h)) p.room;
    }

    list_from : (es : List X) → IsList (map h es) → IsList es
    list_from es p = record {
      some = subst (λ n. 0 < n) (length-map es h) p.some;
      room = subst (λ n. n < 2 ^ 64)
          (length-map es h) p.room;
    }

    child_to : (m n : ℕ) → n ≡ m → (c : Kid X) → IsChild m c → IsChild n (kid_over c)
    child_to m n e c p = record {
      counted = p.counted ∙ sym (length-map c.tree.0 h);
      level = p.level ∙ sym e;
      wide = subst (λ k. 2 ^ c.tree.1 ≤ k) (sym (length-map c.tree.0 h)) p.wide;
    }

    child_from : (m n : ℕ) → n ≡ m → (c : Kid X) → IsChild n (kid_over c) → IsChild m c
    child_from m n e c p = record {
      counted = p.counted ∙ length-map c.tree.0 h;
      level = p.level ∙ e;
      wide = subst (λ k. 2 ^ c.tree.1 ≤ k) (length-map c.tree.0 h) p.wide;
    }

    at_map : (cs : List (Kid X)) (k : ℕ) (d : Kid X) → slice_index_or (map kid_over cs) k (kid_over d) ≡ kid_over
        (slice_index_or cs k d)
    at_map [] k d = refl
    at_map (c ∷ cs) zero d = refl
    at_map (c ∷ cs) (suc k) d = at_map cs k d

    drop_map : (cs : List (Kid X)) → drop 1 (map kid_over cs) ≡ map kid_over (drop 1 cs)
    drop_map [] = refl
    drop_map (c ∷ cs) = refl

    all_from : (P : Kid Y → Type 0) (cs : List (Kid X)) → All P (map kid_over cs) → All (λ c. P (kid_over c)) cs
    all_from P cs p k d lt = subst P (at_map cs k d) (p k (kid_over d) (subst (λ n. k < n) (sym (length-map cs
        kid_over)) lt))

    all_to : (P : Kid Y → Type 0) (cs : List (Kid X)) → All (λ c. P (kid_over c)) cs → All P (map kid_over cs)
    all_to P [] p k d lt = absurd (omega (arith, lt))
    all_to P (c ∷ cs) p zero d lt = p 0 c (omega arith)
    all_to P (c ∷ cs) p (suc k) d lt = all_to P cs (λ j e le. p (suc j) e (omega (arith, le))) k d (omega (arith, lt))

  module _ (X Y : Type 0) (h : X → Y) (lX : X → U.Denot) (lY : Y → U.Denot) (nat : (x : X) → lY (h x) ≡ lX x) where
    abbrev kids : Kid X → Kid Y
    kids = kid_over X Y h

    label_same : (es : List X) → first_label lY (map h es) ≡ first_label lX es
    label_same [] = refl
    label_same (e ∷ es) = ap Some (nat e)

    node_to : (n : Nodes X) → IsNode lX n → IsNode lY (node_over X Y h n)
    node_to (Leaf v) p = list_to X Y h v.items p
    node_to (Branch v) p = record {
      list = subst IsList (sym (items_same X Y h v.items)) (list_to X Y h _ p.list);
      each = all_to X Y h (IsChild (height_in (map kids v.items))) v.items (λ k d lt. child_to X Y h _ _ (height_same
          X Y h v.items) _ (p.each k d lt));
      labels = subst (All (IsLabelled lY)) (sym (drop_map X Y h v.items)) (all_to X Y h (IsLabelled lY) (drop 1 v.items)
          (λ k d lt. record {
            first = label_same (slice_index_or (drop 1 v.items) k d).tree.0 ∙ (p.labels k d
                lt).first;
          }));
    }

    node_from : (n : Nodes X) → IsNode lY (node_over X Y h n) → IsNode lX n
    node_from (Leaf v) p = list_from X Y h v.items p
    node_from (Branch v) p = record {
      list = list_from X Y h _ (subst IsList (items_same X Y h v.items) p.list);
      each = λ k d lt. child_from X Y h _ _ (height_same X Y h v.items) _ (all_from X Y h (IsChild (height_in (map
          kids v.items))) v.items p.each k d lt);
      labels = λ k d lt. record {
        first = sym (label_same (slice_index_or (drop 1 v.items) k d).tree.0)
            ∙ (all_from X Y h (IsLabelled lY) (drop 1 v.items) (subst (All (IsLabelled lY)) (drop_map X Y h v.items)
            p.labels) k d lt).first;
      };
    }

  abbrev of_vec : RattleType → RattleType
  of_vec R = vec_row.the_row R heap.the_row ghosts

  module _ (R S : RattleType) (h : R.Denot → S.Denot) (gR : label.Ghosts U.Denot R.Denot) (gS : label.Ghosts U.Denot
      S.Denot) (nat : (x : R.Denot) → gS.label_of (h x) ≡ gR.label_of x) where
    abbrev over_sight : List R.Denot × ℕ → List S.Denot × ℕ
    over_sight = sight_over R.Denot S.Denot h

    abbrev over_kid : Kid R.Denot → Kid S.Denot
    over_kid = kid_over R.Denot S.Denot h

    abbrev over_node : Nodes R.Denot → Nodes S.Denot
    over_node = node_over R.Denot S.Denot h

    abbrev PartsR : Type 1
    PartsR = Parts (knot.frame R U gR)

    abbrev PartsS : Type 1
    PartsS = Parts (knot.frame S U gS)

    abbrev rest_row : PartsR → RattleType
    rest_row p = rows (knot.frame R U gR) p member-Tree

    abbrev rest_row' : PartsS → RattleType
    rest_row' q = rows (knot.frame S U gS) q member-Tree

    abbrev at_kid : PartsR → RattleType
    at_kid p = knot.at-Child R U gR p

    abbrev at_kid' : PartsS → RattleType
    at_kid' q = knot.at-Child S U gS q

    abbrev at_node : PartsR → RattleType
    at_node p = knot.at-Node R U gR p

    abbrev at_node' : PartsS → RattleType
    at_node' q = knot.at-Node S U gS q

    module _ (p : PartsR) (q : PartsS) (a : Alike R S h) (e : (y : List R.Denot × ℕ) → q member-Tree (over_sight y) ≡
        p member-Tree y) where
      rest_places : Alike (rest_row p) (rest_row' q) over_sight
      rest_places = record { mir_same = refl; own_same = λ y i. (e y i).0; shr_same = λ y i. (e y i).1 }

      kid_places : Alike (at_kid p) (at_kid' q) over_kid
      kid_places =
          let s = struct_places (knot.type-Child R U gR (rest_row p)) (knot.type-Child S U gS (rest_row' q))
          ((λ l. l), ((λ n. n), (over_sight, tt)))
          (λ v. (v.0, (v.1.0, (over_sight v.1.1.0, tt)))) (λ d. refl) refl
          ((refl, (λ n. refl, λ n. refl)), ((refl, (λ n. refl, λ n. refl)), (laid _ _ _ rest_places, tt))) in
          record {
            mir_same = s.mir_same;
            own_same = λ d. s.own_same (split-Child R.Denot U.Denot gR d);
            shr_same = λ d. s.shr_same (split-Child R.Denot U.Denot gR d);
          }

      leaf_places : Alike (of_vec R) (of_vec S) (vecs.mapped h)
      leaf_places = vecs.the_places heap.the_row ghosts R S h a

      branch_places : Alike (of_vec (at_kid p)) (of_vec (at_kid' q)) (vecs.mapped over_kid)
      branch_places = vecs.the_places heap.the_row ghosts (at_kid p) (at_kid' q) over_kid kid_places

      abbrev both : Mapss (knot.type-Node R U gR (at_kid p)).parts (knot.type-Node S U gS (at_kid' q)).parts
      both = ((vecs.mapped h, tt), ((vecs.mapped over_kid, tt), tt))

      apart : Alike (knot.layer-Node R U gR (at_kid p)) (knot.layer-Node S U gS (at_kid' q))
          (eachs (knot.type-Node R U gR (at_kid p)).parts (knot.type-Node S U gS (at_kid' q)).parts both)
      apart = enum_places (knot.type-Node R U gR (at_kid p)) (knot.type-Node S U gS (at_kid' q)) both
          (eachs (knot.type-Node R U gR (at_kid p)).parts (knot.type-Node S U gS (at_kid' q)).parts both)
          (λ d. refl) refl ((laid _ _ _ leaf_places, tt), ((laid _ _ _ branch_places, tt), tt))

      node_owns : (d : Nodes R.Denot) → (at_node' q).own_val (over_node d) ≡ (at_node p).own_val d
      node_owns (Leaf v) = apart.own_same (inl (v, tt))
      node_owns (Branch v) = apart.own_same (inr (inl (v, tt)))

      node_lends : (d : Nodes R.Denot) → (at_node' q).shr_at (over_node d) ≡ (at_node p).shr_at d
      node_lends (Leaf v) = apart.shr_same (inl (v, tt))
      node_lends (Branch v) = apart.shr_same (inr (inl (v, tt)))

      node_places : Alike (at_node p) (at_node' q) over_node
      node_places = record { mir_same = apart.mir_same; own_same = node_owns; shr_same = node_lends }

      layer_places : Alike (knot.at-Tree R U gR p) (knot.at-Tree S U gS q) ((layer).map R.Denot S.Denot h)
      layer_places =
          let s = struct_places (knot.type-Tree R U gR (at_node p)) (knot.type-Tree S U gS (at_node' q)) (over_node, tt)
          (λ v. (over_node v.0, tt)) (λ d. refl) refl (
            laid _ _ _ (arc.the_places (at_node p) (at_node' q) over_node
                node_places),
            tt,
          ) in
          record {
            mir_same = s.mir_same;
            own_same = λ d. s.own_same (split-Tree R.Denot U.Denot gR d);
            shr_same = λ d. s.shr_same (split-Tree R.Denot U.Denot gR d);
          }

      seen_places : Alike (knot.view-Tree R U gR p) (knot.view-Tree S U gS q) over_sight
      seen_places = view_places layer sight (λ X u. seen u.root) (λ X Y k u. natural X Y k u.root) (λ X u. keeps X
          u.root)
          R.Denot S.Denot h (knot.view-Tree R U gR p).coded (knot.view-Tree S U gS q).coded
          (looks.invariant R.Denot U.Denot gR) (looks.invariant S.Denot U.Denot gS)
          (λ u. node_prop R.Denot gR.label_of u.root) (λ u. node_prop S.Denot gS.label_of u.root)
          (λ u. node_to R.Denot S.Denot h gR.label_of gS.label_of nat u.root) (λ u. node_from R.Denot S.Denot h
          gR.label_of gS.label_of nat u.root)
          (over (knot.at-Tree R U gR p)) (over (knot.at-Tree S U gS q)) layer_places

      step_same : (y : List R.Denot × ℕ) → knot.step S U gS q member-Tree (over_sight y) ≡ knot.step R U gR p
          member-Tree y
      step_same y i = (seen_places.own_same y i, seen_places.shr_same y i)

    abbrev stage_R : ℕ → PartsR
    stage_R n = stage (knot.frame R U gR) (knot.step R U gR) n

    abbrev stage_S : ℕ → PartsS
    stage_S n = stage (knot.frame S U gS) (knot.step S U gS) n

    module _ (a : Alike R S h) where
      stages : (n : ℕ) (y : List R.Denot × ℕ) → stage_S n member-Tree (over_sight y) ≡ stage_R n member-Tree y
      stages zero y = refl
      stages (suc n) y = step_same (stage_R n) (stage_S n) a (stages n) y

      tied_same : (y : List R.Denot × ℕ) → knot.tied S U gS member-Tree (over_sight y) ≡ knot.tied R U gR member-Tree y
      tied_same y = stages (y.1 + 1) y

      tree_places : Alike (tree.the_row R U gR) (tree.the_row S U gS) over_sight
      tree_places = record { mir_same = refl; own_same = λ y i. (tied_same y i).0; shr_same = λ y i. (tied_same y i).1 }

  -- ---- the list: its tree, if it has items, and their number
  module _ {X : Type 0} where
    abbrev split_root : Option (List X × ℕ) → Unit {0} ⊎ (List X × ℕ)
    split_root None = inl tt
    split_root (Some t) = inr t

    abbrev join_root : Unit {0} ⊎ (List X × ℕ) → Option (List X × ℕ)
    join_root (inl u) = None
    join_root (inr t) = Some t

    root_join-split : (o : Option (List X × ℕ)) → join_root (split_root o) ≡ o
    root_join-split None = refl
    root_join-split (Some t) = refl

    root_split-join : (v : Unit {0} ⊎ (List X × ℕ)) → split_root (join_root v) ≡ v
    root_split-join (inl u) = refl
    root_split-join (inr t) = refl

  abbrev root : Former {0}
  root = via (or (const (Unit {0})) sight) (λ X. Option (List X × ℕ)) (λ X. split_root) (λ X. join_root) (λ X.
      root_join-split)
      (λ X. root_split-join)

  abbrev fields : Former {0}
  fields = via (pair root (const ℕ)) (λ X. whole.Inside X U.Denot) (λ X a. (a.root, a.len)) (λ X v. record {
    root =
        v.0;
    len = v.1;
  })
      (λ X a. refl) (λ X v. refl)

  root_keeps : (X : Type 0) (o : Option (List X × ℕ)) (n : ℕ) → held (list this) X (items_under o) ≡ held fields X
      (record { root = o; len = n })
  root_keeps X None n = refl
  root_keeps X (Some t) n = refl

  module _ (X Y : Type 0) (h : X → Y) where
    abbrev root_over : Option (List X × ℕ) → Option (List Y × ℕ)
    root_over o = (root).map X Y h o

    root_natural : (o : Option (List X × ℕ)) → items_under (root_over o) ≡ map h (items_under o)
    root_natural None = refl
    root_natural (Some t) = refl

    root_length : (o : Option (List X × ℕ)) → length (items_under (root_over o)) ≡ length (items_under o)
    root_length o = ap length (root_natural o) ∙ length-map (items_under o) h

  module _ (R S : RattleType) (h : R.Denot → S.Denot) (gR : label.Ghosts U.Denot R.Denot) (gS : label.Ghosts U.Denot
      S.Denot) (nat : (x : R.Denot) → gS.label_of (h x) ≡ gR.label_of x) where
    abbrev tree_R : RattleType
    tree_R = tree.the_row R U gR

    abbrev tree_S : RattleType
    tree_S = tree.the_row S U gS

    variant : (o : Option (List R.Denot × ℕ)) → (option.enum tree_S).as_values (root_over R.Denot S.Denot h o)
        ≡ eachs (option.enum tree_R).parts (option.enum tree_S).parts (tt, ((sight_over R.Denot S.Denot h, tt), tt))
        ((option.enum tree_R).as_values o)
    variant None = refl
    variant (Some t) = refl

    module _ (a : Alike R S h) where
      root_places : Alike (option.the_row tree_R) (option.the_row tree_S) (root_over R.Denot S.Denot h)
      root_places = enum_places (option.enum tree_R) (option.enum tree_S) (tt, ((sight_over R.Denot S.Denot h, tt), tt))
          (root_over R.Denot S.Denot h) variant refl (tt, ((laid _ _ _ (tree_places R S h gR gS nat a), tt), tt))

      pub list_places : Alike (sequence.the_row R U gR) (sequence.the_row S U gS) (map h)
      list_places = view_places fields (list this) (λ X u. items_under u.root) (λ X Y k u. root_natural X Y k u.root)
          (λ X u. root_keeps X u.root u.len)
          R.Denot S.Denot h (sequence.the_row R U gR).coded (sequence.the_row S U gS).coded
          (shows.invariant R.Denot U.Denot gR) (shows.invariant S.Denot U.Denot gS)
          (λ u. ℕ_set _ _) (λ u. ℕ_set _ _)
          (λ u e. e ∙ sym (root_length R.Denot S.Denot h u.root)) (λ u e. e ∙ root_length R.Denot S.Denot h u.root)
          (over (inside.the_row R U gR)) (over (inside.the_row S U gS))
          (struct_places (inside.the_type R U gR) (inside.the_type S U gS) (
            root_over R.Denot S.Denot h,
            (
              (λ n. n),
              tt,
            ),
          ) _ (λ d. refl)
          refl (laid _ _ _ root_places, ((refl, (λ n. refl, λ n. refl)), tt)))
