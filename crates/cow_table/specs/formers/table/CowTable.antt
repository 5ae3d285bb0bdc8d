-- `CowTable` as a type that may hold the type that holds it. Its value is the list of its items.
use Rattle.std.specs.Prelude.{ℕ, List, [], ◌∷◌, ◌++◌, map, length}
use mathlib.Core.Path.{◌≡◌, refl, sym, ap, ◌∙◌}
use mathlib.Core.Former.{Former, none_left, one_more, this, const, pair, list, via, children, list_count, list_put}
use mathlib.Core.HLevel.{×_prop}
use native.Mathlib.Bridge.{le_prop}
use native.Mathlib.Nat.{ℕ_set}
use lib.ListN.{length-map}
use base.Stored.{code_map}
use denote.RattleType.{RattleType}
use denote.HoleLaws.{Alike}
use denote.HolePlaces.{Recodes, struct_places, laid}
use denote.Hole.Carrier.{listed, list-listed}
use denote.Hole.Fix.{over}
use denote.Param.Weighed.{Weighed, w_list}
use denote.Model.Placed.{Held, held, view_places}
use Rattle.std.specs.contracts.alloc.Global as heap
use Rattle.std.specs.contracts.impls.GlobalAllocator.TheImpl.{ghosts}
use Rattle.std.specs.contracts.vec.Vec as vec_row
use Rattle.std.specs.declared.alloc.Global.{Global}
use Rattle.std.specs.declared.vec.Vec.{Vec}
use Rattle.std_alloc.specs.formers.vec.Vec as vecs
use Rattle.handles.specs.contracts.arc.Arc as arc_row
use Rattle.handles.specs.formers.arc.Arc as arc
use Rattle.cow_table.specs.Pages.{ArePages, IsPaged, items_of}
use Rattle.cow_table.specs.contracts.table.CowTable as C
use Rattle.cow_table.specs.contracts.table.CowTable.TheInside as I
use Rattle.cow_table.specs.declared.page_length.PageLength.{PageLength}
use Rattle.cow_table.specs.declared.table.CowTable.TheInside.{Inside}
use Rattle.cow_table.specs.declared.table.CowTable.TheView.{view, invariant}

abbrev pub the_former : Former {0} → Former {0}
the_former g = list g

abbrev pub the_weighed : {g : Former {0}} → Weighed g → Weighed (the_former g)
the_weighed w = w_list w

pub the_empty : List ⊥
the_empty = []

abbrev pub the_items : (X : Type 0) → List X → List X
the_items X d = d

pub the_items_listed : (X : Type 0) (d : List X) → listed _ (children (the_former this) X d) ≡ the_items X d
the_items_listed X d = list-listed X d

abbrev Page : Type 0 → Type 0
Page X = Vec X Global

abbrev page : Former {0} → Former {0}
page g = vecs.the_former g Global

abbrev fields : Former {0}
fields = via (pair (page (page this)) (const (ℕ × PageLength))) Inside (λ X a. (a.pages, (a.len, a.page_length)))
    (λ X v. record { pages = v.0; len = v.1.0; page_length = v.1.1 }) (λ X a. refl) (λ X v. refl)

-- ---- the items of the pages, one page after another, in the order of the fields
module _ (X : Type 0) where
  abbrev spread : List X → Held X → Held X
  spread xs p = (list_count this (map (this.shape X) xs) p.0, list_put this X xs p.0 p.1)

  appended : (xs ys : List X) (p : Held X) → spread (xs ++ ys) p ≡ spread xs (spread ys p)
  appended [] ys p = refl
  appended (x ∷ xs) ys p = ap {B = Held X} (λ (r : Held X). (one_more r.0, (x, r.1))) (appended xs ys p)

  abbrev nested : List (Page X) → Held X → Held X
  nested ds p = (list_count (page this) (map ((page this).shape X) ds) p.0, list_put (page this) X ds p.0 p.1)

  flattened : (ds : List (Page X)) (p : Held X) → spread (items_of ds) p ≡ nested ds p
  flattened [] p = refl
  flattened (d ∷ ds) p =
      appended d.items (items_of ds) p ∙ ap {B = Held X} (λ (r : Held X). spread d.items r) (flattened ds p)

  keeps : (u : Inside X) → held (list this) X (items_of u.pages.items) ≡ held fields X u
  keeps u = flattened u.pages.items (none_left, tt)

-- ---- the pages over other items
module _ (X Y : Type 0) (h : X → Y) where
  abbrev over_page : Page X → Page Y
  over_page = vecs.mapped h

  map_append : (xs ys : List X) → map h (xs ++ ys) ≡ map h xs ++ map h ys
  map_append [] ys = refl
  map_append (x ∷ xs) ys = ap (λ r. h x ∷ r) (map_append xs ys)

  natural : (ds : List (Page X)) → items_of (map over_page ds) ≡ map h (items_of ds)
  natural [] = refl
  natural (d ∷ ds) = ap (λ r. map h d.items ++ r) (natural ds) ∙ sym (map_append d.items (items_of ds))

  same_length : (ds : List (Page X)) → length (items_of (map over_page ds)) ≡ length (items_of ds)
  same_length ds = ap length (natural ds) ∙ length-map (items_of ds) h

  cut_over : (n : ℕ) (ds : List (Page X)) → IsPaged n ds → IsPaged n (map over_page ds)
  cut_over n [] cut = tt
  cut_over n (d ∷ []) cut = cut
  cut_over n (d ∷ e ∷ ds) cut = (cut.0, cut_over n (e ∷ ds) cut.1)

  cut_under : (n : ℕ) (ds : List (Page X)) → IsPaged n (map over_page ds) → IsPaged n ds
  cut_under n [] cut = tt
  cut_under n (d ∷ []) cut = cut
  cut_under n (d ∷ e ∷ ds) cut = (cut.0, cut_under n (e ∷ ds) cut.1)

  paged_over : (n len : ℕ) (ds : List (Page X)) → ArePages n len ds → ArePages n len (map over_page ds)
  paged_over n len ds are = record { count = are.count ∙ sym (same_length ds); cut = cut_over n ds are.cut }

  paged_under : (n len : ℕ) (ds : List (Page X)) → ArePages n len (map over_page ds) → ArePages n len ds
  paged_under n len ds are = record { count = are.count ∙ same_length ds; cut = cut_under n ds are.cut }

module _ {X : Type 0} (n len : ℕ) where
  IsPaged-prop : (ds : List (Page X)) → IsProp (IsPaged n ds)
  IsPaged-prop [] = λ p q. refl
  IsPaged-prop (d ∷ []) = ×_prop le_prop le_prop
  IsPaged-prop (d ∷ e ∷ ds) = ×_prop (ℕ_set _ _) (IsPaged-prop (e ∷ ds))

  ArePages-prop : (ds : List (Page X)) → IsProp (ArePages n len ds)
  ArePages-prop ds p q i = record { count = ℕ_set _ _ p.count q.count i; cut = IsPaged-prop ds p.cut q.cut i }

abbrev vector : RattleType → RattleType
vector R = vec_row.the_row R heap.the_row ghosts

abbrev shared : RattleType → RattleType
shared R = arc_row.the_row (vector R)

module _ (R S : RattleType) (h : R.Denot → S.Denot) where
  page_places : Alike R S h → Alike (shared R) (shared S) (vecs.mapped h)
  page_places a = arc.the_places (vector R) (vector S) (vecs.mapped h) (vecs.the_places heap.the_row ghosts R S h a)

module _ (R S : RattleType) (h : R.Denot → S.Denot) where
  pub the_places : Alike R S h → Alike (C.the_row R) (C.the_row S) ((the_former this).map R.Denot S.Denot h)
  the_places a = view_places fields (list this) view (λ X Y k u. natural X Y k u.pages.items) (λ X u. keeps X u)
      R.Denot S.Denot h (C.the_row R).coded (C.the_row S).coded
      (invariant R.Denot) (invariant S.Denot)
      (λ u. ArePages-prop u.page_length.items u.len u.pages.items)
      (λ u. ArePages-prop u.page_length.items u.len u.pages.items)
      (λ u. paged_over R.Denot S.Denot h u.page_length.items u.len u.pages.items)
      (λ u. paged_under R.Denot S.Denot h u.page_length.items u.len u.pages.items)
      (over (I.the_row R)) (over (I.the_row S))
      (struct_places (I.the_type R) (I.the_type S) (vecs.mapped (vecs.mapped h), ((λ n. n), ((λ l. l), tt))) _
      (λ d. refl) refl (
        laid _ _ _ (page_places (shared R) (shared S) (vecs.mapped h) (page_places R S h a)),
        ((refl, (λ n. refl, λ n. refl)), ((refl, (λ l. refl, λ l. refl)), tt)),
      ))

  pub the_codes_placed : Recodes R S h → Recodes (C.the_row R) (C.the_row S) ((the_former this).map R.Denot S.Denot h)
  the_codes_placed e d = sym (code_map R.coded.code S.coded.code h (λ x. sym (e x)) d)
