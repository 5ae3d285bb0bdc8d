-- `UniqueArc` in recursive types: a type may hold a `UniqueArc` of itself.
use Rattle.std.specs.Prelude.{ℕ, List, [], ◌∷◌}
use mathlib.Core.Path.{◌≡◌, refl}
use mathlib.Core.Former.{Former, none_left, one_more, this, const, pair, via, children}
use native.Mathlib.Nat.{ℕ_set}
use base.Stored.{gnil}
use denote.RattleType.{RattleType}
use denote.Memory.{part_of}
use denote.RawPtr.{Ptr}
use denote.HoleLaws.{Alike}
use denote.HolePlaces.{Recodes, struct_places, laid, stays, one_value}
use denote.Hole.Carrier.{listed}
use denote.Hole.Fix.{over}
use denote.Param.Weighed.{Weighed}
use denote.Model.Placed.{view_places}
use Rattle.std.specs.declared.boxed.Box.{Box}
use Rattle.std.specs.contracts.boxed.Box as box
use Rattle.std.specs.declared.alloc.Global.{Global}
use Rattle.std.specs.declared.cmp.PartialEq as eq
use Rattle.std.specs.contracts.alloc.Global as heap
use Rattle.std.specs.contracts.impls.GlobalAllocator.TheImpl.{ghosts}
use Rattle.handles.specs.declared.block.Block.{Block}
use Rattle.handles.specs.declared.block.Held.{Held}
use Rattle.handles.specs.declared.limit.Limit.{Limit}
use Rattle.handles.specs.declared.unique.UniqueArc.TheInside.{Inside}
use Rattle.handles.specs.declared.unique.UniqueArc.TheView.{view, invariant}
use Rattle.handles.specs.contracts.block.Block as block
use Rattle.handles.specs.contracts.block.Held as held
use Rattle.handles.specs.contracts.limit.Limit as limit
use Rattle.handles.specs.contracts.unique.UniqueArc as C
use Rattle.handles.specs.contracts.unique.UniqueArc.TheInside as I

abbrev pub the_former : Former {0} → Former {0}
the_former g = g

abbrev pub the_weighed : {g : Former {0}} → Weighed g → Weighed (the_former g)
the_weighed w = w

abbrev pub the_items : (X : Type 0) → X → List X
the_items X u = u ∷ []

pub the_items_listed : (X : Type 0) (u : X) → listed (one_more none_left) (children (the_former this) X u)
    ≡ the_items X u
the_items_listed X u = refl

-- what a box of a block has beside the value
abbrev Rest : Type 0
Rest = Ptr × Global × ℕ × ℕ × Limit × Global

abbrev in_held : {X Y : Type 0} → Held X → Y → Held Y
in_held d y = record { limit = d.limit; value = y }

abbrev in_block : {X Y : Type 0} → Block X → Y → Block Y
in_block b y = record { word = b.word; stamp = b.stamp; held = in_held b.held y; alloc = b.alloc }

abbrev in_box : {X Y : Type 0} → Box X Global → Y → Box Y Global
in_box b y = record { ptr = b.ptr; alloc = b.alloc; value = y }

abbrev fields : Former {0}
fields = via (pair (const Rest) this) Inside
    (λ X a. let b : Block X = a.block.value in
    ((a.block.ptr, a.block.alloc, b.word, b.stamp, b.held.limit, b.alloc), b.held.value))
    (λ X v. let held : Held X = record { limit = v.0.4; value = v.1 } in
    let block : Block X = record { word = v.0.2; stamp = v.0.3; held = held; alloc = v.0.5 } in
    record { block = record { ptr = v.0.0; alloc = v.0.1; value = block } })
    (λ X a. refl) (λ X v. refl)

abbrev box_of : RattleType → RattleType
box_of R = box.the_row R heap.the_row ghosts

module _ (R S : RattleType) (h : R.Denot → S.Denot) where
  box_places : Alike R S h → Alike (box_of R) (box_of S) (λ b. in_box b (h b.value))
  unfolding part_of
  box_places a = record {
    mir_same = refl;
    own_same = λ b i. (box_of (one_value R (a.mir_same i) (a.own_same b.value i) (a.shr_same b.value i) gnil)).own_val
        (in_box b tt);
    shr_same = λ b i. (box_of (one_value R (a.mir_same i) (a.own_same b.value i) (a.shr_same b.value i) gnil)).shr_at
        (in_box b tt);
  }

module _ (R S : RattleType) (h : R.Denot → S.Denot) where
  held_places : Alike R S h → Alike (held.the_row R) (held.the_row S) (λ d. in_held d (h d.value))
  held_places a = struct_places (held.the_type R) (held.the_type S) ((λ n. n), (h, tt)) _ (λ d. refl) refl
      (stays limit.the_row, (laid _ _ _ a, tt))

  block_places : Alike R S h → Alike (block.the_row R) (block.the_row S) (λ b. in_block b (h b.held.value))
  block_places a = struct_places (block.the_type R) (block.the_type S)
      ((λ n. n), ((λ n. n), ((λ d. in_held d (h d.value)), ((λ g. g), tt)))) _ (λ b. refl) refl (
        (refl, (λ n. refl, λ n. refl)),
        (
          (refl, (λ n. refl, λ n. refl)),
          (laid _ _ _ (held_places a), (stays heap.the_row, tt)),
        ),
      )

  pub the_places : Alike R S h → Alike (C.the_row R) (C.the_row S) ((the_former this).map R.Denot S.Denot h)
  the_places a = view_places fields (the_former this) view (λ X Y k u. refl) (λ X u. refl) R.Denot S.Denot h
      (C.the_row R).coded (C.the_row S).coded
      (invariant R.Denot) (invariant S.Denot) (λ u. ℕ_set _ _) (λ u. ℕ_set _ _) (λ u e. e) (λ u e. e)
      (over (I.the_row R)) (over (I.the_row S))
      (struct_places (I.the_type R) (I.the_type S) ((λ b. in_box b (in_block b.value (h b.value.held.value))), tt) _
      (λ d. refl) refl (
        laid _ _ _ (box_places (block.the_row R) (block.the_row S) (λ b. in_block b (h b.held.value))
            (block_places a)),
        tt,
      ))

  pub the_codes_placed : Recodes R S h → Recodes (C.the_row R) (C.the_row S) ((the_former this).map R.Denot S.Denot h)
  the_codes_placed e d = e d

module _ (X Y : Type 0) (h : X → Y) where
  pub the_eq_natural : (V : eq.Ghosts Y) (a b : X) → V.eq (h a) (h b) ≡ V.eq (h a) (h b)
  the_eq_natural V a b = refl
