-- `Arc` in recursive types: a type may hold an `Arc` of itself.
use Rattle.std.specs.Prelude.{List, [], ◌∷◌}
use mathlib.Core.Bool.{Bool-set}
use mathlib.Core.Path.{◌≡◌, refl}
use mathlib.Core.Former.{Former, none_left, one_more, this, via, children}
use denote.RattleType.{RattleType}
use denote.HoleLaws.{Alike}
use denote.HolePlaces.{Recodes, struct_places, laid}
use denote.Hole.Carrier.{listed}
use denote.Hole.Fix.{over}
use denote.Param.Weighed.{Weighed}
use denote.Model.Placed.{view_places}
use Rattle.std.specs.declared.cmp.Ord as ord
use Rattle.std.specs.declared.cmp.PartialEq as eq
use Rattle.std.specs.declared.cmp.PartialOrd as partial
use Rattle.std.specs.declared.hash.Hash as hash
use Rattle.handles.specs.declared.arc.Arc.TheInside.{Inside}
use Rattle.handles.specs.declared.arc.Arc.TheView.{view, invariant}
use Rattle.handles.specs.contracts.arc.Arc as C
use Rattle.handles.specs.contracts.arc.Arc.TheInside as I
use Rattle.handles.specs.formers.block.handle.Handle as handle

abbrev pub the_former : Former {0} → Former {0}
the_former g = g

abbrev pub the_weighed : {g : Former {0}} → Weighed g → Weighed (the_former g)
the_weighed w = w

abbrev pub the_items : (X : Type 0) → X → List X
the_items X a = a ∷ []

pub the_items_listed : (X : Type 0) (a : X) → listed (one_more none_left) (children (the_former this) X a)
    ≡ the_items X a
the_items_listed X a = refl

abbrev fields : Former {0}
fields = via (handle.the_former this) Inside (λ X a. a.handle) (λ X h. record { handle = h }) (λ X a. refl)
    (λ X h. refl)

module _ (R S : RattleType) (h : R.Denot → S.Denot) where
  pub the_places : Alike R S h → Alike (C.the_row R) (C.the_row S) ((the_former this).map R.Denot S.Denot h)
  the_places a = view_places fields (the_former this) view (λ X Y k u. refl) (λ X u. refl) R.Denot S.Denot h
      (C.the_row R).coded (C.the_row S).coded
      (invariant R.Denot) (invariant S.Denot) (λ u. Bool-set _ _) (λ u. Bool-set _ _) (λ u e. e) (λ u e. e)
      (over (I.the_row R)) (over (I.the_row S))
      (struct_places (I.the_type R) (I.the_type S) ((λ d. handle.with_value d (h d.held.value)), tt) _ (λ d. refl)
      refl
      (laid _ _ _ (handle.the_places R S h a), tt))

  pub the_codes_placed : Recodes R S h → Recodes (C.the_row R) (C.the_row S) ((the_former this).map R.Denot S.Denot h)
  the_codes_placed e d = e d

-- What a handle has by its value goes along `h` with the value.
module _ (X Y : Type 0) (h : X → Y) where
  pub the_eq_natural : (V : eq.Ghosts Y) (a b : X) → V.eq (h a) (h b) ≡ V.eq (h a) (h b)
  the_eq_natural V a b = refl

  pub the_partial_cmp_natural : (V : partial.Ghosts Y) (V' : eq.Ghosts Y) (a b : X) → V.partial_cmp (h a) (h b)
      ≡ V.partial_cmp (h a) (h b)
  the_partial_cmp_natural V V' a b = refl

  pub the_cmp_natural : (V : ord.Ghosts Y) (V' : eq.Ghosts Y) (V'' : partial.Ghosts Y) (a b : X) → V.cmp (h a) (h b)
      ≡ V.cmp (h a) (h b)
  the_cmp_natural V V' V'' a b = refl

  pub the_hash_input_natural : (V : hash.Ghosts Y) (V' : eq.Ghosts Y) (a : X) → V.hash_input (h a)
      ≡ V.hash_input (h a)
  the_hash_input_natural V V' a = refl
