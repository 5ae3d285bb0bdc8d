-- `Marked` in recursive types: a type may hold a `Marked` of itself.
use mathlib.Core.Path.{refl}
use mathlib.Core.Former.{Former, this, const, pair, via}
use base.Stored.{gnil}
use base.Fml.{ftrue}
use denote.RattleType.{RattleType}
use denote.Memory.{part_of}
use denote.Sharing.{nothing}
use denote.HoleLaws.{Alike}
use denote.HolePlaces.{Recodes, one_value}
use denote.Param.Weighed.{Weighed}
use Rattle.handles.specs.Inside.Marked.{Staying}
use Rattle.handles.specs.declared.block.permit.Logged.{Logged}
use Rattle.handles.specs.declared.limit.Limit.{Limit}
use Rattle.handles.specs.contracts.block.marked.Marked as C

abbrev pub with_value : {X Y : Type 0} → Staying X → Y → Staying Y
with_value d y = record { held = record { limit = d.held.limit; value = y }; known_by = d.known_by }

abbrev pub the_former : Former {0} → Former {0}
the_former g = via (pair (const (Limit × Logged)) g) (λ X. Staying (g.Of X))
    (λ X d. ((d.held.limit, d.known_by), d.held.value))
    (λ X v. record { held = record { limit = v.0.0; value = v.1 }; known_by = v.0.1 }) (λ X d. refl) (λ X v. refl)

abbrev pub the_weighed : {g : Former {0}} → Weighed g → Weighed (the_former g)
the_weighed w = record { weight = λ X μ d. w.weight X μ d.held.value; puts = λ X μ d. w.puts X μ d.held.value }

module _ (R S : RattleType) (h : R.Denot → S.Denot) where
  pub the_places : Alike R S h → Alike (C.the_row R) (C.the_row S) ((the_former this).map R.Denot S.Denot h)
  unfolding part_of
  the_places a = record {
    mir_same = λ i. (C.the_row (one_value R (a.mir_same i) (λ _. ftrue) (λ _ _. nothing) gnil)).mir;
    own_same = λ d i.
        (C.the_row (one_value R (a.mir_same i) (a.own_same d.held.value i) (a.shr_same d.held.value i) gnil)).own_val
        (with_value d tt);
    shr_same = λ d i.
        (C.the_row (one_value R (a.mir_same i) (a.own_same d.held.value i) (a.shr_same d.held.value i) gnil)).shr_at
        (with_value d tt);
  }

  pub the_codes_placed : Recodes R S h → Recodes (C.the_row R) (C.the_row S) ((the_former this).map R.Denot S.Denot h)
  the_codes_placed e d i = (C.the_row (one_value R R.mir (λ _. ftrue) (λ _ _. nothing) (e d.held.value i))).coded.code
      (with_value d tt)
