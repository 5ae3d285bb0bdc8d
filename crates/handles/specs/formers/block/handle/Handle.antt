-- `Handle` in recursive types: a type may hold a `Handle` of itself.
use Rattle.std.specs.Prelude.{Bool, ℕ, List}
use mathlib.Core.Path.{refl}
use mathlib.Core.Former.{Former, this, const, pair, via}
use base.Stored.{gnil}
use base.Fml.{ftrue}
use denote.RattleType.{RattleType}
use denote.Memory.{part_of}
use denote.RawPtr.{Ptr}
use denote.Sharing.{nothing}
use denote.HoleLaws.{Alike}
use denote.HolePlaces.{Recodes, one_value}
use denote.Param.Weighed.{Weighed}
use Rattle.counting_word.specs.Logs.{Entry}
use Rattle.handles.specs.Inside.Blocks.{BlockId}
use Rattle.handles.specs.declared.block.handle.Handle.{Handle}
use Rattle.handles.specs.declared.limit.Limit.{Limit}
use Rattle.handles.specs.contracts.block.handle.Handle as C

abbrev pub with_value : {X Y : Type 0} → Handle X → Y → Handle Y
with_value h y = record {
  block = h.block;
  held = record { limit = h.held.limit; value = y };
  sole = h.sole;
  id = h.id;
  number = h.number;
  log = h.log;
}

abbrev pub the_former : Former {0} → Former {0}
the_former g = via (pair (const (Ptr × Limit × Bool × BlockId × ℕ × List Entry)) g) (λ X. Handle (g.Of X))
    (λ X h. ((h.block, h.held.limit, h.sole, h.id, h.number, h.log), h.held.value))
    (λ X v. record {
      block = v.0.0;
      held = record { limit = v.0.1; value = v.1 };
      sole = v.0.2;
      id = v.0.3;
      number = v.0.4;
      log = v.0.5;
    })
    (λ X h. refl) (λ X v. refl)

abbrev pub the_weighed : {g : Former {0}} → Weighed g → Weighed (the_former g)
the_weighed w = record { weight = λ X μ h. w.weight X μ h.held.value; puts = λ X μ h. w.puts X μ h.held.value }

module _ (R S : RattleType) (h : R.Denot → S.Denot) where
  pub the_places : Alike R S h → Alike (C.the_row R) (C.the_row S) ((the_former this).map R.Denot S.Denot h)
  unfolding part_of
  the_places a = record {
    mir_same = refl;
    own_same = λ d i.
        (C.the_row (one_value R (a.mir_same i) (a.own_same d.held.value i) (a.shr_same d.held.value i) gnil)).own_val
        (with_value d tt);
    shr_same = λ d i.
        (C.the_row (one_value R (a.mir_same i) (a.own_same d.held.value i) (a.shr_same d.held.value i) gnil)).shr_at
        (with_value d tt);
  }

  pub the_codes_placed : Recodes R S h → Recodes (C.the_row R) (C.the_row S) ((the_former this).map R.Denot S.Denot h)
  the_codes_placed e d i = (C.the_row (one_value R R.mir (λ _. ftrue) (λ _ _. nothing) (e d.held.value i))).coded.code
      (with_value d tt)
