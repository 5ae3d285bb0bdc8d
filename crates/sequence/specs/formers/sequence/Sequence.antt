-- `Sequence` as a type that may hold the type that holds it. Its value is the list of its items.
use Rattle.std.specs.Prelude.{List, []}
use mathlib.Core.Path.{◌≡◌, refl, sym}
use mathlib.Core.Former.{Former, this, list, children}
use base.Stored.{code_map}
use base.Fml.{fsep, fex, ftrue}
use denote.Laws.{Typed}
use denote.RattleType.{RattleType}
use denote.HoleLaws.{Alike}
use denote.HolePlaces.{Recodes}
use denote.Hole.Carrier.{listed, list-listed}
use denote.Param.Weighed.{Weighed, w_list}
use Rattle.sequence.specs.contracts.label.Unlabelled as unlabelled
use Rattle.sequence.specs.contracts.label.UnlabelledLabel.TheImpl as label
use Rattle.sequence.specs.Places as places
use Rattle.sequence.specs.contracts.sequence.Sequence as C

abbrev pub the_former : Former {0} → Former {0}
the_former g = list g

abbrev pub the_weighed : {g : Former {0}} → Weighed g → Weighed (the_former g)
the_weighed w = w_list w

pub the_empty : List ⊥
the_empty = []

abbrev pub the_items : (X : Type 0) → List X → List X
the_items X d = d

pub the_items_listed : (X : Type 0) (d : List X) → listed _ (children (the_former this) X d) ≡ the_items X d
the_items_listed X d = list-listed X d

module _ (R S : RattleType) (h : R.Denot → S.Denot) where
  pub the_places : Alike R S h → Alike (C.the_row R) (C.the_row S) ((the_former this).map R.Denot S.Denot h)
  the_places a = let p = places.list_places unlabelled.the_row R S h (label.ghosts R) (label.ghosts S) (λ x. refl) a
      in record {
        mir_same = refl;
        own_same = λ d i vs. fsep (fex (Typed (C.the_row R).mir vs) (λ _. ftrue)) (p.own_same d i vs);
        shr_same = λ d. p.shr_same d;
      }

  pub the_codes_placed : Recodes R S h → Recodes (C.the_row R) (C.the_row S) ((the_former this).map R.Denot S.Denot h)
  the_codes_placed e d = sym (code_map R.coded.code S.coded.code h (λ x. sym (e x)) d)
