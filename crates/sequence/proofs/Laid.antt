-- A hidden list in memory is a list in memory. Assumes `Logic`.
use Rattle.std.proofs.Common.{◌≡◌, ℕ, List, [], ◌∷◌, length, None, refl, lit<, w8, w64}
use lib.Dec.{T}
use seplogic.Ra.Ura.{Ura}
use mir.Val.{Val, vint, vstruct, vcons, vnil, has_ty, WT}
use base.Fraction.{full_share}
use base.Logic.{ent, sep, emp}
use base.Fml.{fsep, ftrue}
use types.Logic.{Logic, sem}
use types.Kit.{‵, ◌$◌, ◌∵◌, !, qed, keep, move, drop, use0, fsplit, fjoin, fpick, fpack, done}
use denote.RattleType.{RattleType}
use denote.Laws.{Is, Typed, shows}
use denote.Memory.{lone, cell_at, part_at, part_of, mem}
use denote.Shadow.{makes_shadow}
use denote.Steps.{nothing as nothing_more, peeks}
use denote.Param.{param}
use denote.Param.Laws.{Laws, param_laws, arg_typed}
use Rattle.sequence.specs.Laid.Owned.{list_row}
use Rattle.sequence.specs.contracts.sequence.Sequence.{the_row}
use Rattle.sequence.specs.contracts.label.Unlabelled as unlabelled
use Rattle.sequence.proofs.label.Unlabelled.TheLaws.{the_row_laws as unlabelled_laws}
use Rattle.sequence.specs.contracts.label.UnlabelledLabel.TheImpl as label
use Rattle.sequence.specs.Nodes.{items_under}
use Rattle.sequence.specs.declared.labelled.LabelledSequence.TheInside as declared
use Rattle.sequence.specs.contracts.labelled.LabelledSequence.TheInside as inside
use Rattle.sequence.proofs.labelled.LabelledSequence.TheLaws.{the_row_laws as sequence_laws}

module _ (T' : RattleType) (L : Laws T') where
  abbrev pub R : RattleType
  R = param 0 T'

  abbrev pub Self : RattleType
  Self = the_row R

  abbrev pub ListRow : RattleType
  ListRow = list_row R

  list_laws : Laws ListRow
  list_laws = sequence_laws R unlabelled.the_row (label.ghosts R) (param_laws 0 T' L) unlabelled_laws

  typed : {M : Type 1} {𝓤 : Ura M} (𝓛 : Logic 𝓤) (x : ListRow.Denot) (vs : List Val) → Is ListRow x vs → Typed
      Self.mir vs
  typed 𝓛 x vs is = arg_typed (lone Self.mir) ListRow list_laws.one refl vs ((list_laws.lawful 𝓛).typed x vs is)

  module _ {M : Type 1} {𝓤 : Ura M} (𝓛 : Logic 𝓤) (b o : ℕ) where
    pub forth : (x : ListRow.Denot) (vs : List Val) → ent 𝓤 (sep 𝓤 (sem 𝓛 (cell_at full_share Self.mir vs b o)) (sem 𝓛
        (Self.own_val x vs)))
        (sem 𝓛 ((mem ListRow).own_at x b o))
    unfolding part_of
    forth x vs = qed 𝓛 (‵ (cell_at full_share Self.mir vs b o) ∷ ‵ (Self.own_val x vs) ∷ []) ∵ move ! (1 ∷ []) $
        fsplit ! $ drop ! $
        move ! (1 ∷ 0 ∷ []) $ fjoin ! $
        fpack ! (List Val) (λ us. fsep (cell_at full_share ListRow.mir us b o) (ListRow.own_val x us)) vs $ done !

    pub back : (w : ListRow.Denot) → ent 𝓤 (sep 𝓤 (sem 𝓛 ((mem ListRow).own_at w b o)) (sem 𝓛 ftrue)) (sem 𝓛 ((mem
        Self).own_at w b o))
    unfolding part_of
    back w = qed 𝓛 (‵ (part_at ListRow full_share w b o) ∷ ‵ ftrue ∷ []) ∵ fpick ! (λ vs. fsplit ! $ move ! (1 ∷ []) $
        peeks ! ListRow (Is ListRow) (shows 𝓛 ListRow) w vs (λ is.
        nothing_more ! $ fpack ! (Typed Self.mir vs) (λ _. ftrue) (typed 𝓛 w vs is) $ fjoin ! $ move ! (1 ∷ 0 ∷ []) $
        fjoin ! $
        fpack ! (List Val) (λ us. fsep (cell_at full_share Self.mir us b o) (Self.own_val w us)) vs $ keep ! (0 ∷ [])
        $ done !))

-- ---- the list with no items
abbrev none : Val
none = vstruct (vcons (vint w8 0) vnil)

abbrev pub empty : Val
empty = vstruct (vcons none (vcons (vint w64 0) vnil))

module _ (R : RattleType) where
  abbrev Fields : RattleType
  Fields = inside.the_row R unlabelled.the_row (label.ghosts R)

  abbrev Inside : Type 0
  Inside = declared.Inside R.Denot unlabelled.the_row.Denot

  abbrev parts : Inside
  parts = record { root = None; len = 0 }

  fields_owned : {M : Type 1} {𝓤 : Ura M} (𝓛 : Logic 𝓤) → ent 𝓤 (emp 𝓤) (sem 𝓛 (Fields.own_val parts (empty ∷ [])))
  fields_owned 𝓛 = makes_shadow 𝓛 (Fields.own_val parts (empty ∷ [])) (λ vss. (
    tt,
    (
      (λ qs. (tt, λ u. (tt, tt))),
      (
        (
          tt,
          tt,
        ),
        tt,
      ),
    ),
  ))
      ((none ∷ [], (vint w64 0 ∷ [], tt)), (refl, (([], (refl, (tt, (refl, tt)))), ((refl, lit< tt), tt))))

  pub empty_good : T (has_ty (lone (the_row R).mir) empty) × WT empty
  empty_good = (tt, ((record { fits = lit< tt }, tt), (record { fits = lit< tt }, tt)))

  pub empty_owned : {M : Type 1} {𝓤 : Ura M} (𝓛 : Logic 𝓤) → ent 𝓤 (emp 𝓤) (sem 𝓛 ((the_row R).own_val [] (empty ∷ [])))
  empty_owned 𝓛 = qed 𝓛 [] ∵ use0 𝓛 (‵ (Fields.own_val parts (empty ∷ []))) (fields_owned 𝓛) $
      nothing_more ! $ move ! (1 ∷ 0 ∷ []) $ fjoin ! $
      fpack ! ((u : Inside) × ((items_under u.root ≡ []) × (u.len ≡ length (items_under u.root))))
      (λ x. fsep (Fields.own_val x.0 (empty ∷ [])) ftrue) (parts, (refl, refl)) $
      nothing_more ! $ fpack ! (Typed (the_row R).mir (empty ∷ [])) (λ _. ftrue) (empty_good, tt) $ fjoin ! $ done !
