-- A hidden map in memory is a map in memory. Assumes `Logic`.
use Rattle.std.proofs.Common.{◌≡◌, ℕ, List, [], ◌∷◌, length, None, refl, lit<, w8, w64}
use lib.Dec.{T}
use seplogic.Ra.Ura.{Ura}
use mir.Syntax.{Args, Dict, a_type, dcons, dnil}
use mir.Val.{Val, vint, vstruct, vcons, vnil, has_ty, WT}
use base.Fraction.{full_share}
use base.Logic.{ent, sep, emp}
use base.Fml.{fsep, ftrue}
use types.Logic.{Logic, sem}
use types.Kit.{‵, ◌$◌, ◌∵◌, !, qed, keep, move, drop, use0, fsplit, fjoin, fpick, fpack, feq_i, done}
use denote.RattleType.{RattleType, Valss}
use denote.Laws.{Is, Typed, shows}
use denote.Memory.{lone, cell_at, part_at, part_of, mem}
use denote.Shadow.{makes_shadow}
use denote.Steps.{nothing as nothing_more, peeks}
use denote.Param.{bounded}
use denote.Param.Laws.{Laws, arg_typed}
use denote.Struct.Struct.{within}
use denote.Struct.Declared.{shape}
use denote.Struct.Tuple.{Tuple}
use Rattle.std.specs.declared.cmp.Ord as ord
use Rattle.std.specs.declared.cmp.PartialEq as eq
use Rattle.std.specs.declared.cmp.PartialOrd as partial
use Rattle.sequence.specs.Nodes.{items_under}
use Rattle.sequence.specs.contracts.labelled.LabelledSequence as sequence
use Rattle.sequence.specs.declared.labelled.LabelledSequence.TheInside as list_declared
use Rattle.sequence.specs.contracts.labelled.LabelledSequence.TheInside as list_inside
use Rattle.maps.specs.Maps.{IsRising, is_rising}
use Rattle.maps.specs.Laid.Owned.{map_row}
use Rattle.maps.specs.contracts.key.Key as key
use Rattle.maps.specs.contracts.key.KeyLabelTuple2.TheImpl as label
use Rattle.maps.specs.declared.entries.Entries.TheInside as declared
use Rattle.maps.specs.contracts.entries.Entries.TheInside as inside
use Rattle.maps.specs.contracts.map.TreeMap.{the_row}
use Rattle.maps.proofs.entries.Entries.TheLaws.{the_row_laws as map_laws}

-- the type arguments of a function of a map, whose keys have an order
abbrev pub at_entry : RattleType → RattleType → Dict → Dict → Dict → Dict → Args
at_entry K V d₀ d₁ d₂ d₃ =
    bounded (a_type ∷ a_type ∷ []) (K, (V, tt)) (dcons d₀ (dcons d₁ (dcons d₂ (dcons d₃ dnil))))

module _ (K V : RattleType) (g : ord.Ghosts K.Denot) (g' : eq.Ghosts K.Denot) (g'' : partial.Ghosts K.Denot) where
  abbrev pub Self : RattleType
  Self = the_row K V g g' g''

  abbrev pub MapRow : RattleType
  MapRow = map_row K V g g' g''

  module _ (LK : Laws K) (LV : Laws V) where
    laws : Laws MapRow
    laws = map_laws K V g g' g'' LK LV

    typed : {M : Type 1} {𝓤 : Ura M} (𝓛 : Logic 𝓤) (x : MapRow.Denot) (vs : List Val) → Is MapRow x vs
        → Typed Self.mir vs
    typed 𝓛 x vs is = arg_typed (lone Self.mir) MapRow laws.one refl vs ((laws.lawful 𝓛).typed x vs is)

    module _ {M : Type 1} {𝓤 : Ura M} (𝓛 : Logic 𝓤) (b o : ℕ) where
      pub forth : (x : MapRow.Denot) (vs : List Val) → ent 𝓤 (sep 𝓤 (sem 𝓛 (cell_at full_share Self.mir vs b o))
          (sem 𝓛 (Self.own_val x vs))) (sem 𝓛 ((mem MapRow).own_at x b o))
      unfolding part_of
      forth x vs = qed 𝓛 (‵ (cell_at full_share Self.mir vs b o) ∷ ‵ (Self.own_val x vs) ∷ []) ∵ move ! (1 ∷ []) $
          fsplit ! $ drop ! $ move ! (1 ∷ 0 ∷ []) $ fjoin ! $
          fpack ! (List Val) (λ us. fsep (cell_at full_share MapRow.mir us b o) (MapRow.own_val x us)) vs $ done !

      pub back : (w : MapRow.Denot) → ent 𝓤 (sep 𝓤 (sem 𝓛 ((mem MapRow).own_at w b o)) (sem 𝓛 ftrue))
          (sem 𝓛 ((mem Self).own_at w b o))
      unfolding part_of
      back w = qed 𝓛 (‵ (part_at MapRow full_share w b o) ∷ ‵ ftrue ∷ []) ∵ fpick ! (λ vs. fsplit ! $ move ! (1 ∷ []) $
          peeks ! MapRow (Is MapRow) (shows 𝓛 MapRow) w vs (λ is.
          nothing_more ! $ fpack ! (Typed Self.mir vs) (λ _. ftrue) (typed 𝓛 w vs is) $ fjoin ! $
          move ! (1 ∷ 0 ∷ []) $ fjoin ! $
          fpack ! (List Val) (λ us. fsep (cell_at full_share Self.mir us b o) (Self.own_val w us)) vs $
          keep ! (0 ∷ []) $ done !))

-- ---- the map with no entries
abbrev none : Val
none = vstruct (vcons (vint w8 0) vnil)

abbrev no_items : Val
no_items = vstruct (vcons none (vcons (vint w64 0) vnil))

pub no_items_good : Unit {0} × WT no_items
no_items_good = (tt, ((record { fits = lit< tt }, tt), (record { fits = lit< tt }, tt)))

abbrev pub empty : Val
empty = vstruct (vcons no_items vnil)

module _ (K V : RattleType) (g : ord.Ghosts K.Denot) (g' : eq.Ghosts K.Denot) (g'' : partial.Ghosts K.Denot) where
  abbrev Entry : RattleType
  Entry = Tuple (K ∷ V ∷ [])

  abbrev ListRow : RattleType
  ListRow = sequence.the_row Entry (key.the_row K) (label.ghosts K V)

  abbrev ListFields : RattleType
  ListFields = list_inside.the_row Entry (key.the_row K) (label.ghosts K V)

  abbrev ListInside : Type 0
  ListInside = list_declared.Inside Entry.Denot (key.the_row K).Denot

  abbrev parts : ListInside
  parts = record { root = None; len = 0 }

  list_fields_owned : {M : Type 1} {𝓤 : Ura M} (𝓛 : Logic 𝓤)
      → ent 𝓤 (emp 𝓤) (sem 𝓛 (ListFields.own_val parts (no_items ∷ [])))
  list_fields_owned 𝓛 = makes_shadow 𝓛 (ListFields.own_val parts (no_items ∷ []))
      (λ vss. (tt, ((λ qs. (tt, λ u. (tt, tt))), ((tt, tt), tt))))
      ((none ∷ [], (vint w64 0 ∷ [], tt)), (refl, (([], (refl, (tt, (refl, tt)))), ((refl, lit< tt), tt))))

  list_owned : {M : Type 1} {𝓤 : Ura M} (𝓛 : Logic 𝓤) → ent 𝓤 (emp 𝓤) (sem 𝓛 (ListRow.own_val [] (no_items ∷ [])))
  list_owned 𝓛 = qed 𝓛 [] ∵ use0 𝓛 (‵ (ListFields.own_val parts (no_items ∷ []))) (list_fields_owned 𝓛) $
      nothing_more ! $ move ! (1 ∷ 0 ∷ []) $ fjoin ! $
      fpack ! ((u : ListInside) × ((items_under u.root ≡ []) × (u.len ≡ length (items_under u.root))))
      (λ x. fsep (ListFields.own_val x.0 (no_items ∷ [])) ftrue) (parts, (refl, refl)) $ done !

  abbrev Fields : RattleType
  Fields = inside.the_row K V g g' g''

  abbrev Inside : Type 0
  Inside = declared.Inside K.Denot V.Denot

  abbrev whole : Inside
  whole = record { entries = [] }

  fields_owned : {M : Type 1} {𝓤 : Ura M} (𝓛 : Logic 𝓤) → ent 𝓤 (emp 𝓤) (sem 𝓛 (Fields.own_val whole (empty ∷ [])))
  fields_owned 𝓛 = qed 𝓛 [] ∵ use0 𝓛 (‵ (ListRow.own_val [] (no_items ∷ []))) (list_owned 𝓛) $
      nothing_more ! $ move ! (1 ∷ 0 ∷ []) $ fjoin ! $
      feq_i ! (List Val) (empty ∷ []) (empty ∷ []) refl $ fjoin ! $
      fpack ! (Valss (shape (inside.the_type K V g g' g'')).fields) (within (shape (inside.the_type K V g g' g''))
      ((inside.the_type K V g g' g'').to whole) (empty ∷ [])) (no_items ∷ [], tt) $ done !

  pub empty_good : T (has_ty (lone (the_row K V g g' g'').mir) empty) × WT empty
  empty_good = (tt, (((record { fits = lit< tt }, tt), (record { fits = lit< tt }, tt)), tt))

  pub empty_owned : {M : Type 1} {𝓤 : Ura M} (𝓛 : Logic 𝓤)
      → ent 𝓤 (emp 𝓤) (sem 𝓛 ((the_row K V g g' g'').own_val [] (empty ∷ [])))
  unfolding is_rising
  empty_owned 𝓛 = qed 𝓛 [] ∵ use0 𝓛 (‵ (Fields.own_val whole (empty ∷ []))) (fields_owned 𝓛) $
      nothing_more ! $ move ! (1 ∷ 0 ∷ []) $ fjoin ! $
      fpack ! ((u : Inside) × ((u.entries ≡ []) × IsRising g.cmp u.entries))
      (λ x. fsep (Fields.own_val x.0 (empty ∷ [])) ftrue) (whole, (refl, refl)) $
      nothing_more ! $ fpack ! (Typed (the_row K V g g' g'').mir (empty ∷ [])) (λ _. ftrue) (empty_good, tt) $
      fjoin ! $ done !
