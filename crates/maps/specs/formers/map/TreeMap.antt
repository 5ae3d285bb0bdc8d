-- `TreeMap` as a type that may hold the type that holds it, by its values. Its value is the list of its
-- entries.
use Rattle.std.specs.Prelude.{◌≡◌, Bool, ◌&&◌, List, [], ◌∷◌, ◌++◌, map}
use mathlib.Core.Path.{refl, sym, ap, ◌∙◌}
use mathlib.Core.Bool.{Bool-set}
use mathlib.Core.Former.{Former, this, list, via, children}
use base.Fml.{fsep, fex, ftrue}
use denote.Laws.{Typed}
use denote.RattleType.{RattleType}
use denote.Struct.Tuple.{Tuple, tuple_type}
use denote.HoleLaws.{Alike}
use denote.HolePlaces.{Recodes, struct_places, laid, stays}
use denote.Hole.Carrier.{listed}
use denote.Hole.Fix.{over}
use denote.Param.Weighed.{Weighed, most}
use denote.Model.Placed.{view_places}
use Rattle.std.specs.Cmp.Lexicographic.{pointwise, slice_cmp, slice_partial_cmp}
use Rattle.core.specs.Cmp.Derive.Mapped.{pointwise-map, lex_map, slice_partial_cmp-map, items_map}
use Rattle.std.specs.Hash.{HashWrites, slice}
use Rattle.std.specs.Ordering.{is_lt, ordering_then, partial_ordering_then}
use Rattle.std.specs.declared.cmp.Ord as ord
use Rattle.std.specs.declared.cmp.PartialEq as eq
use Rattle.std.specs.declared.cmp.PartialOrd as partial
use Rattle.std.specs.declared.cmp.Ordering.{Ordering}
use Rattle.std.specs.declared.hash.Hash as hash
use Rattle.std.specs.declared.option.Option.{Option}
use Rattle.std_collections.specs.Layout.Former.{entry, on_value, entries_puts, values_listed, entries_recoded}
use Rattle.std_collections.specs.Map.{values_of}
use Rattle.sequence.specs.Places as places
use Rattle.maps.specs.Maps.{all_above, is_rising}
use Rattle.maps.specs.Laid.Owned.{map_row}
use Rattle.maps.specs.contracts.key.Key as key
use Rattle.maps.specs.contracts.key.KeyLabelTuple2.TheImpl as label
use Rattle.maps.specs.declared.entries.Entries.TheInside.{Inside}
use Rattle.maps.specs.declared.entries.Entries.TheView.{invariant}
use Rattle.maps.specs.contracts.entries.Entries.TheInside as I
use Rattle.maps.specs.contracts.map.TreeMap as C

abbrev pub the_former : Former {0} → Type 0 → Former {0}
the_former g K = list (entry g K)

abbrev pub the_weighed : {g : Former {0}} → Weighed g → (K : Type 0) → Weighed (the_former g K)
the_weighed w K = record {
  weight = λ X μ es. most (w.weight X μ) (values_of es);
  puts = λ X μ es. entries_puts w K X μ es;
}

pub the_empty : (K : Type 0) → K → List (K × ⊥)
the_empty K k = []

abbrev pub the_items : (K X : Type 0) → List (K × X) → List X
the_items K X es = values_of es

pub the_items_listed : (K X : Type 0) (es : List (K × X))
    → listed _ (children (the_former this K) X es) ≡ the_items K X es
the_items_listed K X es = values_listed K X es

-- ---- the keys stay as they are, so they ascend as before
module _ {K X Y : Type 0} (cmp : K → K → Ordering) (h : X → Y) where
  above_same : (k : K) (es : List (K × X)) → all_above cmp k (map (on_value h) es) ≡ all_above cmp k es
  above_same k [] = refl
  above_same k (e ∷ es) = ap (λ b. is_lt (cmp k e.0) && b) (above_same k es)

  rising_same : (es : List (K × X)) → is_rising cmp (map (on_value h) es) ≡ is_rising cmp es
  unfolding is_rising
  rising_same [] = refl
  rising_same (e ∷ es) = λ i. above_same e.0 es i && rising_same es i

abbrev fields : Type 0 → Former {0}
fields K = via (list (entry this K)) (λ X. Inside K X) (λ X a. a.entries) (λ X v. record { entries = v }) (λ X a. refl)
    (λ X v. refl)

module _ (K : RattleType) (G : ord.Ghosts K.Denot) (G' : eq.Ghosts K.Denot) (G'' : partial.Ghosts K.Denot)
    (R S : RattleType) (h : R.Denot → S.Denot) where
  abbrev Entry : RattleType → RattleType
  Entry V = Tuple (K ∷ V ∷ [])

  module _ (a : Alike R S h) where
    entry_places : Alike (Entry R) (Entry S) (on_value h)
    entry_places = struct_places (tuple_type (K ∷ R ∷ [])) (tuple_type (K ∷ S ∷ [])) ((λ k. k), (h, tt)) (on_value h)
        (λ d. refl) refl (stays K, (laid R S h a, tt))

    map_places : Alike (map_row K R G G' G'') (map_row K S G G' G'') (map (on_value h))
    map_places = view_places (fields K.Denot) (list (entry this K.Denot)) (λ X u. u.entries) (λ X Y k u. refl)
        (λ X u. refl) R.Denot S.Denot h (map_row K R G G' G'').coded (map_row K S G G' G'').coded
        (invariant K.Denot R.Denot G G' G'') (invariant K.Denot S.Denot G G' G'')
        (λ u. Bool-set _ _) (λ u. Bool-set _ _)
        (λ u e. rising_same G.cmp h u.entries ∙ e) (λ u e. sym (rising_same G.cmp h u.entries) ∙ e)
        (over (I.the_row K R G G' G'')) (over (I.the_row K S G G' G''))
        (struct_places (I.the_type K R G G' G'') (I.the_type K S G G' G'') (map (on_value h), tt) _ (λ d. refl)
        refl (
          laid _ _ _ (places.list_places (key.the_row K) (Entry R) (Entry S) (on_value h) (label.ghosts K R)
              (label.ghosts K S) (λ x. refl) entry_places),
          tt,
        ))

  abbrev over_values : List (K.Denot × R.Denot) → List (K.Denot × S.Denot)
  over_values = (the_former this K.Denot).map R.Denot S.Denot h

  pub the_places : Alike R S h → Alike (C.the_row K R G G' G'') (C.the_row K S G G' G'') over_values
  the_places a = let p = map_places a in record {
    mir_same = refl;
    own_same = λ d i vs. fsep (fex (Typed (C.the_row K R G G' G'').mir vs) (λ _. ftrue)) (p.own_same d i vs);
    shr_same = λ d. p.shr_same d;
  }

  pub the_codes_placed : Recodes R S h → Recodes (C.the_row K R G G' G'') (C.the_row K S G G' G'') over_values
  the_codes_placed e es = entries_recoded K R S h e es

-- ---- what a map has by its entries goes along `h` with its values
module _ {K X Y : Type 0} (h : X → Y) where
  pub entries_eq : (F : K × Y → K × Y → Bool) (es fs : List (K × X))
      → pointwise F (map (on_value h) es) (map (on_value h) fs)
      ≡ pointwise (λ p q. F (on_value h p) (on_value h q)) es fs
  entries_eq = pointwise-map (on_value h)

  pub entries_cmp : (F : K × Y → K × Y → Ordering) (es fs : List (K × X))
      → slice_cmp F (map (on_value h) es) (map (on_value h) fs)
      ≡ slice_cmp (λ p q. F (on_value h p) (on_value h q)) es fs
  entries_cmp = lex_map (on_value h)

  pub entries_partial_cmp : (F : K × Y → K × Y → Option Ordering) (es fs : List (K × X))
      → slice_partial_cmp F (map (on_value h) es) (map (on_value h) fs)
      ≡ slice_partial_cmp (λ p q. F (on_value h p) (on_value h q)) es fs
  entries_partial_cmp = slice_partial_cmp-map (on_value h)

  pub entries_hashed : (F : K × Y → HashWrites) (es : List (K × X))
      → slice F (map (on_value h) es) ≡ slice (λ p. F (on_value h p)) es
  entries_hashed = items_map (on_value h)

pub ruleset naturals = (entries_eq, entries_cmp, entries_partial_cmp, entries_hashed)

module _ (K X Y : Type 0) (h : X → Y) (G : ord.Ghosts K) (G' : eq.Ghosts K) (G'' : partial.Ghosts K) where
  abbrev over_h : List (K × X) → List (K × Y)
  over_h = (the_former this K).map X Y h

  pub the_eq_natural : (V : eq.Ghosts Y) (es fs : List (K × X))
      → pointwise (λ p q. G'.eq p.0 q.0 && V.eq p.1 q.1) (over_h es) (over_h fs)
      ≡ pointwise (λ p q. G'.eq p.0 q.0 && V.eq (h p.1) (h q.1)) es fs
  the_eq_natural V es fs = pointwise-map (on_value h) (λ p q. G'.eq p.0 q.0 && V.eq p.1 q.1) es fs

  pub the_partial_cmp_natural : (V : partial.Ghosts Y) (V' : eq.Ghosts Y) (es fs : List (K × X))
      → slice_partial_cmp (λ p q. partial_ordering_then (G''.partial_cmp p.0 q.0) (V.partial_cmp p.1 q.1)) (over_h es)
      (over_h fs) ≡ slice_partial_cmp (λ p q. partial_ordering_then (G''.partial_cmp p.0 q.0)
      (V.partial_cmp (h p.1) (h q.1))) es fs
  the_partial_cmp_natural V V' es fs = slice_partial_cmp-map (on_value h)
      (λ p q. partial_ordering_then (G''.partial_cmp p.0 q.0) (V.partial_cmp p.1 q.1)) es fs

  pub the_cmp_natural : (V : ord.Ghosts Y) (V' : eq.Ghosts Y) (V'' : partial.Ghosts Y) (es fs : List (K × X))
      → slice_cmp (λ p q. ordering_then (G.cmp p.0 q.0) (V.cmp p.1 q.1)) (over_h es) (over_h fs)
      ≡ slice_cmp (λ p q. ordering_then (G.cmp p.0 q.0) (V.cmp (h p.1) (h q.1))) es fs
  the_cmp_natural V V' V'' es fs = lex_map (on_value h) (λ p q. ordering_then (G.cmp p.0 q.0) (V.cmp p.1 q.1)) es fs

  pub the_hash_input_natural : (H : hash.Ghosts K) (V : hash.Ghosts Y) (V' : eq.Ghosts Y) (es : List (K × X))
      → slice (λ p. H.hash_input p.0 ++ V.hash_input p.1) (over_h es)
      ≡ slice (λ p. H.hash_input p.0 ++ V.hash_input (h p.1)) es
  the_hash_input_natural H V V' es = items_map (on_value h) (λ p. H.hash_input p.0 ++ V.hash_input p.1) es
