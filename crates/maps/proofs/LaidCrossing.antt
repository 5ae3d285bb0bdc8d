-- A hidden map may go to a thread, and be seen by one, if its entries may go to any thread and be seen by any.
use mathlib.Core.List.{[], ◌∷◌}
use denote.RattleType.{RattleType}
use denote.Hole.{as_row}
use denote.Param.Send.{IsSend, IsSync, sendable}
use denote.Param.Send.{view_send, view_sync}
use denote.Param.SendFields.{as_row_send, as_row_sync, declared_send, declared_sync}
use denote.Struct.Field.{row_field, usize-field}
use denote.Struct.Tuple.{Tuple}
use Rattle.std.proofs.Crossing as crossing
use Rattle.std.proofs.option.Option.TheSendSync as option
use Rattle.handles.proofs.arc.Arc.TheSendSync as arc
use Rattle.sequence.proofs.tree.Tree.TheLaws.TheKnot as knot
use Rattle.std.specs.contracts.alloc.Global as heaps
use Rattle.std.specs.contracts.impls.GlobalAllocator.TheImpl.{ghosts as heap_ghosts}
use Rattle.std.specs.contracts.vec.Vec as vecs
use Rattle.std.specs.declared.cmp.Ord as ord
use Rattle.std.specs.declared.cmp.PartialEq as eq
use Rattle.std.specs.declared.cmp.PartialOrd as partial
use Rattle.sequence.specs.declared.label.Label as label_trait
use Rattle.sequence.specs.contracts.tree.Tree as tree
use Rattle.sequence.specs.contracts.labelled.LabelledSequence as sequence
use Rattle.sequence.specs.contracts.labelled.LabelledSequence.TheInside as list_inside
use Rattle.maps.specs.contracts.key.Key as key
use Rattle.maps.specs.contracts.key.KeyLabelTuple2.TheImpl as label
use Rattle.maps.specs.contracts.entries.Entries.TheInside as inside
use Rattle.maps.specs.Laid.Owned.{map_row}
use Rattle.maps.specs.contracts.map.TreeMap.{the_row}
use Rattle.maps.proofs.key.Key.TheSendSync as keys

length-Send : IsSend (as_row usize-field)
length-Send = search sendable

length-Sync : IsSync (as_row usize-field)
length-Sync = search sendable

vec-Send : (h : RattleType) → IsSend h → IsSync h → IsSend (vecs.the_row h heaps.the_row heap_ghosts)
vec-Send h s y = crossing.Vec-send h s

vec-Sync : (h : RattleType) → IsSend h → IsSync h → IsSync (vecs.the_row h heaps.the_row heap_ghosts)
vec-Sync h s y = crossing.Vec-sync h y

module _ (K V : RattleType) (kS : IsSend K) (vS : IsSend V) (kY : IsSync K) (vY : IsSync V) where
  abbrev R : RattleType
  R = Tuple (K ∷ V ∷ [])

  abbrev U : RattleType
  U = key.the_row K

  abbrev G : label_trait.Ghosts U.Denot R.Denot
  G = label.ghosts K V

  s : IsSend R
  s = search sendable

  y : IsSync R
  y = search sendable

  label-Send : IsSend (as_row (row_field U))
  label-Send = as_row_send (row_field U) (keys.the_send K kS)

  label-Sync : IsSync (as_row (row_field U))
  label-Sync = as_row_sync (row_field U) (keys.the_sync K kY)

  items-Send : IsSend (as_row (vecs.the_field R heaps.the_row heap_ghosts))
  items-Send = as_row_send (vecs.the_field R heaps.the_row heap_ghosts) (vec-Send R s y)

  items-Sync : IsSync (as_row (vecs.the_field R heaps.the_row heap_ghosts))
  items-Sync = as_row_sync (vecs.the_field R heaps.the_row heap_ghosts) (vec-Sync R s y)

  tree-Send : IsSend (tree.the_row R U G)
  tree-Send = knot.both_send-Tree R U G arc.the_send items-Send vec-Send label-Send length-Send arc.the_sync items-Sync
      vec-Sync label-Sync length-Sync

  tree-Sync : IsSync (tree.the_row R U G)
  tree-Sync = knot.both_sync-Tree R U G arc.the_send items-Send vec-Send label-Send length-Send arc.the_sync items-Sync
      vec-Sync label-Sync length-Sync

  list-Send : IsSend (sequence.the_row R U G)
  list-Send = view_send (list_inside.the_row R U G) _ _ _ _
      (declared_send (list_inside.the_type R U G) (option.the_send _ tree-Send, (length-Send, tt)))

  list-Sync : IsSync (sequence.the_row R U G)
  list-Sync = view_sync (list_inside.the_row R U G) _ _ _ _
      (declared_sync (list_inside.the_type R U G) (option.the_sync _ tree-Sync, (length-Sync, tt)))

  module _ (g : ord.Ghosts K.Denot) (g' : eq.Ghosts K.Denot) (g'' : partial.Ghosts K.Denot) where
    map-Send : IsSend (map_row K V g g' g'')
    map-Send = view_send (inside.the_row K V g g' g'') _ _ _ _
        (declared_send (inside.the_type K V g g' g'') (as_row_send (row_field (sequence.the_row R U G)) list-Send, tt))

    map-Sync : IsSync (map_row K V g g' g'')
    map-Sync = view_sync (inside.the_row K V g g' g'') _ _ _ _
        (declared_sync (inside.the_type K V g g' g'') (as_row_sync (row_field (sequence.the_row R U G)) list-Sync, tt))

module _ (K V : RattleType) (g : ord.Ghosts K.Denot) (g' : eq.Ghosts K.Denot) (g'' : partial.Ghosts K.Denot)
    (kS : IsSend K) (vS : IsSend V) (kY : IsSync K) (vY : IsSync V) where
  pub entries-Send : IsSend (the_row K V g g' g'')
  entries-Send = let m = map-Send K V kS vS kY vY g g' g'' in record {
    owned = λ x vs. ((λ _. tt), m.owned x vs);
    leaving = λ k x w. tt;
  }

  pub entries-Sync : IsSync (the_row K V g g' g'')
  entries-Sync = let m = map-Sync K V kS vS kY vY g g' g'' in record { shared = λ x b o κ. m.shared x b o κ }
