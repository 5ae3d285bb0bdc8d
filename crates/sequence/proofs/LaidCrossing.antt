-- A hidden list may go to a thread, and be seen by one, if its items may go to any thread and be seen by any.
use denote.RattleType.{RattleType}
use denote.Hole.{as_row}
use denote.Param.Send.{IsSend, IsSync, sendable}
use denote.Param.Send.{view_send, view_sync}
use denote.Param.SendFields.{as_row_send, as_row_sync, declared_send, declared_sync}
use denote.Struct.Field.{row_field, usize-field}
use Rattle.std.proofs.Crossing as crossing
use Rattle.std.proofs.option.Option.TheSendSync as option
use Rattle.handles.proofs.arc.Arc.TheSendSync as arc
use Rattle.sequence.proofs.label.Unlabelled.TheSendSync as unlabelled
use Rattle.sequence.proofs.tree.Tree.TheLaws.TheKnot as knot
use Rattle.std.specs.contracts.alloc.Global as heaps
use Rattle.std.specs.contracts.impls.GlobalAllocator.TheImpl.{ghosts as heap_ghosts}
use Rattle.std.specs.contracts.vec.Vec as vecs
use Rattle.sequence.specs.declared.label.Label as label_trait
use Rattle.sequence.specs.contracts.label.Unlabelled as unlabels
use Rattle.sequence.specs.contracts.label.UnlabelledLabel.TheImpl as label
use Rattle.sequence.specs.contracts.tree.Tree as tree
use Rattle.sequence.specs.contracts.labelled.LabelledSequence.TheInside as inside
use Rattle.sequence.specs.Laid.Owned.{list_row}
use Rattle.sequence.specs.contracts.sequence.Sequence.{the_row}

abbrev U : RattleType
U = unlabels.the_row

label-Send : IsSend (as_row (row_field U))
label-Send = as_row_send (row_field U) unlabelled.the_send

label-Sync : IsSync (as_row (row_field U))
label-Sync = as_row_sync (row_field U) unlabelled.the_sync

length-Send : IsSend (as_row usize-field)
length-Send = search sendable

length-Sync : IsSync (as_row usize-field)
length-Sync = search sendable

vec-Send : (h : RattleType) → IsSend h → IsSync h → IsSend (vecs.the_row h heaps.the_row heap_ghosts)
vec-Send h s y = crossing.Vec-send h s

vec-Sync : (h : RattleType) → IsSend h → IsSync h → IsSync (vecs.the_row h heaps.the_row heap_ghosts)
vec-Sync h s y = crossing.Vec-sync h y

module _ (R : RattleType) (s : IsSend R) (y : IsSync R) where
  abbrev G : label_trait.Ghosts U.Denot R.Denot
  G = label.ghosts R

  items-Send : IsSend (as_row (vecs.the_field R heaps.the_row heap_ghosts))
  items-Send = as_row_send (vecs.the_field R heaps.the_row heap_ghosts) (vec-Send R s y)

  items-Sync : IsSync (as_row (vecs.the_field R heaps.the_row heap_ghosts))
  items-Sync = as_row_sync (vecs.the_field R heaps.the_row heap_ghosts) (vec-Sync R s y)

  tree-Send : IsSend (tree.the_row R U G)
  tree-Send = knot.both_send-Tree R U G arc.the_send items-Send vec-Send label-Send length-Send arc.the_sync items-Sync
      vec-Sync label-Sync length-Sync

  tree-Sync : IsSync (tree.the_row R U G)
  tree-Sync = knot.both_sync-Tree R U G arc.the_send items-Send vec-Send label-Send length-Send arc.the_sync items-Sync
      vec-Sync label-Sync length-Sync

  list-Send : IsSend (list_row R)
  list-Send = view_send (inside.the_row R U G) _ _ _ _
      (declared_send (inside.the_type R U G) (option.the_send _ tree-Send, (length-Send, tt)))

  list-Sync : IsSync (list_row R)
  list-Sync = view_sync (inside.the_row R U G) _ _ _ _
      (declared_sync (inside.the_type R U G) (option.the_sync _ tree-Sync, (length-Sync, tt)))

  pub items_list-Send : IsSend (the_row R)
  items_list-Send = record { owned = λ x vs. ((λ _. tt), list-Send.owned x vs); leaving = λ k x w. tt }

  pub items_list-Sync : IsSync (the_row R)
  items_list-Sync = record { shared = λ x b o κ. list-Sync.shared x b o κ }
