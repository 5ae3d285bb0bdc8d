-- The heap where what is called has a type parameter; and a box that is kept as its pointer and its allocator, taken
-- apart and put together. Assumes `Logic`.
use Rattle.std.proofs.Common.{◌≡◌, ℕ, List, [], ◌∷◌, ◌++◌, refl, ap, ◌∙◌, true, ◌&&◌}
use lib.Dec.{T}
use seplogic.Ra.Ura.{Ura}
use mir.Syntax.{impl, tcons, tnil}
use mir.Raw.{raw as bare}
use mir.Val.{Val, vptr, vstruct, vcons, vnil, of_list, has_ty, WT}
use base.Logic.{never, fst∗}
use base.Fml.{Fml}
use types.Logic.{Logic, sem}
use types.Kit.{Item, Goal, Seq, Step, step, ‵, ◌$◌, move, drop, fsplit, fjoin, fpick, fpack, feq_i, feq_l}
use denote.RattleType.{RattleType, Valss}
use denote.Builtin.{RawPtr}
use denote.Memory.{lone}
use denote.RawPtr.{Ptr, block_ptr, null_ptr, ptr_val, in_a_block}
use denote.Steps.{nothing as nothing_more}
use denote.Exit.{no}
use denote.Param.{layout, arg}
use denote.Param.Laws.{Laws, arg_laws}
use denote.Struct.Struct.{within}
use denote.Struct.Owning.{shape, to}
use Rattle.core.proofs.cell.Inside.{Good}
use Rattle.std_alloc.specs.Box.Ownership.{box_owns}
use Rattle.std_alloc.proofs.ResultValues.{and_tt}
use Rattle.handles.specs.contracts.Destruct++none.drop.Key.{symbol as none}
use Rattle.handles.proofs.Scripts.{fpair}
pub use Rattle.std_heap.proofs.Global.TheLaws.{the_row_laws as heap_laws}
pub use Rattle.core.proofs.alloc.Calls.{Al, handle_tells, Goes-blank}
pub use Rattle.std_heap.specs.contracts.Global.{the_row as heap_row}
pub use Rattle.std_heap.specs.contracts.GlobalAllocator.TheImpl.{ghosts, dict}
pub use mir.Syntax.{dcons, dnil}
pub use contract.BorrowLft.{◌⊑◌, ⊑_static}
pub use contract.Running.{within as named_in}
pub use denote.Triple.Clauses.{Lasts, lasts}
pub use denote.Triple.Spec.{triple_of}
pub use Rattle.std.specs.declared.alloc.Global.{Global}
pub use Rattle.std_heap.proofs.GlobalAllocator.TheImpl.Met.{passed}
pub use Rattle.std_alloc.proofs.BoxSteps.Steps.{box_out, box_in}
pub use Rattle.handles.proofs.Destruct++none.drop.Code.{glues}
pub use Rattle.handles.specs.contracts.block.raw_box.RawBox.{the_type as RawBoxType, the_row as RawBoxRow}

-- the heap's handle as a call passes it for a type parameter
abbrev pub heap_arg : RattleType
heap_arg = arg (bare (layout heap_row)) no heap_row

-- it keeps the laws of a type that is passed so
pub heap_arg-laws : Laws heap_arg
heap_arg-laws = arg_laws (bare (layout heap_row)) no heap_row heap_laws refl

-- the heap as the allocator of what is called
abbrev pub heap : Al
heap = record {
  row = heap_row;
  laws = heap_laws;
  g = ghosts;
  d = dict;
  drops = impl (none ∷ [])
      (tcons (layout heap_arg) tnil) dnil;
}

-- a struct of two fields, as one machine value
abbrev pub pair_val : Val → Val → Val
pair_val v w = vstruct (vcons v (vcons w vnil))

-- a pointer and an allocator are a value of its type
pub raw_box-Good : (b o : ℕ) (h : Val) → Good (layout heap_row) h → T (has_ty (layout heap_row) h && true)
    × WT (pair_val (vptr b o) h)
raw_box-Good b o h good = (and_tt (has_ty (layout heap_row) h) good.0, (tt, (good.1, tt)))

module _ (R : RattleType) where
  -- what a box at p by the allocator a owns, with x in it
  abbrev pub Owned : Global → Ptr → R.Denot → Fml
  Owned a p x = box_owns (ghosts.dealloc_token a) R p x

  module _ {M : Type 1} {𝓤 : Ura M} {𝓛 : Logic 𝓤} {K : Type 0} {Γ : List (Item 𝓤)} {G : Goal 𝓤
      𝓛.H} where
    -- [what is owned; the allocator]
    pub raw_box_opens : K → (d : (RawBoxRow R).Denot) (vs : List Val)
        → ((b o : ℕ) (h : Val) → d.at ≡ block_ptr b o → vs ≡ pair_val (vptr b o)
        h ∷ [] → Good (layout heap_row) h → Seq K 𝓛 (‵ (Owned d.alloc (block_ptr b o) d.value)
        ∷ ‵ (heap_row.own_val d.alloc (h ∷ [])) ∷ Γ) G)
        → Seq K 𝓛 (‵ ((RawBoxRow R).own_val d vs) ∷ Γ) G
    raw_box_opens t d vs k = fsplit t $ fpick t (λ vss. fsplit t $ feq_l t (λ is_pair. fsplit t $
        feq_l t (λ is_ptr. fsplit t $
        handle_tells heap t d.alloc vss.1.0 (λ h is_handle good. move t (1 ∷ []) $ drop t $ move t (1 ∷ []) $
        in_a_block t d.at (λ p. Owned d.alloc p d.value) (fst∗ 𝓤 (never 𝓤)
        (sem 𝓛 (ghosts.dealloc_token d.alloc (bare (lone R.mir)) null_ptr))) (λ b o placed.
        let pointer : vss.0 ≡ vptr b o ∷ [] = is_ptr ∙ ap (λ (p : Ptr). ptr_val p ∷ []) placed in
        k b o h placed (is_pair ∙ (λ j. vstruct (of_list (pointer j ++ (is_handle j ++ []))) ∷ [])) good)))))

    -- put together again
    pub raw_box_shuts : K → (b o : ℕ) (h : Val) (a : Global) (x : R.Denot)
        → Step K 𝓛 (‵ ((RawBoxRow R).own_val (record { at = block_ptr b o; alloc = a; value = x })
        (pair_val (vptr b o) h ∷ [])) ∷ Γ) G (‵ (Owned a (block_ptr b o) x) ∷ ‵ (heap_row.own_val a (h ∷ [])) ∷ Γ) G
    raw_box_shuts t b o h a x = step (λ s. let v : Val = pair_val (vptr b o) h in
        nothing_more t $ fpair t 2 0 $
        feq_i t (List Val) (vptr b o ∷ []) (vptr b o ∷ []) refl $ fjoin t $
        feq_i t (List Val) (v ∷ []) (v ∷ []) refl $ fjoin t $
        fpack t (Valss (RawPtr ∷ heap_row ∷ [])) (within (shape (RawBoxType R)) (to (RawBoxType R)
        (record { at = block_ptr b o; alloc = a; value = x })) (v ∷ [])) (vptr b o ∷ [], (h ∷ [], tt)) $ fjoin t $ s)
