-- A block in memory is its word, its stamp, what it holds and the heap's handle, with what is left of its place.
-- Assumes `Logic`.
use Rattle.std.proofs.Common.{ℕ, zero, ◌+◌, List, [], ◌∷◌, w64}
use seplogic.Ra.Ura.{Ura}
use base.Fraction.{full_share}
use base.Logic.{ent, sep}
use base.Fml.{Fml, fsep, fleft}
use types.Logic.{Logic, sem}
use types.Kit.{‵, ◌⊛◌, ◌$◌, ◌∵◌, !, qed, by, move, keep, use1, split, fjoin, fjoin3, fsplit3, fpack, done, fsplit}
use denote.RattleType.{RattleType}
use denote.Memory.{part_at, part_of}
use denote.RawPtr.{block_ptr}
use denote.Param.{param}
use denote.Param.Laws.{Laws, param_laws}
use denote.Steps.{nothing as nothing_more}
use denote.Plain.{UInt}
use denote.Struct.Struct.{Struct}
use denote.Struct.Laws.{u64-laws, field_copy, unit-copy}
use denote.Struct.Members.{parts_at, raw_tys, lawful_Lones}
use denote.Struct.Parts.{shape_of, Struct-left, left_Struct}
use Rattle.core.proofs.tally.Steps.{word_out, word_in}
use Rattle.core.specs.Sync.RawAtomic.{word}
use Rattle.std.specs.declared.alloc.Global.{Global}
use Rattle.handles.proofs.Blocks.RawBoxes.{heap_row, heap_laws, ghosts}
use Rattle.std_alloc.specs.Box.Ownership.{box_owns}
use mir.Val.{Val}
use Rattle.std_heap.specs.contracts.Global as heap
use Rattle.core.specs.contracts.rt.Memory as memory
use Rattle.handles.proofs.block.Held.TheLaws.{the_row_laws as held_laws}
use Rattle.handles.specs.Inside.Blocks.{HeldRow, members, block_type, stamp_offset, held_offset, heap_offset, left_at}
use Rattle.handles.specs.Inside.Blocks.{frees, bare_block}
use Rattle.handles.specs.contracts.block.Block as block
use Rattle.handles.proofs.Scripts.{fpair}

module _ (T : RattleType) (L : Laws T) {M : Type 1} {𝓤 : Ura M} (𝓛 : Logic 𝓤) (b o : ℕ) where
  abbrev R : RattleType
  R = param 0 T

  -- blocks with values of this type
  abbrev pub BlockRow : RattleType
  BlockRow = block.the_row R

  abbrev Fields : RattleType
  Fields = Struct (shape_of (block.the_type R).name (members R))

  -- a block with these fields
  module _ (w s : ℕ) (x : (HeldRow R).Denot) (h : Global) where
    -- its fields apart
    abbrev Apart : Fml
    Apart = fsep (word b (o + 0) w) (fsep (word b (o + 8) s) (fsep (part_at (HeldRow R)
        full_share x b (o + held_offset R)) (fsep (part_at heap_row full_share h b (o + heap_offset R))
        (left_at R (block_ptr b o)))))

    -- the block in one piece
    abbrev Whole : Fml
    Whole = part_at BlockRow full_share (record { word = w; stamp = s; held = x; alloc = h }) b o

    abbrev values : Fields.Denot
    values = (w, (s, (x, (h, tt))))

    -- a block is taken apart
    pub block_out : ent 𝓤 (sem 𝓛 Whole) (sem 𝓛 Apart)
    unfolding part_of
    block_out = qed 𝓛 (‵ (part_at Fields full_share values b o) ∷ []) ∵
        use1 𝓛 (‵ (parts_at full_share (members R) zero values b o)
        ⊛ ‵ (fleft full_share (block_type R) (raw_tys (members R)) b o))
        (Struct-left 𝓛 full_share (block.the_type R).name (members R) (lawful_Lones 𝓛 (members R)
        (u64-laws.lawful 𝓛, (u64-laws.lawful 𝓛, ((held_laws R (param_laws 0 T L)).lawful 𝓛, (heap_laws.lawful 𝓛, tt))))
        ) values b o) $ split ! $ fsplit3 ! $
        use1 𝓛 (‵ (word b (o + 0) w)) (word_out 𝓛 b (o + 0) w) $ move ! (1 ∷ []) $
        use1 𝓛 (‵ (word b (o + 8) s)) (word_out 𝓛 b (o + 8) s) $ move ! (2 ∷ []) $ fsplit3 ! $
        -- [what is held; the handle; nothing; the stamp; the word; what is left]
        fpair ! 1 5 $ move ! (3 ∷ 1 ∷ 0 ∷ []) $ fjoin3 ! $ fpair ! 2 0 $ keep ! (0 ∷ []) $ done !

    -- and put together again
    pub block_in : ent 𝓤 (sem 𝓛 Apart) (sem 𝓛 Whole)
    unfolding part_of
    block_in = qed 𝓛 (‵ Apart ∷ []) ∵ fsplit3 ! $ move ! (2 ∷ []) $ fsplit3 ! $
        -- [what is held; the handle; what is left; the word; the stamp]
        nothing_more ! $ fpair ! 2 0 $ fpair ! 1 0 $ move ! (3 ∷ []) $
        use1 𝓛 (‵ (part_at (UInt w64) full_share s b (o + 8))) (word_in 𝓛 b (o + 8) s) $ fjoin ! $
        move ! (2 ∷ []) $ use1 𝓛 (‵ (part_at (UInt w64) full_share w b (o + 0))) (word_in 𝓛 b (o + 0) w) $ fjoin ! $
        by ! (left_Struct 𝓛 full_share (block.the_type R).name (members R) values b o)

    -- a box of it
    abbrev pub Boxed : Fml
    Boxed = box_owns (ghosts.dealloc_token h) BlockRow (block_ptr b o)
        (record { word = w; stamp = s; held = x; alloc = h })

    -- a box of a block is a block that nobody shares
    pub box_opens : ent 𝓤 (sem 𝓛 Boxed) (sem 𝓛 (bare_block R (block_ptr b o) x w))
    box_opens = qed 𝓛 (‵ Boxed ∷ []) ∵ fsplit ! $
        use1 𝓛 (‵ Apart) block_out $ fsplit3 ! $ move ! (2 ∷ []) $ fsplit3 ! $
        -- [what is held; the handle; what is left; the word; the stamp; the right to free]
        move ! (1 ∷ 5 ∷ 2 ∷ []) $ fjoin3 ! $ fpack ! Global (frees R (block_ptr b o)) h $
        fpair ! 1 0 $ move ! (2 ∷ []) $ fpack ! ℕ (λ n. word b (o + stamp_offset) n) s $
        move ! (2 ∷ 1 ∷ 0 ∷ []) $ fjoin3 ! $ done !

    -- its parts make the box again
    pub box_shuts : ent 𝓤 (sep 𝓤 (sem 𝓛 (word b (o + 0) w)) (sep 𝓤 (sem 𝓛 (word b (o + stamp_offset) s))
        (sep 𝓤 (sem 𝓛 (part_at (HeldRow R) full_share x b (o + held_offset R)))
        (sem 𝓛 (frees R (block_ptr b o) h))))) (sem 𝓛 Boxed)
    box_shuts = qed 𝓛 (‵ (word b (o + 0) w) ∷ ‵ (word b (o + stamp_offset) s)
        ∷ ‵ (part_at (HeldRow R) full_share x b (o + held_offset R)) ∷ ‵ (frees R (block_ptr b o) h) ∷ [])
        ∵ move ! (3 ∷ []) $ fsplit3 ! $
        -- [the handle; the right to free; what is left; the word; the stamp; what is held]
        fpair ! 0 2 $ move ! (3 ∷ 4 ∷ 0 ∷ []) $ fjoin3 ! $ fpair ! 2 0 $
        use1 𝓛 (‵ Whole) block_in $ fjoin ! $ done !

module _ {M : Type 1} {𝓤 : Ura M} (𝓛 : Logic 𝓤) where
  -- the heap's handle may be copied
  pub heap_twice : (h : Global) (vs : List Val) → ent 𝓤 (sem 𝓛 (heap_row.own_val h vs))
      (sep 𝓤 (sem 𝓛 (heap_row.own_val h vs)) (sem 𝓛 (heap_row.own_val h vs)))
  heap_twice h vs = ((field_copy heap.the_type (field_copy memory.the_type (unit-copy, tt), tt)).copies _ 𝓤
      𝓛).twice ((tt, tt), tt) vs
