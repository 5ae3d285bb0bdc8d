-- What a block holds, as its limit and its value, of which a `&mut` lends the value alone. Assumes `Logic`.
use Rattle.std.proofs.Common.{ℕ, zero, ◌+◌, false, List, [], ◌∷◌, refl, sym}
use seplogic.Ra.Ura.{Ura}
use base.Fraction.{full_share}
use base.Logic.{ent, sep}
use base.Fml.{Fml, fsep, fex, fleft}
use mir.Syntax.{Ty, ty_struct}
use mir.Val.{Val}
use prog.Memory.{align, up}
use types.Logic.{Logic, sem}
use types.Kit.{‵, ◌⊛◌, ◌$◌, ◌∵◌, !, qed, by, move, keep, use0, use1, split, fjoin, fjoin3, fsplit, fsplit3, fpack}
use types.Kit.{rewrite, done}
use denote.RattleType.{RattleType}
use denote.Memory.{lone, mem, cell_at, part_at, part_of}
use denote.RawPtr.{Ptr, InBlock, block_ptr, block_of, count_of as offset_of, at_block}
use denote.Param.{param}
use denote.Param.Laws.{Laws, param_laws}
use denote.Steps.{nothing as nothing_more}
use denote.Struct.Struct.{Struct}
use denote.Struct.Members.{Member, parts_at, raw_tys, lawful_Lones}
use denote.Struct.Parts.{shape_of, Struct-left, left_Struct}
use Rattle.core.specs.Sync.RawAtomic.{word}
use Rattle.std.specs.declared.alloc.Global.{Global}
use Rattle.handles.specs.declared.limit.Limit.{Limit}
use Rattle.handles.specs.contracts.limit.Limit.{the_row as LimitRow}
use Rattle.handles.proofs.Scripts.{fpair, ffact}
use Rattle.handles.proofs.limit.Limit.TheLaws.{the_row_laws as limit_laws}
use Rattle.handles.specs.contracts.block.Held as held
use Rattle.handles.specs.contracts.block.handle.Handle as handle_type
use Rattle.counting_word.specs.Logs.{Entry}
use Rattle.handles.specs.Inside.Rows.{pass}
use Rattle.handles.specs.Inside.Blocks.{BlockId, HeldRow, held_offset, noted_as, stamp, frees, unshared_block}
use Rattle.handles.specs.Inside.Blocks.{Sharing, sole_handle, not_yet, held_as}
use Rattle.handles.proofs.Walks.Fields.{HandleRow, HandleWords, handle_at, one_word, words_made}

-- what an unshared block's handle at (b, o) has beside what the block holds
abbrev beside_held : (R : RattleType) → Ptr → ℕ → BlockId → ℕ → List Entry → ℕ → ℕ → Fml
beside_held R p limit η n log b o = let at : Ptr = block_ptr (block_of p) (offset_of p) in
    fsep (fex Global (frees R at)) (fsep (fsep (word (block_of p) (offset_of p + 0) 1) (noted_as limit η 1 log))
    (fsep (pass η.living n full_share)
    (fsep (stamp at) (cell_at full_share (HandleRow R).mir (one_word at ∷ []) b o))))

module _ {M : Type 1} {𝓤 : Ura M} (𝓛 : Logic 𝓤) (R : RattleType) (p : Ptr) (η : BlockId) (n : ℕ) (log : List Entry)
    (b o : ℕ) (inb : InBlock p)
  where
    -- with anything held, that is the handle again
    held_back : (w : (HeldRow R).Denot) → ent 𝓤 (sep 𝓤
        (sem 𝓛 ((mem (HeldRow R)).own_at w (block_of p) (offset_of p + held_offset R)))
        (sem 𝓛 (beside_held R p w.limit.count η n log b o))) (sem 𝓛 ((mem (HandleRow R)).own_at
        (handle_at R p w false η n []) b o))
    unfolding part_of
    held_back w = let at : Ptr = block_ptr (block_of p) (offset_of p) in
        qed 𝓛 (‵ (part_at (HeldRow R) full_share w (block_of p) (offset_of p + held_offset R))
        ∷ ‵ (beside_held R p w.limit.count η n log b o) ∷ []) ∵ move ! (1 ∷ []) $ fsplit3 ! $ move ! (2 ∷ []) $
        fsplit3 ! $
        -- [the pass; the stamp; the cell; what frees; the word; the value]
        fpair ! 5 3 $ move ! (4 ∷ 0 ∷ 2 ∷ []) $ fjoin3 ! $
        rewrite ! 0 (λ (z : Ptr). ‵ (unshared_block R z w η 1 log)) (sym (at_block p inb)) refl $ fjoin ! $
        rewrite ! 1 (λ (z : Ptr). ‵ (cell_at full_share (HandleRow R).mir (one_word z ∷ []) b o))
        (sym (at_block p inb)) refl $
        fpack ! (List Entry) (sole_handle R p w η n) log $ fpack ! Sharing
        (held_as R p w η n) not_yet $ ffact ! (InBlock p) inb $ fjoin ! $
        use0 𝓛 (‵ ((HandleWords R).own_val (p, tt) (one_word p ∷ []))) (words_made (handle_type.the_type R).name (R
        ∷ []) 𝓛 p) $ fjoin ! $ fpair ! 1 0 $
        fpack ! (List Val) (λ vs. fsep (cell_at full_share (HandleRow R).mir vs b o)
        ((HandleRow R).own_val (handle_at R p w false η n []) vs)) (one_word p ∷ []) $ done !

module _ (T : RattleType) where
  abbrev R : RattleType
  R = param 0 T

  abbrev parts : List Member
  parts = record { row = LimitRow; ty = lone LimitRow.mir } ∷ record { row = R; ty = lone R.mir } ∷ []

  abbrev held_type : Ty
  held_type = ty_struct [] (raw_tys parts)

  -- where the value lies in what is held
  abbrev pub value_offset : ℕ
  value_offset = up (align (lone R.mir)) 8

  abbrev Fields : RattleType
  Fields = Struct (shape_of (held.the_type R).name parts)

  -- the limit, and the room that is in no field
  abbrev beside_value : Limit → ℕ → ℕ → Fml
  beside_value l b o = fsep (part_at LimitRow full_share l b (o + 0)) (fleft full_share held_type (raw_tys parts) b o)

  -- what is held, as its value and what is beside it
  abbrev pub Apart : (HeldRow R).Denot → ℕ → ℕ → Fml
  Apart x b o = fsep (part_at R full_share x.value b (o + value_offset)) (beside_value x.limit b o)

  -- what the only handle at (b, o) has beside its value
  abbrev pub Rest : Ptr → Limit → BlockId → ℕ → List Entry → ℕ → ℕ → Fml
  Rest p l η n log b o = fsep (beside_value l (block_of p) (offset_of p + held_offset R))
      (beside_held R p l.count η n log b o)

  module _ (L : Laws T) {M : Type 1} {𝓤 : Ura M} (𝓛 : Logic 𝓤) where
    -- what is held is taken apart
    pub held_out : (x : (HeldRow R).Denot) (b o : ℕ)
        → ent 𝓤 (sem 𝓛 (part_at (HeldRow R) full_share x b o)) (sem 𝓛 (Apart x b o))
    unfolding part_of
    held_out x b o = qed 𝓛 (‵ (part_at Fields full_share (x.limit, (x.value, tt)) b o) ∷ []) ∵
        use1 𝓛 (‵ (parts_at full_share parts zero (x.limit, (x.value, tt)) b o)
        ⊛ ‵ (fleft full_share held_type (raw_tys parts) b o)) (Struct-left 𝓛 full_share (held.the_type R).name parts
        (lawful_Lones 𝓛 parts (limit_laws.lawful 𝓛, ((param_laws 0 T L).lawful 𝓛, tt))) (x.limit, (x.value, tt)) b o) $
        split ! $ fsplit3 ! $
        -- [the limit; the value; nothing; what is left]
        fpair ! 0 3 $ fpair ! 1 0 $ keep ! (0 ∷ []) $ done !

    held_in : (x : (HeldRow R).Denot) (b o : ℕ)
        → ent 𝓤 (sem 𝓛 (Apart x b o)) (sem 𝓛 (part_at (HeldRow R) full_share x b o))
    unfolding part_of
    held_in x b o = qed 𝓛 (‵ (Apart x b o) ∷ []) ∵ fsplit3 ! $
        -- [the value; the limit; what is left]
        nothing_more ! $ fpair ! 1 0 $ fpair ! 1 0 $
        by ! (left_Struct 𝓛 full_share (held.the_type R).name parts (x.limit, (x.value, tt)) b o)

    -- with any value, that is the handle again
    pub value_back : (p : Ptr) (l : Limit) (η : BlockId) (n : ℕ) (log : List Entry) (b o : ℕ) → InBlock p
        → (v : R.Denot)
        → ent 𝓤 (sep 𝓤 (sem 𝓛 ((mem R).own_at v (block_of p) (offset_of p + held_offset R + value_offset)))
        (sem 𝓛 (Rest p l η n log b o))) (sem 𝓛 ((mem (HandleRow R)).own_at
        (handle_at R p (record { limit = l; value = v }) false η n []) b o))
    value_back p l η n log b o inb v =
        let x : (HeldRow R).Denot = record { limit = l; value = v } in
        let pb : ℕ = block_of p in let po : ℕ = offset_of p + held_offset R in
        qed 𝓛 (‵ (part_at R full_share v pb (po + value_offset)) ∷ ‵ (Rest p l η n log b o) ∷ []) ∵
        move ! (1 ∷ []) $ fsplit ! $
        -- [the limit and what is left; what is beside what is held; the value]
        fpair ! 2 0 $ use1 𝓛 (‵ (part_at (HeldRow R) full_share x pb po)) (held_in x pb po) $
        by ! (held_back 𝓛 R p η n log b o inb x)
