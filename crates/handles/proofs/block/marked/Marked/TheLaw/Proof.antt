-- No `Marked` is owned, so a borrow of one gives anything. Assumes `Logic`.
use denote.Memory.{part_of}
use Rattle.handles.proofs.Walks.{sep, wand, never_e, fbor, ‵, raw, ◌⊛◌, later, ◌$◌, !, qed, keep, move, use1, use2}
use Rattle.handles.proofs.Walks.{split, fsplit, fpick, await, updating, now, done, RattleType, part_at, block_ptr}
use Rattle.handles.proofs.Walks.{Laws, marked_shares, marked_shares-ShrLaws}
use base.Fraction.{full_share}
use types.Logic.{sem, lfts}
use mathlib.Core.List.{[], ◌∷◌}
use Rattle.handles.specs.contracts.block.marked.Marked as C
use Rattle.handles.proofs.block.marked.Marked.TheLaw.Statement.{statement}

pub shares : (T : RattleType) (L : Laws T) → statement T L
unfolding part_of
shares T L = record {
  shr_laws = λ d b o. marked_shares-ShrLaws T L (block_ptr b o) d;
  shares = λ M 𝓤 𝓛 d κ ts b o inc sp.
      let P = part_at (C.the_written T) full_share d b o in let Q = marked_shares T (block_ptr b o) d κ in
      qed 𝓛 (‵ (fbor κ P) ∷ raw (lfts 𝓛 ts) ∷ []) {P = 𝓛.H.⇛ (sep 𝓤 (sem 𝓛 Q) (lfts 𝓛 ts))} (
      updating ! $ use2 𝓛 (later (‵ P ⊛ raw (wand 𝓤 (sem 𝓛 P) (𝓛.H.⇛ (sep 𝓤 (𝓛.A.bor κ P) (lfts 𝓛 ts))))))
      (𝓛.more.bor_acc_by κ ts P sp) $ await ! tt $ split ! $ fpick ! (λ vs. fsplit ! $ move ! (1 ∷ []) $
      use1 𝓛 (‵ Q ⊛ raw (lfts 𝓛 ts)) (never_e 𝓤 _) $ split ! $ keep ! (0 ∷ 1 ∷ []) $ now ! $ done !));
}
