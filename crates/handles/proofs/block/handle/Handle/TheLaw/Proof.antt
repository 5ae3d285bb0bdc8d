-- A `&` to a handle has a share of the token of its block's sharing, or sees what the block holds if it is known to
-- be the only one. Assumes `Logic`.
use Rattle.handles.proofs.Walks.{Incl-trans, meet_⊑_left, RattleType, Laws, of_Lends, Lends-both, Lends-said, placed}
use Rattle.handles.proofs.Walks.{owned_as, shared_as, handle_shares-ShrLaws, Lends-owned}
use mathlib.Core.List.{[], ◌++◌}
use denote.Sharing.{said}
use denote.Param.Shared.{copy_shared}
use denote.Struct.Field.{RawPtr-field}
use denote.Struct.Laws.{RawPtr-copy}
use Rattle.handles.specs.contracts.block.handle.Handle as C
use Rattle.handles.proofs.block.handle.Handle.TheLaw.Statement.{statement}

pub shares : (T : RattleType) (L : Laws T) → statement T L
shares T L = of_Lends (C.struct T) (C.the_codes T.Denot T.coded) (C.the_heap T) (C.the_lent T)
    (λ d p. handle_shares-ShrLaws T L d.block d.held d.id d.number d.sole)
    (copy_shared RawPtr-field RawPtr-copy, tt) (λ M 𝓤 𝓛 d p.
    let q = d.block in let x = d.held in let l = (C.the_row T).lives in
    Lends-both 𝓛 (placed q) (owned_as T q x d.id d.number d.sole d.log) (said (placed q))
    (shared_as T q x d.id d.number d.sole) l
    (Lends-said 𝓛 (placed q) (λ _. tt) l) (Lends-owned T L 𝓛 q x d.id d.number d.sole d.log l
    (Incl-trans (meet_⊑_left (T.lives ++ []) []) (meet_⊑_left T.lives []))))
