-- What a borrow of a counted handle holds, and how the handle comes back. Assumes `Logic`.
use Rattle.std.proofs.Common.{ℕ, ◌+◌, Bool, List, [], ◌∷◌}
use seplogic.Ra.Ura.{Ura}
use base.Fraction.{full_share}
use base.Logic.{ent, sep, id⊢, upd_i, apply∗, wand}
use base.Share
use base.Fml.{Lft, Share, Fml, ftrue, fsep, fseps, fex, fwand, fupd, fdead, fbor, flft, finv}
use contract.BorrowLft.{meet_⊑_left}
use ghost.Rules.{span, thinned}
use types.Logic.{Logic, sem, lfts}
use types.Kit.{‵, raw, ◌⊛◌, some as exists, later, ◌$◌, ◌∵◌, !, qed, by, move, keep, use1, use2, split, split3}
use types.Kit.{fsplit, fsplit3, fjoin3, fpick, fpack, pick, assume, suffices, group, await, updating, now, done}
use Rattle.handles.specs.Inside.Rows.{pass}
use Rattle.handles.proofs.Blocks.Rows.{left_over, cut_pass, pass_whole}
use Rattle.handles.proofs.Blocks.New.{Held}
use Rattle.handles.proofs.Scripts.{fpair, flft_halves, finv_twice}
use types.Tokens.{bor_open, obor_alter, bor_fracture, one_token}
use denote.Sharing.{ShrLaws, some}
use denote.SharingLaws.{contraction}
use denote.Moves.{moves_from}
use denote.Steps.{nothing as nothing_more}
use denote.Struct.Lending.{Lends}
use Rattle.handles.specs.Inside.Blocks.{HeldRow, BlockId, lent_share, Names, entitled, counted_shares, block_rule}
use Rattle.handles.specs.Inside.Blocks.{held_and_block, stamp, shown}
use denote.RattleType.{RattleType}
use denote.RawPtr.{Ptr, block_of, count_of as offset_of}

module _ (R : RattleType) (p : Ptr) (x : (HeldRow R).Denot) (η : BlockId) (n : ℕ) where
  -- what a `&` to the handle has
  abbrev pub Shared : Names → Lft → Fml
  Shared i = counted_shares (held_and_block R p x) (stamp p) x.limit.count (block_of p) (offset_of p + 0) η i n
      (shown R p x)

  module _ (laws : ShrLaws (shown R p x)) {M : Type 1} {𝓤 : Ura M} (𝓛 : Logic 𝓤) where
    open 𝓛 use {H, A}

    module _ (κ : Lft) where
      abbrev Owns : Fml
      Owns = fex Names (Held R p x η n)

      abbrev Lent : Fml
      Lent = some Names Shared κ

      -- what is lent of the handle's share e of the token, and of its pass
      abbrev parts : Names → Share → List Fml
      parts i e = flft (i.shared ∷ []) (Share.left e) ∷ lent_share i η n (Share.right e) ∷ []

      -- the way back from it
      abbrev Back : Names → Share → Fml
      Back i e = fwand (fsep (fdead κ) (fseps (parts i e))) (fupd Owns)

      -- a borrow that lends the token and the pass out gets the handle back with them
      comes_back : (i : Names) (e : Share) → ent 𝓤 (sep 𝓤 (sem 𝓛 (fex Bool (entitled i e)))
          (sep 𝓤 (sem 𝓛 (finv (block_rule R p x η i))) (sep 𝓤 (sem 𝓛 (shown R p x (i.shared ∷ [])))
          (sem 𝓛 (left_over 𝓛 η.living n (Share.right e)))))) (sem 𝓛 (Back i e))
      unfolding fseps
      comes_back i e = let a : Lft = i.shared ∷ [] in
          let Rest : Fml = left_over 𝓛 η.living n (Share.right e) in
          let Lent : Fml = lent_share i η n (Share.right e) in
          qed 𝓛 (‵ (fex Bool (entitled i e)) ∷ ‵ (finv (block_rule R p x η i)) ∷ ‵ (shown R p x a) ∷ ‵ Rest ∷ []) ∵
          assume ! (‵ (fsep (fdead κ) (fsep (flft a (Share.left e)) (fsep Lent ftrue)))) $
          suffices ! (sem 𝓛 Owns) (upd_i 𝓤 (sem 𝓛 Owns)) $ fsplit3 ! $ move ! (2 ∷ []) $ fsplit ! $ fsplit ! $
          -- [half of the token's share; the pass's; nothing; that κ is over; the other half; the entitlement; the
          -- rule; the sharing; what was left]
          move ! (4 ∷ 0 ∷ []) $ use2 𝓛 (‵ (flft a e)) (𝓛.lfts.lft_join a e) $ fpair ! 4 0 $
          fpack ! Share (λ e. fsep (fex Bool (entitled i e)) (flft a e)) e $ move ! (1 ∷ 6 ∷ []) $
          use2 𝓛 (‵ (pass η.living n full_share)) (pass_whole 𝓛 η.living n (Share.right e)) $
          fpair ! 1 0 $ keep ! (0 ∷ 3 ∷ 4 ∷ []) $ fjoin3 ! $ fpack ! Names (Held R p x η n) i $ done !

      by_token : (q : Share) → ent 𝓤 (sep 𝓤 (A.bor κ Owns) (A.lft κ q)) (H.⇛ (sep 𝓤 (sem 𝓛 Lent)
          (A.lft κ q)))
      unfolding fseps
      by_token q = qed 𝓛 (‵ (fbor κ Owns) ∷ ‵ (flft κ q) ∷ []) ∵ updating ! $ bor_open ! tt $
          move ! (1 ∷ []) $ fpick ! (λ i. let a : Lft = i.shared ∷ [] in fsplit3 ! $ fsplit ! $ fpick ! (λ e. fsplit ! $
          -- [the entitlement; the token's share; the pass; the rule; the sharing; the open borrow]
          move ! (2 ∷ []) $ cut_pass 𝓛 η.living ! n (Share.right e) $ move ! (3 ∷ []) $ flft_halves ! $
          fpair ! 1 2 $ move ! (3 ∷ 0 ∷ 4 ∷ 5 ∷ 6 ∷ 2 ∷ 1 ∷ []) $
          -- [the entitlement; what is lent; the rule; the sharing; the open borrow; what is left of the pass; half of
          -- the token's share]
          move ! (2 ∷ []) $ finv_twice ! $ move ! (4 ∷ []) $
          use1 𝓛 (‵ (shown R p x a) ⊛ ‵ (shown R p x a)) (contraction 𝓛 (shown R p x) laws a) $ split ! $
          move ! (4 ∷ 2 ∷ 0 ∷ 7 ∷ []) $ group ! 4 $ use1 𝓛 (‵ (Back i e)) (comes_back i e) $
          -- [the way back; the sharing; the rule; what is lent; the open borrow; half of the token's share]
          nothing_more ! $ fpair ! 4 0 $ fpair ! 5 0 $ move ! (4 ∷ 0 ∷ 1 ∷ []) $ obor_alter ! tt (parts i e) $
          use1 𝓛 (‵ (fbor κ (flft a (Share.left e))) ⊛ ‵ (fbor κ (lent_share i η n (Share.right e))) ⊛ ‵ ftrue)
          (id⊢ 𝓤 _) $
          split3 ! $ bor_fracture ! tt (λ r. flft a r) (Share.left e) $ move ! (1 ∷ []) $
          bor_fracture ! tt (lent_share i η n) (Share.right e) $
          -- [the way to a share; to the token; nothing; the token; the sharing; the rule]
          fpair ! 5 4 $ move ! (2 ∷ 1 ∷ 0 ∷ []) $ fjoin3 ! $ fpack ! Names (λ i. Shared i κ) i $
          now ! $ keep ! (0 ∷ 2 ∷ []) $ done !))

    -- a `&` to a counted handle has a share of the token for as long as it lives
    pub Lends-counted : (l : Lft) → Lends 𝓛 (fex Names (Held R p x η n)) (some Names Shared) l
    Lends-counted l κ ts inc sp = qed 𝓛 (‵ (fbor κ (Owns κ)) ∷ raw (lfts 𝓛 ts) ∷ []) ∵ updating ! $
        move ! (1 ∷ []) $ use1 𝓛 (exists (λ (q : Share). ‵ (flft (span ts) q) ⊛ raw (wand 𝓤 (A.lft (span ts) q)
        (lfts 𝓛 ts)))) (one_token 𝓛 ts) $ pick ! (λ q. split ! $
        use1 𝓛 (‵ (flft κ (thinned κ q)) ⊛ raw (wand 𝓤 (A.lft κ (thinned κ q)) (A.lft (span ts) q)))
        (𝓛.lfts.lft-incl (span ts) κ q sp) $ split ! $ move ! (3 ∷ 0 ∷ []) $
        use2 𝓛 (later (‵ (Lent κ) ⊛ ‵ (flft κ (thinned κ q)))) (by_token κ (thinned κ q)) $
        await ! tt $ split ! $ move ! (1 ∷ 2 ∷ []) $
        use2 𝓛 (‵ (flft (span ts) q)) (apply∗ 𝓤 (A.lft κ (thinned κ q)) (A.lft (span ts) q)) $
        move ! (0 ∷ 2 ∷ []) $ use2 𝓛 (raw (lfts 𝓛 ts)) (apply∗ 𝓤 (A.lft (span ts) q) (lfts 𝓛 ts)) $
        now ! $ move ! (1 ∷ 0 ∷ []) $ done !)

    -- what a `&` to a handle sees of the value
    pub sees : (κ : Lft) → ent 𝓤 (sem 𝓛 (some Names Shared κ)) (sem 𝓛 (shown R p x κ))
    sees κ = qed 𝓛 (‵ (some Names Shared κ) ∷ []) ∵ fpick ! (λ i. fsplit3 ! $ move ! (2 ∷ []) $ fsplit ! $
        keep ! (2 ∷ 1 ∷ []) $ by ! (moves_from 𝓛 (shown R p x) laws κ (i.shared ∷ []) (i.shared ∷ [])
        (meet_⊑_left (i.shared ∷ []) κ)))
