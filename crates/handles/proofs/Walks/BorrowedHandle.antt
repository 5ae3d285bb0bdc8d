-- One atomic step through a `&` to a handle: how a walk reads the pointer, and how it gives back what it borrowed for
-- the step.
-- Assumes `Logic`.
use Rattle.std.proofs.Common.{◌≡◌, ℕ, ◌+◌, Bool, false, List, [], ◌∷◌, refl, ap, ◌∙◌}
use seplogic.Ra.Ura.{Ura}
use mir.Val.{Val}
use base.Logic.{id⊢, SProp, ent, guard, sep}
use base.Fml.{Lft, Share, Fml, flft, fobor, fhide, finv, fsep, ftrue}
use base.Share
use types.Logic.{Logic, sem}
use types.Kit.{given, learn, Item, Goal, Seq, Soaks, Step, step, ‵, ◌⊛◌, later, ◌$◌, ◌∵◌, !, qed, fjoin, frame, done}
use types.Kit.{move, drop, split, fsplit, fsplit3, fpick, rewrite, use1, use2, await, raw, join, ⋆, mean}
use types.Tokens.{obor_close, shr_bor-open}
use ghost.Rules.{Halves}
use Rattle.handles.proofs.Blocks.Rows.{pass_halves, pass_joins}
use Rattle.handles.specs.Inside.Rows.{pass}
use denote.RattleType.{RattleType}
use denote.Laws.{Is, shows}
use denote.Memory.{hidden_shr, cell_at, part_at}
use denote.Opens.{Shut, unhide}
use denote.RawPtr.{Ptr, InBlock, block_ptr, block_of, count_of as offset_of, at_block}
use denote.Steps.{looks, peeks, nothing as nothing_more}
use Rattle.counting_word.specs.CountingWord.{IsWithin}
use Rattle.handles.proofs.Steps.Reads.{reported}
use Rattle.handles.specs.Inside.Blocks.{reached, adds, HeldRow, Names, BlockId, block_rule, shown, lent_share}
use Rattle.handles.specs.Inside.Blocks.{handle_shares, permit_owns}
use Rattle.counting_word.specs.Rights.{Right}
use Rattle.counting_word.specs.WordSteps.{WordStep}
use Rattle.counting_word.specs.Logs.{Entry, made}
use Rattle.counting_word.specs.Tallies.{Adds, newest}
use Rattle.handles.specs.contracts.block.handle.Handle as handle_type
use Rattle.handles.proofs.Walks.Fields.{one_word, words_are, words_open, HandleRow, HandleWords, handle_at}
use Rattle.handles.proofs.Walks.Granted.{NoBlock, permit_shown}
use Rattle.handles.proofs.Steps.Shared.{block_at, and_logged, grants}

-- what a `&` has of a handle goes in halves
module _ {M : Type 1} {𝓤 : Ura M} (𝓛 : Logic 𝓤) (i : Names) (η : BlockId) (n : ℕ) where
  open 𝓛 use {H, A}

  -- it is cut and joined
  pub lent_halves : Halves 𝓤 H A (lent_share i η n)
  lent_halves = record {
    cut = λ q. qed 𝓛 (‵ (lent_share i η n q) ∷ []) ∵ fsplit ! $
        use1 𝓛 (‵ (flft (i.shared ∷ []) (Share.left q)) ⊛ ‵ (flft (i.shared ∷ []) (Share.right q)))
        (𝓛.lfts.lft_split (i.shared ∷ []) q) $ split ! $ move ! (2 ∷ []) $
        use1 𝓛 (‵ (pass η.living n (Share.left q)) ⊛ ‵ (pass η.living n (Share.right q)))
        (pass_halves 𝓛 η.living n q) $ split ! $ move ! (2 ∷ 0 ∷ []) $ fjoin ! $ frame ! $
        move ! (1 ∷ 0 ∷ []) $ fjoin ! $ done !;
    join = λ q. qed 𝓛 (‵ (lent_share i η n (Share.left q)) ∷ ‵ (lent_share i η n (Share.right q)) ∷ [])
        ∵ fsplit ! $ move ! (2 ∷ []) $ fsplit ! $ move ! (2 ∷ 0 ∷ []) $
        use2 𝓛 (‵ (flft (i.shared ∷ []) q)) (𝓛.lfts.lft_join (i.shared ∷ []) q) $ move ! (2 ∷ 1 ∷ []) $
        use2 𝓛 (‵ (pass η.living n q)) (pass_joins 𝓛 η.living n q) $ move ! (1 ∷ 0 ∷ []) $ fjoin ! $ done !;
  }

-- the pointer of a handle, as its block and its offset
abbrev pub parted : Ptr → Ptr
parted p = block_ptr (block_of p) (offset_of p)

-- where its word lies
abbrev pub word_at : Ptr → Ptr
word_at p = block_ptr (block_of p) (offset_of p + 0)

module _ (R : RattleType) (p : Ptr)
    {M : Type 1} {𝓤 : Ura M} {𝓛 : Logic 𝓤} {K : Type 0} {Γ : List (Item 𝓤)} {G : Goal 𝓤 𝓛.H} where
  -- The one word of a handle lies open; `shuts` gives the token back.
  -- [the word; what it says; the token's way back]
  pub opens_word : K → Soaks G → InBlock p → {κ : Lft} {q : Share} (b o : ℕ)
      → ((r : Share) → Seq K 𝓛 (‵ (cell_at r (HandleWords R).mir (one_word (parted p) ∷ []) b o)
      ∷ ‵ ((HandleWords R).own_val (p, tt) (one_word (parted p) ∷ []))
      ∷ Shut 𝓛 κ q (part_at (HandleWords R) r (p, tt) b o) ∷ Γ) G)
      → Seq K 𝓛 (‵ (hidden_shr (HandleWords R) κ (p, tt) b o) ∷ ‵ (flft κ q) ∷ Γ) G
  opens_word t soaks inb b o k = let D : RattleType = HandleWords R in let ν = (handle_type.the_type R).name in
      looks t soaks D (words_open ν (R ∷ []) 𝓛) (p, tt) b o (λ r vs. move t (3 ∷ []) $ drop t $ move t (1 ∷ []) $
      peeks t D (Is D) (shows 𝓛 D) (p, tt) vs (λ is_so. let e : vs ≡ one_word (parted p)
      ∷ [] = words_are ν (R ∷ []) p vs is_so ∙ ap (λ (z : Ptr). one_word z ∷ []) (at_block p inb) in
      rewrite t 0 (λ (ws : List Val). ‵ (D.own_val (p, tt) ws)) e refl $
      rewrite t 1 (λ (ws : List Val). ‵ (cell_at r D.mir ws b o)) e refl $ move t (1 ∷ []) $ k r))

module _ {M : Type 1} {𝓤 : Ura M} {𝓛 : Logic 𝓤} {K : Type 0} {Γ : List (Item 𝓤)} {G : Goal 𝓤 𝓛.H}
  where
    -- The borrow closes again.
    pub closes_borrow : K → Soaks G → {κ : Lft} {q : Share} {P : Fml} → Step K 𝓛 (‵ (flft κ q) ∷ Γ)
        G (‵ P ∷ ‵ (flft κ (Share.right q)) ∷ ‵ (fobor κ (Share.left q) P) ∷ Γ) G
    closes_borrow t soaks {κ} {q} = step (λ s. move t (2 ∷ 0 ∷ []) $ obor_close t soaks $ drop t $
        use2 𝓛 (‵ (flft κ q)) (𝓛.lfts.lft_join κ q) $ s)

    -- something is made under a rule, which stays
    pub under_rule : K → {I P : Fml} (k : Item 𝓤) → ent 𝓤 (sep 𝓤 (sem 𝓛 (finv I)) (sem 𝓛 P)) (mean 𝓛 k)
        → Step K 𝓛 (k ∷ ‵ (finv I) ∷ Γ) G (‵ P ∷ ‵ (finv I) ∷ Γ) G
    under_rule t {I} k h = step (λ s. move t (1 ∷ []) $ use1 𝓛 (‵ (finv I) ⊛ ‵ (finv I)) (𝓛.invs.inv_dup I) $
        split t $ move t (0 ∷ 2 ∷ []) $ use2 𝓛 k h $ s)

    -- a step is asked for, by what its maker puts in
    pub asks_with : K → {I P : Fml} {X : SProp 𝓤} → ent 𝓤 (sep 𝓤 (sem 𝓛 (finv I)) (sem 𝓛 P)) X
        → Step K 𝓛 (raw X ∷ ‵ (finv I) ∷ Γ) G (‵ P ∷ ‵ (finv I) ∷ Γ) G
    asks_with t {X = X} h = under_rule t (raw X) h

    -- the same with nothing known of the log
    pub asks_new : K → {I P : Fml} {X : SProp 𝓤} → ent 𝓤 (sep 𝓤 (sem 𝓛 (finv I)) (sem 𝓛 (fsep ftrue P))) X
        → Step K 𝓛 (raw X ∷ ‵ (finv I) ∷ Γ) G (‵ P ∷ ‵ (finv I) ∷ Γ) G
    asks_new t h = step (λ s. nothing_more t $ fjoin t $ asks_with t h $ s)

module _ (R : RattleType) (p : Ptr) (x : (HeldRow R).Denot)
    (η : BlockId) (n : ℕ) {M : Type 1} {𝓤 : Ura M} {𝓛 : Logic 𝓤} {K : Type 0} {Γ : List (Item 𝓤)} {G : Goal 𝓤
    𝓛.H} where
  -- A counted handle's block has a name for the sharing, of whose token there is a share while the borrow of the `&`
  -- is open.
  -- [the word; what it says; its token's way back; the open borrow; the share; the rule; the sharing]
  pub opens_handle : K → Soaks G → {κ : Lft} {q : Share} (sole : Bool) (log : List Entry) → sole ≡ false → (b o : ℕ)
      → ((inb : InBlock p) (i : Names) (e r : Share)
      → Seq K 𝓛 (‵ (cell_at r (HandleWords R).mir (one_word (parted p) ∷ []) b o)
      ∷ ‵ ((HandleWords R).own_val (p, tt) (one_word (parted p) ∷ [])) ∷ Shut 𝓛 κ (Share.right q)
      (part_at (HandleWords R) r (p, tt) b o)
      ∷ ‵ (fobor κ (Share.left q) (lent_share i η n e)) ∷ ‵ (lent_share i η n e) ∷ ‵ (finv (block_rule R p x η i))
      ∷ ‵ (shown R p x (i.shared ∷ [])) ∷ Γ) G)
      → Seq K 𝓛 (‵ (hidden_shr (HandleRow R) κ (handle_at R p x sole η n log) b o) ∷ ‵ (flft κ q)
      ∷ Γ) G
  opens_handle t soaks {κ} {q} sole log shared b o k = use1 𝓛 (‵ (hidden_shr (HandleWords R) κ (p, tt) b o)
      ⊛ ‵ (fhide (handle_shares R p x η n sole κ))) (id⊢ 𝓤 _) $ split t $ move t (1 ∷ []) $ unhide t $
      rewrite t 0 (λ (z : Bool). ‵ (handle_shares R p x η n z κ)) shared refl $ fsplit t $
      fpick t (λ inb. drop t $ fpick t (λ i. fsplit3 t $ drop t $ move t (1 ∷ []) $ fsplit t $ move t (2 ∷ []) $
      -- [what opens the share; the rule; the sharing; the word; the token]
      move t (4 ∷ []) $ use1 𝓛 (‵ (flft κ (Share.left q)) ⊛ ‵ (flft κ (Share.right q))) (𝓛.lfts.lft_split κ q) $
      split t $ move t (2 ∷ 0 ∷ []) $ shr_bor-open t soaks (lent_halves 𝓛 i η n) (λ e.
      -- [the open borrow; the share; half of the token; the rule; the sharing; the word]
      move t (5 ∷ 2 ∷ []) $ opens_word R p t soaks inb b o (λ r. k inb i e r))))

  -- a permit, of the handle that made the step or of the one that was born, by what it is made of
  pub learns_permit : K → Soaks G
      → (i : Names) (m : ℕ) (r : Right) (old log : List Entry) (e : Entry) (w : ℕ) {j : Item 𝓤}
      → ent 𝓤 (⋆ 𝓛 (‵ (fsep (adds x.limit.count η old e w log) (grants (block_at R p x η n i) r log)) ∷ j ∷ []))
      (𝓛.H.⇛ (guard 𝓤 (Adds x.limit.count old e w log) (sem 𝓛 (permit_owns R p x η m r log))))
      → (Adds x.limit.count old e w log → Seq K 𝓛 (‵ (permit_owns R p x η m r log) ∷ Γ) G)
      → Seq K 𝓛 (‵ (fsep (adds x.limit.count η old e w log) (grants (block_at R p x η n i) r log)) ∷ j ∷ Γ) G
  learns_permit t soaks i m r old log e w made k = use2 𝓛 (later (given (Adds x.limit.count old e w log)
      (‵ (permit_owns R p x η m r log)))) made $ await t soaks $ learn t k

-- what is beside a step through a `&`: the rule, half of the token, the open borrow, the sharing
abbrev pub left_open : (R : RattleType) (p : Ptr) (x : (HeldRow R).Denot) (η : BlockId) (n : ℕ) {M : Type 1} {𝓤 : Ura M}
    → Lft → Share → Names → Share → List (Item 𝓤) → List (Item 𝓤)
left_open R p x η n κ q i e Γ = ‵ (finv (block_rule R p x η i)) ∷ ‵ (flft κ (Share.right q))
    ∷ ‵ (fobor κ (Share.left q) (lent_share i η n e)) ∷ ‵ (shown R p x (i.shared ∷ [])) ∷ Γ

module _ (R : RattleType) (p : Ptr) (x : (HeldRow R).Denot)
    (η : BlockId) (n : ℕ) {M : Type 1} {𝓤 : Ura M} {𝓛 : Logic 𝓤} {K : Type 0} {Γ : List (Item 𝓤)} {G : Goal 𝓤
    𝓛.H} where
  -- What a step through a `&` has left: that it is in the log, and the token again.
  pub logs : K → Soaks G → {κ : Lft} {q : Share} (i : Names) (e : Share) (old : List Entry) (what : WordStep)
      (w : ℕ)
      → ((log : List Entry) → Adds x.limit.count old (made n what) w log
      → Seq K 𝓛 (‵ (reached η log) ∷ ‵ (flft κ q) ∷ Γ) G)
      → Seq K 𝓛 (‵ (and_logged (block_at R p x η n i) old (made n what) (λ _ _. lent_share i η n e) w)
      ∷ left_open R p x η n κ q i e Γ) G
  logs t soaks i e old what w k = fpick t (λ log. fsplit t $ fsplit t $ move t (1 ∷ []) $ fpick t (λ adds. drop t $
      -- [the log; the share; the rule; half of the token; the open borrow; the sharing]
      move t (1 ∷ 3 ∷ 4 ∷ []) $ closes_borrow t soaks $ move t (2 ∷ []) $ drop t $ move t (2 ∷ []) $ drop t $
      move t (1 ∷ 0 ∷ []) $ k log adds))

  -- the same with the permit of a step that reported the word
  pub reports : K → Soaks G → {κ : Lft} {q : Share} → InBlock p → (i : Names) (e : Share) (r : Right) → NoBlock r
      → (old : List Entry) (what : WordStep) (w : ℕ)
      → (IsWithin w x.limit.count → (log : List Entry) → Adds x.limit.count old (made n what) w log
      → Seq K 𝓛 (‵ (permit_owns R p x η (newest log) r log) ∷ ‵ (flft κ q) ∷ Γ) G)
      → Seq K 𝓛 (‵ (and_logged (block_at R p x η n i) old (made n what)
      (λ w log. reported (block_at R p x η n i) e w r log) w)
      ∷ left_open R p x η n κ q i e Γ) G
  reports t soaks {κ} {q} inb i e r none old what w k = fpick t (λ log. fsplit t $ move t (1 ∷ []) $ fsplit3 t $
      -- [the share; that it is within; the right; that it is in the log; the rule; half of the token; the open borrow;
      -- the sharing]
      move t (1 ∷ []) $ fpick t (λ within. drop t $ move t (0 ∷ 4 ∷ 5 ∷ []) $ closes_borrow t soaks $
      -- [the token; the right; that it is in the log; the rule; the sharing]
      move t (2 ∷ 1 ∷ []) $ fjoin t $ move t (0 ∷ 2 ∷ 3 ∷ []) $
      move t (1 ∷ 2 ∷ []) $ join t $ move t (1 ∷ 0 ∷ []) $ learns_permit R p x η n t soaks i (newest log) r old log
      (made n what) w (permit_shown 𝓛 R p x η n inb i old (made n what) w r log none) (λ adds. k within log adds)))
