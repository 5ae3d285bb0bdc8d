-- Rules of scripts beside those of types.Kit.
use Rattle.std.proofs.Common.{ℕ, ◌-◌, List, [], ◌∷◌, ltb, if◌then◌else◌, ◌≡◌, subst}
use seplogic.Ra.Ura.{Ura}
use base.Logic.{ent, sep, via, id⊢}
use base.Fml.{Fml, Lft, Share, ftrue, fsep, flft, fdead, finv}
use base.Share
use types.Logic.{Logic, sem}
use types.Kit.{Item, ‵, ◌⊛◌, Goal, aim, Step, step, by, split, use1, fpack, ◌$◌, mean, ⋆, nth, del, sel, sel⊢, cut⊢}
use denote.Steps.{nothing as nothing_more}
use Rattle.handles.specs.Inside.Blocks.{fact}

-- what is written another way
pub same : {M : Type 1} {𝓤 : Ura M} (𝓛 : Logic 𝓤) {P Q : Fml} → P ≡ Q → ent 𝓤 (sem 𝓛 P) (sem 𝓛 Q)
same {𝓤 = 𝓤} 𝓛 {P} e = subst (λ (F : Fml). ent 𝓤 (sem 𝓛 P) (sem 𝓛 F)) e (id⊢ 𝓤 (sem 𝓛 P))

-- two entries as one
abbrev star : {M : Type 1} {𝓤 : Ura M} → Item 𝓤 → Item 𝓤 → Item 𝓤
star (‵ P) (‵ Q) = ‵ (fsep P Q)
star i j = i ⊛ j

-- the place of entry b once entry a is taken out
abbrev beside : ℕ → ℕ → ℕ
beside a b = if ltb a b then b - 1 else b

module _ {M : Type 1} {𝓤 : Ura M} (𝓛 : Logic 𝓤) where
  star-is : (i j : Item 𝓤) → ent 𝓤 (sep 𝓤 (mean 𝓛 i) (mean 𝓛 j)) (mean 𝓛 (star i j))
  star-is (‵ P) (‵ Q) = id⊢ 𝓤 (sep 𝓤 (sem 𝓛 P) (sem 𝓛 Q))
  star-is i j = id⊢ 𝓤 (sep 𝓤 (mean 𝓛 i) (mean 𝓛 j))

  module _ (Γ : List (Item 𝓤)) (a b : ℕ) where
    abbrev other : Item 𝓤
    other = nth 𝓛 (beside a b) (del 𝓛 a Γ)

    abbrev rest : List (Item 𝓤)
    rest = del 𝓛 (beside a b) (del 𝓛 a Γ)

    abbrev paired : List (Item 𝓤)
    paired = star (nth 𝓛 a Γ) other ∷ rest

module _ {M : Type 1} {𝓤 : Ura M} {𝓛 : Logic 𝓤} {K : Type 0} {Γ : List (Item 𝓤)} {G : Goal 𝓤 𝓛.H} where
  -- the entries at these places as one, at the head: the second follows the first
  pub fpair : K → (a b : ℕ) → Step K 𝓛 (paired 𝓛 Γ a b) G Γ G
  fpair t a b = let i : Item 𝓤 = nth 𝓛 a Γ in let j : Item 𝓤 = other 𝓛 Γ a b in let π : List ℕ = a ∷ beside a b ∷ [] in
      step (λ s. by t (via 𝓤 (⋆ 𝓛 (sel 𝓛 π Γ)) (sel⊢ 𝓛 π Γ)
      (cut⊢ 𝓛 (i ∷ j ∷ []) (star i j ∷ []) (rest 𝓛 Γ a b) (aim 𝓤 𝓛.H G) (star-is 𝓛 i j) s.prf)))

  -- what is proved, as an entry
  pub ffact : K → (φ : Type 0) → φ → Step K 𝓛 (‵ (fact φ) ∷ Γ) G Γ G
  ffact t φ p = step (λ s. nothing_more t $ fpack t φ (λ _. ftrue) p $ s)

  -- a share of a token as its halves
  pub flft_halves : K → {κ : Lft} {e : Share}
      → Step K 𝓛 (‵ (flft κ (Share.left e)) ∷ ‵ (flft κ (Share.right e)) ∷ Γ) G (‵ (flft κ e) ∷ Γ) G
  flft_halves t {κ} {e} = step (λ s. use1 𝓛 (‵ (flft κ (Share.left e)) ⊛ ‵ (flft κ (Share.right e)))
      (𝓛.lfts.lft_split κ e) $ split t $ s)

  -- that a lifetime is over, twice
  pub fdead_twice : K → {κ : Lft} → Step K 𝓛 (‵ (fdead κ) ∷ ‵ (fdead κ) ∷ Γ) G (‵ (fdead κ) ∷ Γ) G
  fdead_twice t {κ} = step (λ s. use1 𝓛 (‵ (fdead κ) ⊛ ‵ (fdead κ)) (𝓛.lfts.dead_dup κ) $ split t $ s)

  -- an invariant, twice
  pub finv_twice : K → {I : Fml} → Step K 𝓛 (‵ (finv I) ∷ ‵ (finv I) ∷ Γ) G (‵ (finv I) ∷ Γ) G
  finv_twice t {I} = step (λ s. use1 𝓛 (‵ (finv I) ⊛ ‵ (finv I)) (𝓛.invs.inv_dup I) $ split t $ s)
