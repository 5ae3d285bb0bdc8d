-- The code of one atomic step on the word of a block, which five functions share but for the step, for what they know
-- of the block, and for the second part of their result. Assumes `Logic`.
use Rattle.std.proofs.Common.{◌≡◌, ℕ, ◌+◌, ◌-◌, ◌^◌, ◌<◌, List, [], ◌∷◌, ◌++◌, refl, sym, ap, ◌∙◌, subst, lit<, w64}
use seplogic.Ra.Ura.{Ura}
use lib.Dec.{T}
use mathlib.Core.Option.{some}
use Prim.Native.Nat.{zero, suc}
use mir.Syntax.{Callee, Ty, ty_ptr, ty_int, Body, Opd as Operand, w8, seq, block, assign, place, rv_opd, copy, deref}
use mir.Syntax.{field, addr_of, aggregate, int, call, return, Local, local, value_local}
use mir.Val.{Val, vint, vptr, vstruct, vcons, vnil, has_ty, WT}
use base.Logic.{SProp, ent, via, mono_r}
use base.Fml.{Fml}
use prog.Memory.{field_of}
use prog.Wp.{Calls, Loops}
use sound.WpLaws.{FmC}
use denote.Param.{layout}
use types.Logic.{Logic}
use types.Kit.{Go, Item, Goal, Post, Seq, Sq, Step, step, mean, ⋆, push, pop, ⊢++, ++⊢, raw, ‵, runs, at_ret, prop, ! }
use types.Kit.{◌$◌, aim}
use types.Run.{stop, fld, addr, lit, of_opd, no_more, and_then, first, blocks, exec, Calls-last, returns, Opds, Rv}
use types.ByLocal.{env, holding, free_all, look_at, get, through, sets, lands_last}
use types.Part.{agg}
use Rattle.core.specs.contracts.atomic.Ordering as Order
use Rattle.atomic_table.proofs.Calls.{found, finds, seq_cst}

abbrev size : {X : Type 2} → List X → ℕ
size [] = 0
size (x ∷ xs) = size xs + 1

abbrev begin : {X : Type 2} → ℕ → List X → List X
begin n [] = []
begin zero (x ∷ xs) = []
begin (suc n) (x ∷ xs) = x ∷ begin n xs

abbrev rest : {X : Type 2} → ℕ → List X → List X
rest n [] = []
rest zero (x ∷ xs) = x ∷ xs
rest (suc n) (x ∷ xs) = rest n xs

cut_at : {X : Type 2} (n : ℕ) (xs : List X) → xs ≡ begin n xs ++ rest n xs
cut_at n [] = refl
cut_at zero (x ∷ xs) = refl
cut_at (suc n) (x ∷ xs) = ap (λ ys. x ∷ ys) (cut_at n xs)

-- what stands before the sixteen entries of eight locals, and these
abbrev pub before : {X : Type 2} → List X → List X
before Γ = begin (size Γ - 16) Γ

abbrev pub behind : {X : Type 2} → List X → List X
behind Γ = rest (size Γ - 16) Γ

-- the locals: the result, the parameter, the pointer, what was found, twice, the word's address, the ordering and what
-- is made last
abbrev pub locals : Ty → Ty → Ty → List Local
locals ρ α ω = local ρ value_local ∷ local α value_local ∷ local ty_ptr value_local ∷ local (ty_int w64) value_local
    ∷ local (ty_int w64) value_local ∷ local ty_ptr value_local ∷ local (layout Order.the_row) value_local
    ∷ local ω value_local ∷ []

-- the same, each at its block
abbrev pub eight : (ℕ → ℕ) → Ty → Ty → Ty → List (Ty × ℕ)
eight l ρ α ω = env (locals ρ α ω) l

module _ {M : Type 1} {𝓤 : Ura M} (𝓛 : Logic 𝓤) (l : ℕ → ℕ) (ρ α ω : Ty) (v : Val) (b o : ℕ) where
  -- what they hold once the pointer is read
  abbrev pub pointed : List (Item 𝓤)
  pointed = holding 𝓛 (eight l ρ α ω) ((1, v) ∷ (2, vptr b o) ∷ [])

  -- what they hold once the word is found
  abbrev pub answered : ℕ → List (Item 𝓤)
  answered w = holding 𝓛 (eight l ρ α ω) ((1, v) ∷ (2, vptr b o) ∷ (3, vint w64 w) ∷ (4, vint w64 w)
      ∷ (5, vptr b (o + 0)) ∷ (6, seq_cst) ∷ [])

module _ {M : Type 1} {𝓤 : Ura M} {𝓛 : Logic 𝓤} {K : Type 0} where
  open 𝓛 use {H}

  -- all that stands between the first entry and the locals is one entry
  packed : {i : Item 𝓤} {Γ : List (Item 𝓤)} (Δ : List (Item 𝓤)) → behind Γ ≡ Δ → {G : Goal 𝓤 H}
      → Sq 𝓛 (i ∷ raw (⋆ 𝓛 (before Γ)) ∷ Δ) G → Seq K 𝓛 (i ∷ Γ) G
  packed {i} {Γ} Δ is {G} s = record {
    prf = subst (λ (Δ' : List (Item 𝓤)). ent 𝓤 (⋆ 𝓛 (i ∷ Δ')) (aim 𝓤 H G))
        (sym (cut_at (size Γ - 16) Γ ∙ ap (λ Δ'. before Γ ++ Δ') is)) (via 𝓤 _ (pop 𝓛 i (before Γ ++ Δ))
        (via 𝓤 _ (mono_r 𝓤 (mean 𝓛 i) (via 𝓤 _ (⊢++ 𝓛 (before Γ) Δ) (push 𝓛 (raw (⋆ 𝓛 (before Γ))) Δ)))
        (via 𝓤 _ (push 𝓛 i (raw (⋆ 𝓛 (before Γ)) ∷ Δ)) s.prf)));
  }

  -- and is many again
  unpacked : {i : Item 𝓤} (Δ Γ : List (Item 𝓤)) {G : Goal 𝓤 H} → Seq K 𝓛 (i ∷ (Δ ++ Γ)) G → Sq 𝓛 (i ∷ raw (⋆ 𝓛 Δ) ∷ Γ) G
  unpacked {i} Δ Γ s = record {
    prf = via 𝓤 _ (pop 𝓛 i (raw (⋆ 𝓛 Δ) ∷ Γ)) (via 𝓤 _ (mono_r 𝓤 (mean 𝓛 i)
        (via 𝓤 _ (pop 𝓛 (raw (⋆ 𝓛 Δ)) Γ) (++⊢ 𝓛 Δ Γ))) (via 𝓤 _ (push 𝓛 i (Δ ++ Γ)) s.prf));
  }

  module _ (l : ℕ → ℕ) where
    -- the step on the word, as its maker may take it
    pub asks_word : K → {ρ α ω τ : Ty} {v : Val} {b o : ℕ} {C : Calls 𝓤 H} {Λ : Loops 𝓤 H} {q : Post 𝓤 H} {key : Callee}
        {xs : List Operand} {vs : List Val} {then : Body} {Γ : List (Item 𝓤)} → FmC 𝓤 H 𝓛.laws C → (aft : ℕ → Fml)
        → field_of τ 0 ≡ some (ty_int w64, 0) → behind Γ ≡ pointed 𝓛 l ρ α ω v b o
        → ((Δ : List (Item 𝓤)) → Opds (Go {0}) 𝓛 Δ (eight l ρ α ω) (copy (place 6 []) ∷ []) (seq_cst ∷ [])
        → Opds (Go {0}) 𝓛 Δ (eight l ρ α ω) xs vs)
        → ((w : ℕ) → w < 2 ^ 64 → Seq K 𝓛 (‵ (aft w) ∷ (before Γ ++ answered 𝓛 l ρ α ω v b o w))
        (runs C Λ (eight l ρ α ω) then q))
        → Seq K 𝓛 (raw (C key (vptr b (o + 0) ∷ vs) (λ u. mean 𝓛 (found aft u))) ∷ Γ) (runs C Λ (eight l ρ α ω)
        (seq (block (seq (assign (place 5 []) (addr_of (place 2 (deref τ ∷ field 0 ∷ []))))
        (seq (assign (place 6 []) (aggregate (int w8 4 ∷ []))) (call key (copy (place 5 []) ∷ xs) (place 4 [])))))
        (seq (assign (place 3 []) (rv_opd (copy (place 4 [])))) then)) q)
    asks_word t {ρ} {α} {ω} {v = v} {b} {o} {C} {Λ} {q} {then = then} {Γ} fm aft lies is more k =
        packed (pointed 𝓛 l ρ α ω v b o) is (
        first ! $ blocks ! $ sets ! (addr ! (through ! refl (fld ! lies (stop !)))) refl (tt, tt) $
        sets ! (agg ! (and_then ! (lit ! tt) (no_more !))) refl (tt, (record { fits = lit< tt }, tt)) $
        Calls-last ! fm (found aft) (and_then ! (get ! refl) (more _ (and_then ! (get ! refl) (no_more !))))
        (λ u. finds ! aft (λ w fits. lands_last ! refl (tt, record { fits = fits }) $
        exec ! C Λ (eight l ρ α ω) (seq (assign (place 3 []) (rv_opd (copy (place 4 [])))) then) q $
        sets ! (of_opd ! (get ! refl)) refl (tt, record { fits = fits }) $
        unpacked (before Γ) (answered 𝓛 l ρ α ω v b o w) (k w fits))))

    -- the end of the code: what was found is returned, with what is made last
    pub returns_found : K → {ρ α ω : Ty} {v u : Val} {b o w : ℕ} {xs : List Operand} {C : Calls 𝓤 H} {Λ : Loops 𝓤 H}
        {Kf : Val → SProp 𝓤} {i : Item 𝓤} {Γ : List (Item 𝓤)} → behind Γ ≡ answered 𝓛 l ρ α ω v b o w
        → Rv (Go {0}) 𝓛 (i ∷ raw (⋆ 𝓛 (before Γ)) ∷ answered 𝓛 l ρ α ω v b o w) (eight l ρ α ω) (aggregate xs) u
        → T (has_ty ω u) × WT u
        → T (has_ty ρ (vstruct (vcons (vint w64 w) (vcons u vnil)))) × WT (vstruct (vcons (vint w64 w) (vcons u vnil)))
        → Step K 𝓛 (i ∷ before Γ) (prop (Kf (vstruct (vcons (vint w64 w) (vcons u vnil))))) (i ∷ Γ)
        (runs C Λ (eight l ρ α ω) (seq (assign (place 7 []) (aggregate xs)) (seq (assign (place 0 [])
        (aggregate (copy (place 3 []) ∷ copy (place 7 []) ∷ []))) return)) (at_ret (eight l ρ α ω) Kf))
    returns_found t {ρ} {α} {ω} {v} {b = b} {o} {w} {i = i} {Γ} is makes last whole = step (λ s.
        packed (answered 𝓛 l ρ α ω v b o w) is (sets ! makes refl last $
        sets ! (agg ! (and_then ! (get ! refl) (and_then ! (get ! refl) (no_more !)))) refl whole $
        returns ! (look_at ! 0 refl) $ free_all ! refl $ record { prf = via 𝓤 _ (push 𝓛 i (before Γ)) s.prf }))
