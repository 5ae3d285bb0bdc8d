-- Right sides that many walks read: a field of a local, and a field behind the pointer in a local. A goal is said
-- another way. Assumes `Logic`.
use Rattle.std.proofs.Common.{◌≡◌, ℕ, ◌+◌, List, [], ◌∷◌, sym, subst}
use Prim.Native.Nat.{zero}
use mathlib.Core.Option.{some}
use seplogic.Ra.Ura.{Ura}
use mir.Syntax.{Ty, Tys, Sym, ty_struct, place, copy, rv_opd, field, deref}
use mir.Fields.{get_v, set_v}
use mir.Val.{Vals, vptr, vstruct}
use base.Fml.{Share, fat}
use prog.Memory.{field_of, field_at}
use prog.Wp.{Env, spot_of}
use types.Logic.{Logic}
use types.Kit.{Item, Goal, Seq, Step, step, ‵, nth}
use types.Run.{Rv, of_opd, load, fld, stop}
use types.ByLocal.{at, get_in, through}
use types.Part.{Part, sub, whole, look_in}

module _ {M : Type 1} {𝓤 : Ura M} {𝓛 : Logic 𝓤} {K : Type 0} {Γ : List (Item 𝓤)} {E : Env 𝓤 𝓛.H} {i k d : ℕ} {τ : Ty}
    {q : Share} {ν : Sym} {τs : Tys} {vs : Vals} where
  open 𝓛 use {H}

  -- the field k of a local
  pub its_field : K → field_of (spot_of 𝓤 H E i).0 k ≡ some (τ, d)
      → at 𝓛 i Γ ≡ ‵ (fat q (ty_struct ν τs) (spot_of 𝓤 H E i).1 (spot_of 𝓤 H E i).2 (vstruct vs))
      → field_at zero τs k ≡ some (τ, d) → Rv K 𝓛 Γ E (rv_opd (copy (place i (field k ∷ [])))) (get_v vs k)
  its_field t lies is is_at = of_opd t (get_in t (fld t lies (stop t))
      (subst (λ (j : Item 𝓤). Part K 𝓛 j q τ (spot_of 𝓤 H E i).1 ((spot_of 𝓤 H E i).2 + d) (get_v vs k)
      (λ u. ‵ (fat q (ty_struct ν τs) (spot_of 𝓤 H E i).1 (spot_of 𝓤 H E i).2 (vstruct (set_v vs k u)))))
      (sym is) (sub t k is_at (whole t))))

  -- the field k of what lies behind the pointer in a local, which is the n-th entry
  pub field_behind : {τ₀ : Ty} {q₀ : Share} → K → (n : ℕ) {b o : ℕ}
      → at 𝓛 i Γ ≡ ‵ (fat q₀ (spot_of 𝓤 H E i).0 (spot_of 𝓤 H E i).1 zero (vptr b o))
      → field_of τ₀ k ≡ some (τ, d) → nth 𝓛 n Γ ≡ ‵ (fat q (ty_struct ν τs) b o (vstruct vs))
      → field_at zero τs k ≡ some (τ, d) → Rv K 𝓛 Γ E (rv_opd (copy (place i (deref τ₀ ∷ field k ∷ [])))) (get_v vs k)
  field_behind t n {b} {o} points lies is is_at = of_opd t (load t (through t {b = b} {o = o} points (fld t lies (stop
      t)))
      (look_in t n (subst (λ (j : Item 𝓤). Part K 𝓛 j q τ b (o + d) (get_v vs k)
      (λ u. ‵ (fat q (ty_struct ν τs) b o (vstruct (set_v vs k u))))) (sym is) (sub t k is_at (whole t)))))

-- a goal said another way
pub same_goal : {M : Type 1} {𝓤 : Ura M} {𝓛 : Logic 𝓤} {K : Type 0} {Γ : List (Item 𝓤)} {G G' : Goal 𝓤 𝓛.H} → K → G ≡ G'
    → Step K 𝓛 Γ G' Γ G
same_goal {𝓤 = 𝓤} {𝓛} {K} {Γ} t e = step (λ s. subst (λ (G : Goal 𝓤 𝓛.H). Seq K 𝓛 Γ G) (sym e) s)
