-- What a statement of a walk reads: two locals, or a field of the struct in a local or behind a reference in one.
-- Assumes `Logic`.
use mathlib.Core.Option.{some}
use Rattle.std.proofs.Common.{◌≡◌, ℕ, List, [], ◌∷◌}
use seplogic.Ra.Ura.{Ura}
use base.Fml.{Share, fat}
use mir.Fields.{get_v}
use mir.Syntax.{Sym, Ty, Tys, ty_struct, aggregate, copy, deref, field, place, rv_opd}
use mir.Val.{Val, Vals, of_list, vptr, vstruct}
use prog.Memory.{field_at, field_of}
use prog.Wp.{Env, spot_of}
use types.ByLocal.{at, get, get_in, through}
use types.Kit.{Item, ‵, nth}
use types.Logic.{Logic}
use types.Part.{Part, agg, look_in, sub}
use types.Run.{Rv, and_then, fld, load, no_more, of_opd, stop}

module _ {M : Type 1} {𝓤 : Ura M} {𝓛 : Logic 𝓤} {K : Type 0} {Γ : List (Item 𝓤)} {E : Env 𝓤 𝓛.H} {i : ℕ}
    {q : Share} where
  open 𝓛 use {H}

  -- what two locals hold, as one struct
  pub pair : K → {j : ℕ} {r : Share} {u v : Val} → at 𝓛 i Γ ≡ ‵ (fat q (spot_of 𝓤 H E i).0 (spot_of 𝓤 H E i).1 0 u)
      → at 𝓛 j Γ ≡ ‵ (fat r (spot_of 𝓤 H E j).0 (spot_of 𝓤 H E j).1 0 v)
      → Rv K 𝓛 Γ E (aggregate (copy (place i []) ∷ copy (place j []) ∷ [])) (vstruct (of_list (u ∷ v ∷ [])))
  pair t one other = agg t (and_then t (get t one) (and_then t (get t other) (no_more t)))

  module _ {ν : Sym} {τs : Tys} {vs : Vals} {τ : Ty} {d : ℕ} {back : Val → Item 𝓤} where
    -- field k of the struct in local i
    pub field_in : K → (k : ℕ) → field_of (spot_of 𝓤 H E i).0 k ≡ some (τ, d) → field_at 0 τs k ≡ some (τ, d)
        → Part K 𝓛 (at 𝓛 i Γ) q (ty_struct ν τs) (spot_of 𝓤 H E i).1 (spot_of 𝓤 H E i).2 (vstruct vs) back
        → Rv K 𝓛 Γ E (rv_opd (copy (place i (field k ∷ [])))) (get_v vs k)
    field_in t k lies found p = of_opd t (get_in t (fld t lies (stop t)) (sub t k found p))

    -- field k of the struct that local i points at, whose cell is entry n
    pub field_behind : K → (n k : ℕ) {s : Share} {b o : ℕ} {σ : Ty}
        → at 𝓛 i Γ ≡ ‵ (fat s (spot_of 𝓤 H E i).0 (spot_of 𝓤 H E i).1 0 (vptr b o))
        → field_of σ k ≡ some (τ, d) → field_at 0 τs k ≡ some (τ, d)
        → Part K 𝓛 (nth 𝓛 n Γ) q (ty_struct ν τs) b o (vstruct vs) back
        → Rv K 𝓛 Γ E (rv_opd (copy (place i (deref σ ∷ field k ∷ [])))) (get_v vs k)
    field_behind t n k points lies found p =
        of_opd t (load t (through t points (fld t lies (stop t))) (look_in t n (sub t k found p)))
