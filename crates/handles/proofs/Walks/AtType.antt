-- The code of a function at its type arguments, and what a walk through it is given: how it enters the code, goes on
-- with it and ends. Assumes `Logic`.
use Rattle.std.proofs.Common.{◌≡◌, ℕ, List, [], ◌∷◌, refl}
use seplogic.Ra.Ura.{Ura}
use mir.MapTy.{inst_fn}
use mir.Syntax.{Fn, Callee, Args, a_type}
use mir.Val.{Val}
use base.Logic.{SProp, ent, sep, emp, id⊢}
use prog.Model.{Model}
use prog.Wp.{Wp, WpFn, Closed}
use types.ByLocal.{env}
use types.Kit.{Go, Item, Goal, Step, step, prop, post, runs, allocs, params', at_ret, ◌$◌, !, regoal, Sq, ⋆, ‵, raw}
use types.Kit.{◌⊛◌, ◌∵◌, qed, by, move, split, fjoin, done, use0, use1}
use types.Logic.{Logic, sem}
use types.Run.{enter, exec}
use contract.Lifetimes.{Lfts, Shares, AllOutlive}
use contract.Monad.{fact}
use contract.Running.{Running, MachineTables, tables}
use denote.Laws.{Spells, Tellss, Ises, Are, valss}
use denote.Param.{layouts}
use denote.RattleType.{RattleType, Denots, Valss, flat, owns}
use denote.Signature.{Slot, Signature, types_at, type_at}
use denote.Steps.{nothing as nothing_more, heard}
use denote.Triple.Clauses.{Ended, Clauses, Lasts, at_exit, closing}
use denote.Triple.End.{Kepts, Fins}
use denote.Triple.Entry.{Args as Arguments, Vals, Res, on_entry, alive}
use denote.Triple.Spec.{Meets}
use denote.Triple.Walked.{Stays, AllGo, Fit, fits_of, has_of, stay_dropped, walk_of}
use Rattle.atomic_table.proofs.Walks.{proved, proved_at, leaves}
use Rattle.core.proofs.alloc.Shapes.{after}

-- the type arguments of a function with one type parameter
abbrev pub at_type : RattleType → Args
at_type T = layouts (a_type ∷ []) (T, tt)

-- what a function keeps of parameters of which it keeps nothing
abbrev pub all_dropped : {n : ℕ} (ss : List (Slot n)) (ks : Kepts ss) → Stays ss ks
all_dropped [] ks = tt
all_dropped (s ∷ ss) ks = (stay_dropped s ks.0, all_dropped ss ks.1)

module _ {n : ℕ} (κs : Lfts n) where
  dropped_fit : (ss : List (Slot n)) (ks : Kepts ss) (a : Denots (types_at ss κs)) (ws : Fins κs ss ks a)
      → fits_of κs ss ks (all_dropped ss ks) a ws
  dropped_fit [] ks a ws = tt
  dropped_fit (s ∷ ss) ks a ws = (tt, dropped_fit ss ks.1 a.1 ws.1)

  dropped_had : {M : Type 1} {𝓤 : Ura M} (𝓛 : Logic 𝓤) (ss : List (Slot n)) (ks : Kepts ss)
      (a : Denots (types_at ss κs)) (ws : Fins κs ss ks a) (vss : Valss (types_at ss κs))
      → ent 𝓤 (emp 𝓤) (sem 𝓛 (has_of κs ss ks (all_dropped ss ks) a ws vss))
  dropped_had {𝓤 = 𝓤} 𝓛 [] ks a ws vss = id⊢ 𝓤 (emp 𝓤)
  dropped_had 𝓛 (s ∷ ss) ks a ws vss =
      qed 𝓛 [] ∵ use0 𝓛 (‵ (has_of κs ss ks.1 (all_dropped ss ks.1) a.1 ws.1 vss.1)) (dropped_had 𝓛 ss ks.1 a.1 ws.1
      vss.1)
      $ nothing_more ! $ fjoin ! $ done !

-- that the function of this key meets its contract
abbrev pub Proved : Args → {M : Type 1} {𝓤 : Ura M} (𝓛 : Logic 𝓤) (𝓜 : Model 𝓤 𝓛.H) (𝓡 : Running 𝓤 𝓛.H 𝓜) (En : Ended)
    → Clauses 𝓤 En → (Args → Callee) → Type 1
Proved inst {𝓤 = 𝓤} 𝓛 𝓜 𝓡 En c key =
    Meets 𝓛 En.signature ((tables 𝓤 𝓛.H 𝓜 𝓡 𝓡.env).C (key inst)) (closing 𝓛 En c)

-- that what its `requires` asks is one fact
abbrev pub Asks : {M : Type 1} {𝓤 : Ura M} (En : Ended) → Clauses 𝓤 En
    → ((κs : Lfts En.signature.lifetimes) → Arguments En.signature κs → Type 0) → Type 1
Asks {𝓤 = 𝓤} En c Asked = (κs : Lfts En.signature.lifetimes) (a : Arguments En.signature κs) (g : (c κs a).ghost)
    → ent 𝓤 ((c κs a).requires g) (fact 𝓤 (Asked κs a))

module _ (inst : Args) (f : Fn) {M : Type 1} {𝓤 : Ura M} (𝓛 : Logic 𝓤) (𝓜 : Model 𝓤 𝓛.H) (𝓡 : Running 𝓤 𝓛.H 𝓜) where
  open 𝓛 use {H}

  abbrev fn : Fn
  fn = inst_fn inst f

  abbrev 𝓣 : MachineTables 𝓤 H 𝓜
  𝓣 = tables 𝓤 H 𝓜 𝓡 𝓡.env

  -- that the key is the code's
  abbrev pub IsCode : (Args → Callee) → Type 2
  IsCode key = Closed 𝓤 H 𝓣.C 𝓣.Λ (key inst) fn

  -- the code from its entry with these values on
  abbrev pub entered : (Val → SProp 𝓤) → List Val → Goal 𝓤 H
  entered Post vs = allocs fn.locals (λ E. params' E vs (runs 𝓣.C 𝓣.Λ E fn.body (at_ret E Post)))

  -- How a walk enters the code, with values that are known to be these, and goes on after its n-th statement, which has
  -- come to its end.
  pub record Code (Post : Val → SProp 𝓤) : Type 2 where
    pub enters : (vs : List Val) {us : List Val} {Γ : List (Item 𝓤)} → us ≡ vs
        → Step (Go {0}) 𝓛 Γ (entered Post vs) Γ (prop (WpFn 𝓤 H 𝓣.C 𝓣.Λ fn us Post))
    pub ahead : (l : ℕ → ℕ) (n : ℕ) {Γ : List (Item 𝓤)}
        → Step (Go {0}) 𝓛 Γ (runs 𝓣.C 𝓣.Λ (env fn.locals l) (after n fn.body) (at_ret (env fn.locals l) Post))
        Γ (prop (Wp 𝓤 H 𝓣.C 𝓣.Λ (env fn.locals l) (after n fn.body) (post 𝓤 H (at_ret (env fn.locals l) Post))))

  code : (Post : Val → SProp 𝓤) → Code Post
  code Post = record {
    enters = λ vs e. step (λ s. regoal ! (λ (z : List Val). prop (WpFn 𝓤 H 𝓣.C 𝓣.Λ fn z Post)) e refl $
        enter ! 𝓣.C 𝓣.Λ fn vs Post $ s);
    ahead = λ l n. exec ! 𝓣.C 𝓣.Λ (env fn.locals l) (after n fn.body) (at_ret (env fn.locals l) Post);
  }

  module _ (En : Ended) (hs : Stays En.signature.params En.kept) (c : Clauses 𝓤 En) where
    abbrev S : Signature
    S = En.signature

    -- how a walk ends
    abbrev Ends : (walk_of 𝓛 En hs c).Ghost → Type 1
    Ends y = (v : Val) (r : Res S y.0.0) (ws : Lasts En y.0.0 y.0.3) → Fit En hs y.0.0 y.0.3 ws
        → ent 𝓤 (sep 𝓤 (alive 𝓛 S y.0.0 y.0.1)
        (sep 𝓤 (sem 𝓛 (has_of y.0.0 S.params En.kept hs y.0.3 ws y.0.4))
        (sep 𝓤 (sem 𝓛 ((type_at S.result y.0.0).own_val r (v ∷ [])))
        ((c y.0.0 y.0.3).ensures y.1 r (at_exit En y.0.0 y.0.3 ws))))) ((walk_of 𝓛 En hs c).post y v)

    -- a walk from the entry of the code to its end proves that the function meets its contract
    pub walks : AllGo 𝓛 S.lifetimes S.params En.kept hs → (key : Args → Callee) → IsCode key
        → (sp : (κs : Lfts S.lifetimes) → Spells (types_at S.params κs))
        → ((κs : Lfts S.lifetimes) → Tellss (types_at S.params κs) (Ises (types_at S.params κs)) (sp κs))
        → ((κs : Lfts S.lifetimes) (qs : Shares S.lifetimes) (bounds : AllOutlive S.lifetimes S.outlives κs)
        (a : Arguments S κs) (g : (c κs a).ghost)
        → Are (types_at S.params κs) (Ises (types_at S.params κs)) a (valss (types_at S.params κs) (sp κs) a)
        → Code ((walk_of 𝓛 En hs c).post ((κs, qs, bounds, a, valss (types_at S.params κs) (sp κs) a), g))
        → Ends ((κs, qs, bounds, a, valss (types_at S.params κs) (sp κs) a), g)
        → ent 𝓤 (sep 𝓤 (on_entry 𝓛 S κs qs a (valss (types_at S.params κs) (sp κs) a)) ((c κs a).requires g))
        (WpFn 𝓤 H 𝓣.C 𝓣.Λ fn (flat (types_at S.params κs) (valss (types_at S.params κs) (sp κs) a))
        ((walk_of 𝓛 En hs c).post ((κs, qs, bounds, a, valss (types_at S.params κs) (sp κs) a), g))))
        → Proved inst 𝓛 𝓜 𝓡 En c key
    walks go key closed sp tells walk = proved 𝓛 En hs c 𝓜 𝓡 go (key inst) fn closed sp tells (λ κs qs bounds a g are.
        let y : (walk_of 𝓛 En hs c).Ghost = ((κs, qs, bounds, a, valss (types_at S.params κs) (sp κs) a), g) in
        walk κs qs bounds a g are (code ((walk_of 𝓛 En hs c).post y)) (leaves 𝓛 En hs c y))

    -- where a parameter's type does not tell its machine values
    pub walks_at : AllGo 𝓛 S.lifetimes S.params En.kept hs → (key : Args → Callee)
        → IsCode key
        → ((y : (walk_of 𝓛 En hs c).Ghost)
        → Are (types_at S.params y.0.0) (Ises (types_at S.params y.0.0)) y.0.3 y.0.4
        → Code ((walk_of 𝓛 En hs c).post y) → Ends y
        → ent 𝓤 ((walk_of 𝓛 En hs c).pre y)
        (WpFn 𝓤 H 𝓣.C 𝓣.Λ fn ((walk_of 𝓛 En hs c).args y) ((walk_of 𝓛 En hs c).post y)))
        → Proved inst 𝓛 𝓜 𝓡 En c key
    walks_at go key closed walk = proved_at 𝓛 En hs c 𝓜 𝓡 go (key inst) fn closed (λ y are.
        walk y are (code ((walk_of 𝓛 En hs c).post y)) (leaves 𝓛 En hs c y))

  -- Nothing is kept of the parameters, and what the `ensures` says is known.
  module _ (En : Ended) (c : Clauses 𝓤 En) where
    abbrev R : Signature
    R = En.signature

    abbrev hs : Stays R.params En.kept
    hs = all_dropped R.params En.kept

    -- a walk ends with the tokens and the result
    abbrev pub Left : (κs : Lfts R.lifetimes) → Shares R.lifetimes → (a : Arguments R κs) → (c κs a).ghost
        → (Val → SProp 𝓤) → Type 1
    Left κs qs a g Post = (v : Val) (r : Res R κs) (ws : Lasts En κs a)
        → ent 𝓤 (emp 𝓤) ((c κs a).ensures g r (at_exit En κs a ws))
        → ent 𝓤 (⋆ 𝓛 (raw (alive 𝓛 R κs qs) ∷ ‵ ((type_at R.result κs).own_val r (v ∷ [])) ∷ [])) (Post v)

    module _ (Asked : (κs : Lfts R.lifetimes) → Arguments R κs → Type 0) (asked : Asks En c Asked) where
      -- a walk begins with what the parameters own and the tokens
      abbrev pub Walk : (κs : Lfts R.lifetimes) → Arguments R κs → Vals R κs → ((Val → SProp 𝓤) → Goal 𝓤 H) → Type 2
      Walk κs a vss G = (qs : Shares R.lifetimes) (g : (c κs a).ghost) (Post : Val → SProp 𝓤) → Asked κs a
          → Are (types_at R.params κs) (Ises (types_at R.params κs)) a vss → Left κs qs a g Post → Code Post
          → Sq 𝓛 (‵ (owns (types_at R.params κs) a vss) ∷ raw (alive 𝓛 R κs qs) ∷ []) (G Post)

      begun : (y : (walk_of 𝓛 En hs c).Ghost)
          → Are (types_at R.params y.0.0) (Ises (types_at R.params y.0.0)) y.0.3 y.0.4
          → Code ((walk_of 𝓛 En hs c).post y) → Ends En hs c y
          → Walk y.0.0 y.0.3 y.0.4 (λ Post. prop (WpFn 𝓤 H 𝓣.C 𝓣.Λ fn (flat (types_at R.params y.0.0) y.0.4) Post))
          → ent 𝓤 ((walk_of 𝓛 En hs c).pre y)
          (WpFn 𝓤 H 𝓣.C 𝓣.Λ fn ((walk_of 𝓛 En hs c).args y) ((walk_of 𝓛 En hs c).post y))
      begun y are go ends walk = let κs = y.0.0 in let a = y.0.3 in let qs = y.0.1 in
          qed 𝓛 ((raw (alive 𝓛 R κs qs) ⊛ ‵ (owns (types_at R.params κs) a y.0.4)) ∷ raw ((c κs a).requires y.1) ∷ []) ∵
          move ! (1 ∷ []) $ use1 𝓛 (raw (fact 𝓤 (Asked κs a))) (asked κs a y.1) $ heard ! (Asked κs a) (λ is. split ! $
          move ! (1 ∷ []) $ walk qs y.1 ((walk_of 𝓛 En hs c).post y) is are (λ v r ws e.
          qed 𝓛 (raw (alive 𝓛 R κs qs) ∷ ‵ ((type_at R.result κs).own_val r (v ∷ [])) ∷ []) ∵
          use0 𝓛 (raw ((c κs a).ensures y.1 r (at_exit En κs a ws))) e $
          use0 𝓛 (‵ (has_of κs R.params En.kept hs a ws y.0.4)) (dropped_had κs 𝓛 R.params En.kept a ws y.0.4) $
          move ! (2 ∷ 0 ∷ 3 ∷ 1 ∷ []) $ by ! (ends v r ws (dropped_fit κs R.params En.kept a ws))) go)

      -- where the parameters tell their machine values
      pub dropped : AllGo 𝓛 R.lifetimes R.params En.kept hs → (key : Args → Callee) → IsCode key
          → (sp : (κs : Lfts R.lifetimes) → Spells (types_at R.params κs))
          → ((κs : Lfts R.lifetimes) → Tellss (types_at R.params κs) (Ises (types_at R.params κs)) (sp κs))
          → ((κs : Lfts R.lifetimes) (a : Arguments R κs) → Walk κs a (valss (types_at R.params κs) (sp κs) a)
          (λ Post. entered Post (flat (types_at R.params κs) (valss (types_at R.params κs) (sp κs) a))))
          → Proved inst 𝓛 𝓜 𝓡 En c key
      dropped law key closed sp tells walk = walks En hs c law key closed sp tells (λ κs qs bounds a g are go ends.
          let vss = valss (types_at R.params κs) (sp κs) a in begun ((κs, qs, bounds, a, vss), g) are go ends
          (λ qs g Post is are left go. go.enters (flat (types_at R.params κs) vss) refl $
          walk κs a qs g Post is are left go))

      -- where the walk has to find them
      pub dropped_at : AllGo 𝓛 R.lifetimes R.params En.kept hs → (key : Args → Callee) → IsCode key
          → ((κs : Lfts R.lifetimes) (a : Arguments R κs) (vss : Vals R κs) → Walk κs a vss
          (λ Post. prop (WpFn 𝓤 H 𝓣.C 𝓣.Λ fn (flat (types_at R.params κs) vss) Post))) → Proved inst 𝓛 𝓜 𝓡 En c key
      dropped_at law key closed walk = walks_at En hs c law key closed (λ y are go ends.
          begun y are go ends (walk y.0.0 y.0.3 y.0.4))
