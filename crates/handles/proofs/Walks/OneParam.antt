-- Walks of the functions with one type parameter whose one parameter is a `&`, or a handle or a permit by value.
-- Assumes `Logic`.
use Rattle.std.proofs.Common.{◌≡◌, ℕ, Bool, false, List, [], ◌∷◌, refl}
use Prim.Native.Nat.{suc}
use seplogic.Ra.Ura.{Ura}
use mathlib.Core.Option.{some}
use mir.Syntax.{Fn, Callee, Args, named, Ty, Body, ty_ptr, ty_ref, imm, seq, assign, place, rv_opd, copy, deref, field}
use mir.Syntax.{Sym, ty_struct, tcons, tnil, local, value_local, aggregate, return}
use mir.Val.{Val, vptr}
use base.Logic.{SProp, ent, sep, emp, via, emp∗, mono_l, mono_r, id⊢, fst∗, snd∗}
use base.Fml.{Fml, Share, ftrue, flft}
use prog.Model.{Model}
use prog.Memory.{field_of}
use types.Logic.{Logic, sem}
use types.Kit.{allocs, params', runs, at_ret, Item, Goal, Step, Sq, use0, ⋆, ‵, raw, ◌⊛◌, ◌$◌, ◌∵◌, !, qed, by, move}
use types.Kit.{keep, drop, use1, split, fsplit, fjoin, done, join, rewrite}
use contract.Lifetimes.{Lfts, Shares, Outlives, toks}
use contract.Monad.{fact, fact_i, fact_use}
use contract.Running.{Running, MachineTables, tables}
use denote.Exit.{Last, yes, no}
use denote.Laws.{Are, Is, Ises, Spells, Tells, Tellss, valss}
use denote.Memory.{hidden_shr}
use denote.Param.{param}
use denote.RattleType.{RattleType, Denots, flat, owns}
use denote.RawPtr.{Ptr, InBlock, block_of, count_of as offset_of}
use denote.Ref.{Bor, shr_vals, shr_Tells}
use denote.Builtin.{RefOf, One}
use denote.Signature.{Slot, plain, types_at}
use denote.Triple.End.{Fins, Kepts}
use denote.Steps.{nothing as nothing_more, shuts}
use denote.Triple.Clauses.{Ended, Clauses, at_exit}
use Rattle.std_alloc.proofs.RcSteps.{Ptr-Good}
use denote.Triple.Walked.{AllGo, Silent, Goes-dropped}
use Rattle.handles.proofs.Walks.AtType.{all_dropped, at_type, entered, Asks, Code, IsCode, Proved, dropped}
use Rattle.counting_word.specs.Logs.{Entry}
use Rattle.handles.specs.Inside.Blocks.{HeldRow, BlockId, Names, lent_share, handle_owns, permit_owns}
use Rattle.handles.specs.contracts.block.handle.Handle as handle_type
use Rattle.handles.specs.contracts.block.permit.Permit as permit_type
use Rattle.handles.proofs.Walks.AsksWord.{eight, locals, pointed}
use Rattle.handles.proofs.Walks.BorrowedHandle.{left_open, opens_handle, parted}
use Rattle.handles.proofs.Walks.Statements.{its_field, field_behind, same_goal}
use types.ByLocal.{alloc_all, pass_all, free_all, look_at, get, sets}
use types.Part.{agg}
use types.Run.{and_then, no_more, returns}
use Rattle.handles.proofs.Walks.Fields.{one_word, one_word-Good, PermitWords, words_are, words_made, HandleRow}
use Rattle.handles.proofs.Walks.Fields.{HandleWords, PermitRow, handle_at}

-- a `&` to a value of a type that is one machine value
abbrev pub a_ref : {m : ℕ} (Row : RattleType) → One Row.mir → Slot (suc m)
a_ref Row one = RefOf (0 ∷ []) tt (plain (λ _. Row)) (λ _. one)

-- a signature of such a `&` and of more parameters
abbrev pub lent_to : {m : ℕ} (Row : RattleType) → One Row.mir → List (Outlives (suc m)) → (ss : List (Slot (suc m)))
    → Kepts ss → Slot (suc m) → Ended
lent_to {m} Row one os ss ks r = record {
  signature = record { lifetimes = suc m; outlives = os; params = a_ref Row one ∷ ss; result = r };
  kept = (yes, ks);
}

-- A walk through a function that takes such a `&` begins with what the `&` lends, its token, the other tokens, and what
-- the other parameters own.
module _ (Row : RattleType) (one : One Row.mir) {m : ℕ} {os : List (Outlives (suc m))} {r : Slot (suc m)}
    (ss : List (Slot (suc m))) (ks : Kepts ss) {M : Type 1} {𝓤 : Ura M} (𝓛 : Logic 𝓤) (𝓜 : Model 𝓤 𝓛.H)
    (𝓡 : Running 𝓤 𝓛.H 𝓜) (c : Clauses 𝓤 (lent_to Row one os ss ks r)) where
  -- a walk through a function that takes a `&` and more
  pub by_ref_and : (Asked : (κs : Lfts (suc m)) → Bor Row.Denot → Denots (types_at ss κs) → Type 0)
      → Asks (lent_to Row one os ss ks r) c (λ κs a. Asked κs a.0 a.1) → AllGo 𝓛 (suc m) ss ks (all_dropped ss ks)
      → (sp : (κs : Lfts (suc m)) → Spells (types_at ss κs))
      → ((κs : Lfts (suc m)) → Tellss (types_at ss κs) (Ises (types_at ss κs)) (sp κs)) → (T : RattleType)
      (key : Args → Callee) (f : Fn) → IsCode (at_type T) f 𝓛 𝓜 𝓡 key
      → ((κs : Lfts (suc m)) (qs : Shares (suc m)) (a : Bor Row.Denot) (bs : Denots (types_at ss κs))
      (gh : (c κs (a, bs)).ghost) (Post : Val → SProp 𝓤) → Asked κs a bs
      → Are (types_at ss κs) (Ises (types_at ss κs)) bs (valss (types_at ss κs) (sp κs) bs)
      → ((v : Val) (x : (r.row κs).Denot) (ws : Fins κs ss ks bs)
      → ent 𝓤 (emp 𝓤) ((c κs (a, bs)).ensures gh x (at_exit (lent_to Row one os ss ks r) κs (a, bs) (tt, ws)))
      → ent 𝓤 (⋆ 𝓛 (‵ (flft κs.0 qs.0) ∷ raw (toks 𝓛 m κs.1 qs.1) ∷ ‵ ((r.row κs).own_val x (v ∷ [])) ∷ [])) (Post v))
      → Code (at_type T) f 𝓛 𝓜 𝓡 Post
      → Sq 𝓛 (‵ (hidden_shr Row κs.0 a.now a.ref_ptr.0 a.ref_ptr.1) ∷ ‵ (flft κs.0 qs.0) ∷ raw (toks 𝓛 m κs.1 qs.1)
      ∷ ‵ (owns (types_at ss κs) bs (valss (types_at ss κs) (sp κs) bs)) ∷ []) (entered (at_type T) f 𝓛 𝓜 𝓡 Post
      (vptr a.ref_ptr.0 a.ref_ptr.1 ∷ flat (types_at ss κs) (valss (types_at ss κs) (sp κs) bs))))
      → Proved (at_type T) 𝓛 𝓜 𝓡 (lent_to Row one os ss ks r) c key
  by_ref_and Asked asked law sp tells T key f closed walk = dropped (at_type T) f 𝓛 𝓜 𝓡 (lent_to Row one os ss ks r) c
      (λ κs a. Asked κs a.0 a.1) asked (Goes-dropped 𝓛 (suc m) (a_ref Row one) yes (λ κs x f. refl), law) key closed
      (λ κs. (shr_vals, sp κs)) (λ κs. (shr_Tells (named 0) κs.0 Row, tells κs)) (λ κs a qs gh Post is are left go.
      fsplit ! $ fsplit ! $ move ! (3 ∷ []) $ use1 𝓛 (‵ (flft κs.0 qs.0) ⊛ raw (toks 𝓛 m κs.1 qs.1)) (id⊢ 𝓤 _) $
      split ! $ keep ! (3 ∷ 0 ∷ 1 ∷ 4 ∷ []) $ walk κs qs a.0 a.1 gh Post is are.1 (λ v x ws e.
      qed 𝓛 (‵ (flft κs.0 qs.0) ∷ raw (toks 𝓛 m κs.1 qs.1) ∷ ‵ ((r.row κs).own_val x (v ∷ [])) ∷ []) ∵ join ! $
      by ! (left v x (tt, ws) e)) go)

-- the same with no more parameters
abbrev pub ref_to : (Row : RattleType) → One Row.mir → List (Outlives 2) → Slot 2 → Ended
ref_to Row one os r = lent_to {m = 1} Row one os [] tt r

module _ (Row : RattleType) (one : One Row.mir) {os : List (Outlives 2)} {r : Slot 2} {M : Type 1} {𝓤 : Ura M}
    (𝓛 : Logic 𝓤) (𝓜 : Model 𝓤 𝓛.H) (𝓡 : Running 𝓤 𝓛.H 𝓜) (c : Clauses 𝓤 (ref_to Row one os r)) where
  -- it ends with the tokens and the result
  abbrev pub RefLeft : (κs : Lfts 2) → Shares 2 → (a : Bor Row.Denot) → (c κs (a, tt)).ghost → (Val → SProp 𝓤) → Type 1
  RefLeft κs qs a gh Post = (v : Val) (x : (r.row κs).Denot)
      → ent 𝓤 (emp 𝓤) ((c κs (a, tt)).ensures gh x (at_exit (ref_to Row one os r) κs (a, tt) (tt, tt)))
      → ent 𝓤 (⋆ 𝓛 (‵ (flft κs.0 qs.0) ∷ raw (toks 𝓛 1 κs.1 qs.1) ∷ ‵ ((r.row κs).own_val x (v ∷ [])) ∷ [])) (Post v)

  -- a walk through a function that takes a `&`
  pub by_ref : (Asked : Lfts 2 → Bor Row.Denot → Type 0) → Asks (ref_to Row one os r) c (λ κs a. Asked κs a.0)
      → (T : RattleType) (key : Args → Callee) (f : Fn) → IsCode (at_type T) f 𝓛 𝓜 𝓡 key
      → ((κs : Lfts 2) (qs : Shares 2) (a : Bor Row.Denot) (gh : (c κs (a, tt)).ghost) (Post : Val → SProp 𝓤)
      → Asked κs a → RefLeft κs qs a gh Post → Code (at_type T) f 𝓛 𝓜 𝓡 Post
      → Sq 𝓛 (‵ (hidden_shr Row κs.0 a.now a.ref_ptr.0 a.ref_ptr.1) ∷ ‵ (flft κs.0 qs.0) ∷ raw (toks 𝓛 1 κs.1 qs.1)
      ∷ ‵ ftrue ∷ []) (entered (at_type T) f 𝓛 𝓜 𝓡 Post (shr_vals a)))
      → Proved (at_type T) 𝓛 𝓜 𝓡 (ref_to Row one os r) c key
  by_ref Asked asked T key f closed walk = by_ref_and Row one {m = 1} [] tt 𝓛 𝓜 𝓡 c (λ κs a bs. Asked κs a) asked tt
      (λ κs. tt) (λ κs. tt) T key f closed (λ κs qs a bs gh Post is are left.
      walk κs qs a gh Post is (λ v x. left v x tt))

module _ (T : RattleType) {os : List (Outlives 2)} {r : Slot 2} {M : Type 1} {𝓤 : Ura M} (𝓛 : Logic 𝓤)
    (𝓜 : Model 𝓤 𝓛.H) (𝓡 : Running 𝓤 𝓛.H 𝓜) (c : Clauses 𝓤 (ref_to (HandleRow (param 0 T)) tt os r)) where
  open 𝓛 use {H}

  abbrev R : RattleType
  R = param 0 T

  abbrev 𝓣 : MachineTables 𝓤 H 𝓜
  𝓣 = tables 𝓤 H 𝓜 𝓡 𝓡.env

  abbrev lent : (HandleRow R).Denot → ℕ → ℕ → Bor (HandleRow R).Denot
  lent h b o = record { ref_ptr = (b, o); now = h }

  -- A walk through a function that takes a `&` to a shared handle and makes one step on the word, from its step on.
  -- [the share; the rule; half of the token; the open borrow; the sharing; the other tokens]
  pub by_shared : Asks (ref_to (HandleRow R) tt os r) c (λ κs a. a.0.now.sole ≡ false) → (key : Args → Callee)
      (f : Fn) → IsCode (at_type T) f 𝓛 𝓜 𝓡 key → {ρ ω σ τ : Ty} {then : Body} → field_of τ 0 ≡ some (ty_ptr, 0)
      → ((Post : Val → SProp 𝓤) (v : Val) → entered (at_type T) f 𝓛 𝓜 𝓡 Post (v ∷ [])
      ≡ allocs (locals ρ (ty_ref (named 0) imm σ) ω) (λ E. params' E (v ∷ []) (runs 𝓣.C 𝓣.Λ E
      (seq (assign (place 2 []) (rv_opd (copy (place 1 (deref τ ∷ field 0 ∷ []))))) then) (at_ret E Post))))
      → ((κs : Lfts 2) (qs : Shares 2) (p : Ptr) (x : (HeldRow R).Denot) (sole : Bool) (η : BlockId) (n : ℕ)
      (log : List Entry) (b o : ℕ) (gh : (c κs (lent (handle_at R p x sole η n log) b o, tt)).ghost)
      (Post : Val → SProp 𝓤)
      → RefLeft (HandleRow R) tt 𝓛 𝓜 𝓡 c κs qs (lent (handle_at R p x sole η n log) b o) gh Post
      → (l : ℕ → ℕ) (inb : InBlock p) (i : Names) (e : Share) → Sq 𝓛 (‵ (lent_share i η n e)
      ∷ left_open R p x η n κs.0 qs.0 i e (raw (toks 𝓛 1 κs.1 qs.1) ∷ ‵ ftrue
      ∷ pointed 𝓛 l ρ (ty_ref (named 0) imm σ) ω (vptr b o) (block_of p) (offset_of p)))
      (runs 𝓣.C 𝓣.Λ (eight l ρ (ty_ref (named 0) imm σ) ω) then (at_ret (eight l ρ (ty_ref (named 0) imm σ) ω) Post)))
      → Proved (at_type T) 𝓛 𝓜 𝓡 (ref_to (HandleRow R) tt os r) c key
  by_shared asked key f closed lies shape walk = by_ref (HandleRow R) tt 𝓛 𝓜 𝓡 c (λ κs a. a.now.sole ≡ false) asked T
      key f closed (λ κs qs a gh Post shared ends go. let b : ℕ = a.ref_ptr.0 in let o : ℕ = a.ref_ptr.1 in
      let h = a.now in same_goal ! (shape Post (vptr b o)) $ alloc_all ! (λ l. pass_all ! refl ((tt, tt), tt) $
      opens_handle R h.block h.held h.id h.number ! tt h.sole h.log shared b o (λ inb i e r.
      sets ! (field_behind ! 0 refl lies refl refl) refl (tt, tt) $
      shuts ! tt (HandleWords R) r (h.block, tt) (one_word (parted h.block) ∷ []) b o $ move ! (2 ∷ 3 ∷ []) $
      walk κs qs h.block h.held h.sole h.id h.number h.log b o gh Post ends l inb i e)))

-- A type whose values are one word, the address of their block. A value tells that word, and `owned` is what it owns
-- as one that has it.
pub record Worded : Type 2 where
  pub row : RattleType
  pub block : row.Denot → Ptr
  pub tells : Tells row (Is row) (λ x. one_word (block x) ∷ [])
  pub owned : row.Denot → Fml
  pub silent : {M : Type 1} {𝓤 : Ura M} (𝓛 : Logic 𝓤) → Silent 𝓛 1 (plain (λ _. row)) no
  pub lasts : (x : row.Denot) → Last (row.exit no) x
  pub makes : {M : Type 1} {𝓤 : Ura M} (𝓛 : Logic 𝓤) (x : row.Denot)
      → ent 𝓤 (sem 𝓛 (owned x)) (sem 𝓛 (row.own_val x (one_word (block x) ∷ [])))
  pub opens : {M : Type 1} {𝓤 : Ura M} (𝓛 : Logic 𝓤) (x : row.Denot)
      → ent 𝓤 (sem 𝓛 (row.own_val x (one_word (block x) ∷ []))) (sem 𝓛 (owned x))

-- a handle, by its word
abbrev pub handle_worded : RattleType → Worded
handle_worded R = record {
  row = HandleRow R;
  block = λ h. h.block;
  tells = λ h vs so. words_are (handle_type.the_type R).name (R ∷ []) h.block vs so.0;
  owned = λ h. handle_owns R h.block h.held h.id h.number h.sole h.log;
  silent = λ 𝓛 κs x f. refl;
  lasts = λ h. tt;
  makes = λ 𝓛 h. qed 𝓛 (‵ (handle_owns R h.block h.held h.id h.number h.sole h.log) ∷ []) ∵
      use0 𝓛 (‵ ((HandleWords R).own_val (h.block, tt) (one_word h.block ∷ [])))
      (words_made (handle_type.the_type R).name (R ∷ []) 𝓛 h.block) $ fjoin ! $ done !;
  opens = λ 𝓛 h. qed 𝓛 (‵ ((HandleRow R).own_val h (one_word h.block ∷ [])) ∷ []) ∵ fsplit ! $ drop ! $ done !;
}

-- a permit, by its word
abbrev pub permit_worded : RattleType → Worded
permit_worded R = record {
  row = PermitRow R;
  block = λ p. p.block;
  tells = λ p vs so. words_are (permit_type.the_type R).name (R ∷ []) p.block vs so.0;
  owned = λ p. permit_owns R p.block p.held p.id p.number p.right p.log;
  silent = λ 𝓛 κs x f. refl;
  lasts = λ p. tt;
  makes = λ 𝓛 p. qed 𝓛 (‵ (permit_owns R p.block p.held p.id p.number p.right p.log) ∷ []) ∵
      use0 𝓛 (‵ ((PermitWords R).own_val (p.block, tt) (one_word p.block ∷ [])))
      (words_made (permit_type.the_type R).name (R ∷ []) 𝓛 p.block) $ fjoin ! $ done !;
  opens = λ 𝓛 p. qed 𝓛 (‵ ((PermitRow R).own_val p (one_word p.block ∷ [])) ∷ []) ∵ fsplit ! $ drop ! $ done !;
}

-- the signature of a function that takes such a value
abbrev pub given_to : Worded → List (Outlives 1) → Slot 1 → Ended
given_to W os r = record {
  signature = record { lifetimes = 1; outlives = os; params = plain (λ _. W.row) ∷ []; result = r };
  kept = (no, tt);
}

-- A walk through such a function begins with what is owned and its token.
module _ (W : Worded) {os : List (Outlives 1)} {r : Slot 1} {M : Type 1} {𝓤 : Ura M} (𝓛 : Logic 𝓤)
    (𝓜 : Model 𝓤 𝓛.H) (𝓡 : Running 𝓤 𝓛.H 𝓜) (c : Clauses 𝓤 (given_to W os r)) where
  -- a walk through a function that takes such a value
  pub by_value : (Asked : Lfts 1 → W.row.Denot → Type 0)
      → Asks (given_to W os r) c (λ κs a. Asked κs a.0) → (T : RattleType) (key : Args → Callee) (f : Fn)
      → IsCode (at_type T) f 𝓛 𝓜 𝓡 key
      → ((κs : Lfts 1) (qs : Shares 1) (a : W.row.Denot) (gh : (c κs (a, tt)).ghost) (Post : Val → SProp 𝓤) → Asked κs a
      → ((v : Val) (x : (r.row κs).Denot)
      → ent 𝓤 (emp 𝓤) ((c κs (a, tt)).ensures gh x (at_exit (given_to W os r) κs (a, tt) (W.lasts a, tt)))
      → ent 𝓤 (⋆ 𝓛 (‵ (flft κs.0 qs.0) ∷ ‵ ((r.row κs).own_val x (v ∷ [])) ∷ [])) (Post v))
      → Code (at_type T) f 𝓛 𝓜 𝓡 Post
      → Sq 𝓛 (‵ (W.owned a) ∷ ‵ (flft κs.0 qs.0) ∷ []) (entered (at_type T) f 𝓛 𝓜 𝓡 Post (one_word (W.block a) ∷ [])))
      → Proved (at_type T) 𝓛 𝓜 𝓡 (given_to W os r) c key
  by_value Asked asked T key f closed walk = dropped (at_type T) f 𝓛 𝓜 𝓡 (given_to W os r) c (λ κs a. Asked κs a.0)
      asked
      (Goes-dropped 𝓛 1 (plain (λ _. W.row)) no (W.silent 𝓛), tt) key closed
      (λ κs. ((λ x. one_word (W.block x) ∷ []), tt)) (λ κs. (W.tells, tt)) (λ κs a qs gh Post is are left go.
      fsplit ! $ use1 𝓛 (‵ (W.owned a.0)) (W.opens 𝓛 a.0) $ move ! (2 ∷ []) $
      use1 𝓛 (‵ (flft κs.0 qs.0) ⊛ ‵ ftrue) (id⊢ 𝓤 _) $ split ! $ keep ! (2 ∷ 0 ∷ []) $
      walk κs qs a.0 gh Post is (λ v x e. qed 𝓛 (‵ (flft κs.0 qs.0) ∷ ‵ ((r.row κs).own_val x (v ∷ [])) ∷ []) ∵
      nothing_more ! $ move ! (1 ∷ 0 ∷ []) $ join ! $ by ! (left v x (W.lasts a.0, tt) e)) go)

-- The code of a function that takes such a value and makes another of its pointer.
module _ (W W' : Worded) {os : List (Outlives 1)} {M : Type 1} {𝓤 : Ura M} (𝓛 : Logic 𝓤) (𝓜 : Model 𝓤 𝓛.H)
    (𝓡 : Running 𝓤 𝓛.H 𝓜) (c : Clauses 𝓤 (given_to W os (plain (λ _. W'.row)))) where
  open 𝓛 use {H}

  -- it makes `into a` of a
  pub turns : (Asked : Lfts 1 → W.row.Denot → Type 0)
      → Asks (given_to W os (plain (λ _. W'.row))) c (λ κs a. Asked κs a.0) → (T : RattleType) (key : Args
      → Callee) (f : Fn)
      → IsCode (at_type T) f 𝓛 𝓜 𝓡 key → {ν ν' : Sym}
      → ((Post : Val → SProp 𝓤) (v : Val) → entered (at_type T) f 𝓛 𝓜 𝓡 Post (v ∷ [])
      ≡ allocs (local (ty_struct ν' (tcons ty_ptr tnil)) value_local
      ∷ local (ty_struct ν (tcons ty_ptr tnil)) value_local
      ∷ local ty_ptr value_local ∷ []) (λ E. params' E (v
      ∷ []) (runs (tables 𝓤 H 𝓜 𝓡 𝓡.env).C (tables 𝓤 H 𝓜 𝓡 𝓡.env).Λ E
      (seq (assign (place 2 []) (rv_opd (copy (place 1 (field 0 ∷ [])))))
      (seq (assign (place 0 []) (aggregate (copy (place 2 []) ∷ []))) return)) (at_ret E Post))))
      → (into : W.row.Denot → W'.row.Denot) → ((a : W.row.Denot) → W'.block (into a) ≡ W.block a)
      → ((κs : Lfts 1) (a : W.row.Denot) → Asked κs a → ent 𝓤 (sem 𝓛 (W.owned a)) (sem 𝓛 (W'.owned (into a))))
      → ((κs : Lfts 1) (a : W.row.Denot) (gh : (c κs (a, tt)).ghost) → ent 𝓤 (emp 𝓤) ((c κs (a, tt)).ensures gh (into a)
      (at_exit (given_to W os (plain (λ _. W'.row))) κs (a, tt) (W.lasts a, tt))))
      → Proved (at_type T) 𝓛 𝓜 𝓡 (given_to W os (plain (λ _. W'.row))) c key
  turns Asked asked T key f closed shape into same owned ensured = by_value W 𝓛 𝓜 𝓡 c Asked asked T key f closed
      (λ κs qs a gh Post is ends go. let p : Ptr = W.block a in
      same_goal ! (shape Post (one_word p)) $ use1 𝓛 (‵ (W'.owned (into a))) (owned κs a is) $
      use1 𝓛 (‵ (W'.row.own_val (into a) (one_word (W'.block (into a)) ∷ []))) (W'.makes 𝓛 (into a)) $
      rewrite ! 0 (λ (z : Ptr). ‵ (W'.row.own_val (into a) (one_word z ∷ []))) (same a) refl $
      alloc_all ! (λ l. pass_all ! refl (one_word-Good p, tt) $
      sets ! (its_field ! refl refl refl) refl (Ptr-Good p) $
      sets ! (agg ! (and_then ! (get ! refl) (no_more !))) refl (one_word-Good p) $
      returns ! (look_at ! 0 refl) $ free_all ! refl $ move ! (1 ∷ 0 ∷ []) $
      by ! (ends (one_word p) (into a) (ensured κs a gh))))

module _ (R : RattleType) (p : Ptr) (x : (HeldRow R).Denot) (η : BlockId) (n : ℕ) {M : Type 1} {𝓤 : Ura M} {𝓛 : Logic 𝓤}
    {K : Type 0} {Γ : List (Item 𝓤)} {G : Goal 𝓤 𝓛.H} where
  -- a handle by its word
  pub is_handle : K → (sole : Bool) (log : List Entry)
      → Step K 𝓛 (‵ ((HandleRow R).own_val (handle_at R p x sole η n log) (one_word p ∷ [])) ∷ Γ) G
      (‵ (handle_owns R p x η n sole log) ∷ Γ) G
  is_handle t sole log = use1 𝓛 (‵ ((HandleRow R).own_val (handle_at R p x sole η n log) (one_word p ∷ [])))
      ((handle_worded R).makes 𝓛 (handle_at R p x sole η n log))

-- what an `ensures` of facts comes to
module _ {M : Type 1} (𝓤 : Ura M) where
  -- one fact
  pub so : {φ : Type 0} → φ → ent 𝓤 (emp 𝓤) (fact 𝓤 φ)
  so {φ} y = fact_i 𝓤 φ (emp 𝓤) y

  -- one fact more
  pub also : {φ : Type 0} {X : SProp 𝓤} → φ → ent 𝓤 (emp 𝓤) X → ent 𝓤 (emp 𝓤) (sep 𝓤 (fact 𝓤 φ) X)
  also {φ} {X} y h = via 𝓤 (sep 𝓤 (fact 𝓤 φ) (emp 𝓤)) (via 𝓤 (sep 𝓤 (emp 𝓤) (emp 𝓤)) (emp∗ 𝓤 (emp 𝓤))
      (mono_l 𝓤 (emp 𝓤) (so y))) (mono_r 𝓤 (fact 𝓤 φ) h)

  -- what a `requires` asks, as one fact
  pub both : {A B : Type 0} {X : SProp 𝓤} → ent 𝓤 X (fact 𝓤 B) → ent 𝓤 (sep 𝓤 (fact 𝓤 A) X) (fact 𝓤 (A × B))
  both {A} {B} {X} h = fact_use 𝓤 A (fst∗ 𝓤 (fact 𝓤 A) X) (λ a. fact_use 𝓤 B (via 𝓤 X (snd∗ 𝓤 (fact 𝓤 A) X) h)
      (λ b. fact_i 𝓤 (A × B) (sep 𝓤 (fact 𝓤 A) X) (a, b)))
