-- The handle of a clone in flight is one that its owner may use, and the handle of a drop in flight is its owner's
-- alone.
use Rattle.counting_core.proofs.Names.{◌≡◌, ℕ, true, false, ◌||◌, nat_eq, List, [], ◌∷◌, refl, sym, subst, arith}
use Rattle.counting_core.proofs.Names.{true≢false, ⊎_elim, Ordering, Less, Equal, Greater, list_any, nat_cmp}
use Rattle.counting_core.proofs.Names.{match_ordering, insert_key, remove_key, and_parts, or_cases, common_steps}
use Rattle.counting_core.proofs.Names.{Activity, Idle, Cloning, Dropping, Step, Answer, Trace, Then, HandleState}
use Rattle.counting_core.proofs.Names.{lent_to, returned_by, State, owner_of, put, after, holds, is_lent_to, has_alone}
use Rattle.counting_core.proofs.Names.{may_use, may_take, is_writing, has_sole, permitted_by, Model, IsLegal, state}
use Rattle.counting_core.proofs.Names.{model, length}
use Rattle.counting_core.proofs.Traces.Places.{put-all}
use Rattle.counting_core.proofs.Traces.Deeds.{Deed, next, clone_reads, clone_bears, raise_loses, raise_bears}
use Rattle.counting_core.proofs.Traces.Deeds.{drop_reads, drop_ends, lower_ends, lower_gives_up, finds_alone}
use Rattle.counting_core.proofs.Traces.Deeds.{ends_write, becomes_sole, shares, lends, returns, gives}
use Rattle.counting_core.proofs.Traces.LegalSteps.{each_legal, each_owner}
use Rattle.counting_core.proofs.Traces.LiveHandles.{IsCounted, next-dead, counted}
use Rattle.counting_core.proofs.Traces.Activities.{raising, lowering, begins}

-- who is lent a handle is still lent it after another lending
lent-insert : (o to : ℕ) (os : List ℕ) → list_any (nat_eq o) os ≡ true
    → list_any (nat_eq o) (insert_key nat_cmp os to) ≡ true
lent-insert o to [] e = absurd (true≢false (sym e))
lent-insert o to (q ∷ os) e = by_order (nat_cmp to q) (lent-insert o to os) where
  by_order : (c : Ordering) → (list_any (nat_eq o) os ≡ true → list_any (nat_eq o) (insert_key nat_cmp os to) ≡ true)
      → list_any (nat_eq o) (match_ordering c (to ∷ q ∷ os) (q ∷ os) (q ∷ insert_key nat_cmp os to)) ≡ true
  by_order Less more = grind arith
  by_order Equal more = e
  by_order Greater more = grind arith

-- and after a return of another owner's
lent-remove : (o p : ℕ) (os : List ℕ) → nat_eq p o ≡ false → list_any (nat_eq o) os ≡ true
    → list_any (nat_eq o) (remove_key (nat_eq p) os) ≡ true
lent-remove o p [] other e = absurd (true≢false (sym e))
lent-remove o p (q ∷ os) other e =
    let more : list_any (nat_eq o) os ≡ true → list_any (nat_eq o) (remove_key (nat_eq p) os) ≡ true
    = lent-remove o p os other in grind arith

-- A change of a handle by p, which leaves it to the other owners who may use it or have it alone.
record Spares (p : ℕ) (old new : HandleState) : Type 0 where
  may_use_still : (q : ℕ) → nat_eq p q ≡ false → may_use old q ≡ true → may_use new q ≡ true
  alone_still : (q : ℕ) → nat_eq p q ≡ false → has_alone old q ≡ true → has_alone new q ≡ true

module _ (p : ℕ) (old new : HandleState) where
  spares-unborn : old.lives ≡ false → Spares p old new
  spares-unborn e = record {
    may_use_still = λ q other theirs. grind arith;
    alone_still = λ q other theirs. grind arith;
  }

  -- a handle that p has alone, or that it is writing
  spares-own : has_alone old p ≡ true → Spares p old new
  spares-own own = record {
    may_use_still = λ q other theirs. grind (arith, common_steps);
    alone_still = λ q other theirs. grind (arith, common_steps);
  }

  spares-writer : is_writing old p ≡ true → Spares p old new
  spares-writer own = record {
    may_use_still = λ q other theirs. grind (arith, common_steps);
    alone_still = λ q other theirs. grind (arith, common_steps);
  }

spares-lent : (p to : ℕ) (old : HandleState) → holds old p ≡ true → Spares p old (lent_to old to)
spares-lent p to old own = record {
  may_use_still = λ q other theirs. grind (arith, lent-insert q to old.borrowers);
  alone_still = λ q other theirs. grind arith;
}

spares-returned : (p : ℕ) (old : HandleState) → is_lent_to old p ≡ true → Spares p old (returned_by old p)
spares-returned p old lent = record {
  may_use_still = λ q other theirs. grind (arith, lent-remove q p old.borrowers other);
  alone_still = λ q other theirs. grind (arith, common_steps);
}

-- who takes a handle, or has it as the sole one, has it alone
pub parts-alone : (k : HandleState) (o : ℕ) → (may_take k o || has_sole k o) ≡ true → has_alone k o ≡ true
parts-alone k o may = ⊎_elim (λ e. (and_parts _ _ e).0) (λ e. (and_parts _ _ e).0) (or_cases (may_take k o) _ may)

pub taken-lives : (k : HandleState) (o : ℕ) → may_take k o ≡ true → k.lives ≡ true
taken-lives k o own = (and_parts _ _ (and_parts _ _ (and_parts _ _ own).0).0).0

-- what an owner has in flight fits its handle
abbrev pub Fits : (ℕ → HandleState) → ℕ → Activity → Type 0
Fits hs o Idle = Unit {0}
Fits hs o (Cloning h n) = may_use (hs h) o ≡ true
Fits hs o (Dropping h) = has_alone (hs h) o ≡ true

abbrev pub AllFit : State → Type 0
AllFit u = (o : ℕ) → Fits u.handle o (u.activity o)

-- the handle of a drop in flight is its owner's alone, and lives
module _ (u : State) (fit : AllFit u) (o h : ℕ) (e : u.activity o ≡ Dropping h) where
  pub dropped-alone : has_alone (u.handle h) o ≡ true
  dropped-alone = subst (Fits u.handle o) e (fit o)

  pub dropped-lives : (u.handle h).lives ≡ true
  dropped-lives = (and_parts _ _ (and_parts _ _ dropped-alone).0).0

module _ (u : State) (p : ℕ) where
  -- the other owners have in flight what fits these handles too
  abbrev FitOthers : (ℕ → HandleState) → Type 0
  FitOthers hs = (q : ℕ) → nat_eq p q ≡ false → (c : Activity) → Fits u.handle q c → Fits hs q c

  -- so they do after a change of a handle that spares them
  fits-put : (h : ℕ) (new : HandleState) → Spares p (u.handle h) new → FitOthers (put u.handle h new)
  fits-put h new spares q other Idle fits = tt
  fits-put h new spares q other (Cloning k n) fits =
      put-all u.handle h new (λ j s. may_use (u.handle j) q ≡ true → may_use s q ≡ true)
      (spares.may_use_still q other) (λ j _ e. e) k fits
  fits-put h new spares q other (Dropping k) fits =
      put-all u.handle h new (λ j s. has_alone (u.handle j) q ≡ true → has_alone s q ≡ true)
      (spares.alone_still q other) (λ j _ e. e) k fits

  fits-own : (h : ℕ) (new : HandleState) → has_alone (u.handle h) p ≡ true → FitOthers (put u.handle h new)
  fits-own h new own = fits-put h new (spares-own p (u.handle h) new own)

module _ {V : Type 0} (r : Model V) (u : State) where
  -- what an owner goes on to fits its handle
  own-fits : AllFit u → {s : Step V} {a : Answer V} {m : Model V} (d : Deed r u s a m)
      → permitted_by u (u.activity (owner_of s)) s ≡ true
      → Fits (after (length r.live) u s a).handle (owner_of s) (next r u d)
  own-fits was {s} (clone_reads o h _ _) may = (begins u s _ may refl).1
  own-fits was (raise_loses o _) may = subst (Fits u.handle o) (raising V u o _ may) (was o)
  own-fits was {s} (drop_reads o h _) may = parts-alone (u.handle h) o (begins u s _ may refl).1
  own-fits was _ may = tt

  -- and the others still have what fits
  others-fit : AllFit u → IsCounted u.handle r → {s : Step V} {a : Answer V} {m : Model V} (d : Deed r u s a m)
      → permitted_by u (u.activity (owner_of s)) s ≡ true
      → FitOthers u (owner_of s) (after (length r.live) u s a).handle
  others-fit was c (clone_bears o _ _ _) may = fits-put u o r.births _ (spares-unborn o _ _ (next-dead u.handle r c))
  others-fit was c (raise_bears o _ _) may = fits-put u o r.births _ (spares-unborn o _ _ (next-dead u.handle r c))
  others-fit was c {s} (drop_ends o h _) may =
      fits-own u o h _ (parts-alone (u.handle h) o (begins u s _ may refl).1)
  others-fit was c (lower_ends o _ _ _) may = fits-own u o _ _ (subst (Fits u.handle o) (lowering V u o _ may) (was o))
  others-fit was c (lower_gives_up o _ _ _) may =
      fits-own u o _ _ (subst (Fits u.handle o) (lowering V u o _ may) (was o))
  others-fit was c {s} (finds_alone o h _) may = fits-own u o h _ (and_parts _ _ (begins u s _ may refl).1).0
  others-fit was c {s} (ends_write o h) may = fits-put u o h _ (spares-writer o _ _ (begins u s _ may refl).1)
  others-fit was c {s} (becomes_sole o h _) may = fits-own u o h _ (and_parts _ _ (begins u s _ may refl).1).0
  others-fit was c {s} (shares o h) may = fits-own u o h _ (and_parts _ _ (begins u s _ may refl).1).0
  others-fit was c {s} (lends o h to) may =
      fits-put u o h _ (spares-lent o to (u.handle h) (and_parts _ _ (begins u s _ may refl).1).0)
  others-fit was c {s} (returns o h) may =
      fits-put u o h _ (spares-returned o (u.handle h) (and_parts _ _ (begins u s _ may refl).1).1)
  others-fit was c {s} (gives o h to) may =
      fits-own u o h _ (parts-alone (u.handle h) o (and_parts _ _ (begins u s _ may refl).1).0)
  others-fit was c _ may = λ q other b fits. fits

pub all_fit : {V : Type 0} (t : Trace V) → IsLegal t → AllFit (state t)
all_fit = each_legal (λ t. AllFit (state t)) (λ _ _ _ _ _. tt) (λ _ _ was. (was, was))
    (λ t s a legal h was. each_owner t s a h (Fits (state (Then t s a)).handle)
    (own-fits (model t) (state t) was h.deed h.by_activity)
    (λ q other. others-fit (model t) (state t) was (counted t legal.0) h.deed h.by_activity q other
    ((state t).activity q) (was q)))
