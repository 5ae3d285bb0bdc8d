-- Entries whose keys rise still after a change, and those that rise from each one to the next.
use Rattle.std.proofs.Common.{◌≡◌, ◌<◌, ℕ, suc, true, List, [], ◌∷◌, ◌++◌, length, get_or, refl, ap}
use Rattle.std.proofs.Common.{◌∙◌, subst, sym, append-nil, append_assoc, arith, drop, take, take-append-drop}
use Rattle.std.specs.Prelude.{Result, Ok, Err, OnOk, OnErr}
use Rattle.std.specs.declared.cmp.Ordering.{Ordering}
use Rattle.std.specs.declared.cmp.Ordering.TheVariants.{Less, Equal, Greater}
use Rattle.std.specs.Cmp.{IsTotalOrder}
use Rattle.std.specs.Ordering.{is_lt, match_ordering}
use Rattle.maps.specs.Maps.{IsRising, with_entries, with_entry, without_by}
use Rattle.maps.specs.Places.{AreAbove}
use Rattle.maps.specs.Queries.{key_form}
use Rattle.maps.proofs.Between.{with_new}
use Rattle.maps.proofs.Order.{Rises, above_more, below_before, equal_itself, from, lt_from, rising_back}
use Rattle.maps.proofs.Order.{rising_front, to, turned}

module _ {K V : Type 0} (cmp : K → K → Ordering) where
  -- whatever a call answered
  pub rising_either : {A E : Type 0} (r : Result A E) (new done old : List (K × V)) → OnOk r (new ≡ done)
      → OnErr r (new ≡ old) → IsRising cmp done → IsRising cmp old → IsRising cmp new
  rising_either (Ok a) new done old is was s t = subst (IsRising cmp) (sym is) s
  rising_either (Err e) new done old is was s t = subst (IsRising cmp) (sym was) t

  -- the first entries rise too
  pub rising_take : (n : ℕ) (es : List (K × V)) → IsRising cmp es → IsRising cmp (take n es)
  rising_take n es s = rising_front cmp (take n es) (drop n es) (subst (IsRising cmp) (sym (take-append-drop n es)) s)

  -- and those behind them
  pub rising_drop : (n : ℕ) (es : List (K × V)) → IsRising cmp es → IsRising cmp (drop n es)
  rising_drop n es s = rising_back cmp (take n es) (drop n es) (subst (IsRising cmp) (sym (take-append-drop n es)) s)

  -- a key below all is below those that are left
  above_without : (order : K → Ordering) (j : K) (es : List (K × V)) → AreAbove (cmp j) es
      → AreAbove (cmp j) (without_by order es)
  unfolding without_by
  above_without order j [] a = tt
  above_without order j (x ∷ es) a =
      elim (order x.0) as (λ o. AreAbove (cmp j) (match_ordering o (x ∷ es) es (x ∷ without_by order es))) [
        | Less ↦ a
        | Equal ↦ a.1
        | Greater ↦ (a.0, above_without order j es a.1)
      ]

  rises_without : (order : K → Ordering) (es : List (K × V)) → Rises cmp es → Rises cmp (without_by order es)
  unfolding without_by
  rises_without order [] s = tt
  rises_without order (x ∷ es) s =
      elim (order x.0) as (λ o. Rises cmp (match_ordering o (x ∷ es) es (x ∷ without_by order es))) [
        | Less ↦ s
        | Equal ↦ s.1
        | Greater ↦ (above_without order x.0 es s.0, rises_without order es s.1)
      ]

  -- and without one
  pub rising_without : (order : K → Ordering) (es : List (K × V)) → IsRising cmp es
      → IsRising cmp (without_by order es)
  rising_without order es s = from cmp (without_by order es) (rises_without order es (to cmp es s))

module _ {K V : Type 0} (cmp : K → K → Ordering) (total : IsTotalOrder cmp) where
  -- a key below all is below the new one too
  above_with : (j q : K) (v : V) (es : List (K × V)) → cmp j q ≡ Less → AreAbove (cmp j) es
      → AreAbove (cmp j) (with_entry cmp q v es)
  unfolding with_entry
  above_with j q v [] h a = (h, tt)
  above_with j q v (x ∷ es) h a =
      elim (cmp q x.0) as
      (λ o. AreAbove (cmp j) (match_ordering o ((q, v) ∷ x ∷ es) ((x.0, v) ∷ es)
      (x ∷ with_entry cmp q v es))) [
        | Less ↦ (h, a)
        | Equal ↦ a
        | Greater ↦ (a.0, above_with j q v es h a.1)
      ]

  rises_with : (q : K) (v : V) (es : List (K × V)) → Rises cmp es → Rises cmp (with_entry cmp q v es)
  unfolding with_entry
  rises_with q v [] s = (tt, tt)
  rises_with q v (x ∷ es) s =
      elim (cmp q x.0) as (λ o. cmp q x.0 ≡ o
      → Rises cmp (match_ordering o ((q, v) ∷ x ∷ es) ((x.0, v) ∷ es) (x ∷ with_entry cmp q v es))) [
        | Less ↦ λ is. ((is, above_more cmp (cmp q) (key_form total q) x.0 es is s.0), s)
        | Equal ↦ λ is. s
        | Greater ↦ λ is. (above_with x.0 q v es (turned total q x.0 is) s.0, rises_with q v es s.1)
      ] refl

  -- the keys rise after a change under one
  pub rising_with : (q : K) (v : V) (es : List (K × V)) → IsRising cmp es → IsRising cmp (with_entry cmp q v es)
  rising_with q v es s = from cmp (with_entry cmp q v es) (rises_with q v es (to cmp es s))

  -- the same as a fact
  rises_each : (es : List (K × V))
      → ((k : ℕ) (d : K × V) → suc k < length es → is_lt (cmp (get_or es k d).0 (get_or es (suc k) d).0) ≡ true)
      → Rises cmp es
  rises_each [] each = tt
  rises_each (e ∷ []) each = (tt, tt)
  rises_each (e ∷ f ∷ es) each =
      let rest = rises_each (f ∷ es) (λ k d within. each (suc k) d (omega (arith, within))) in
      let first = lt_from (cmp e.0 f.0) (each 0 e (omega arith)) in
      ((first, above_more cmp (cmp e.0) (key_form total e.0) f.0 es first rest.0), rest)

  -- if each key is below the next, it is below all that come after it
  pub rising_each : (es : List (K × V))
      → ((k : ℕ) (d : K × V) → suc k < length es → is_lt (cmp (get_or es k d).0 (get_or es (suc k) d).0) ≡ true)
      → IsRising cmp es
  rising_each es each = from cmp es (rises_each es each)

  -- an entry above all others goes behind them
  with_last : (es : List (K × V)) (e : K × V) (rest : List (K × V)) → IsRising cmp (es ++ e ∷ rest)
      → with_entry cmp e.0 e.1 es ≡ es ++ e ∷ []
  with_last es e rest s =
      let itself = equal_itself total e.0 in
      let below = below_before cmp (cmp e.0) (key_form total e.0) total es e rest Equal itself refl s in
      ap (with_entry cmp e.0 e.1) (sym (append-nil es))
      ∙ with_new cmp e.0 e.1 es [] (record { below = below; above = tt })

  -- entries that go on rising are put in behind
  pub with_rising : (es more : List (K × V)) → IsRising cmp (es ++ more) → with_entries cmp more es ≡ es ++ more
  with_rising es [] s = sym (append-nil es)
  with_rising es (e ∷ more) s =
      let next = append_assoc es (e ∷ []) more in
      ap (with_entries cmp more) (with_last es e more s)
      ∙ with_rising (es ++ e ∷ []) more (subst (IsRising cmp) (sym next) s) ∙ next
