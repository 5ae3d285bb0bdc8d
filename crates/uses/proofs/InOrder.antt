-- A number cuts items whose numbers do not fall.
use Rattle.std.proofs.Common.{◌≡◌, ◌∙◌, ◌<◌, inl, inr, ℕ, zero, suc, Bool, true, false, List, [], ◌∷◌, length, take}
use Rattle.std.proofs.Common.{Option, None, Some, IfNone, IfSome, subst, arith, count_by, cond, get_or, nat_le, sym, ap}
use Rattle.std.proofs.Common.{true≢false, get_or-take, get_or-drop, length-take, length-drop}
use Rattle.std.specs.List.{insert, prefix_len}
use Rattle.std.specs.List.Sorted.{IsNonDecreasingBy}
use Rattle.std.proofs.lemmas.Bool.{cases_lt, leb-false, leb-true, le-ltb, lt-leb, lt-ltb}
use Rattle.std.proofs.lemmas.List.Elements.{All-tail}
use Rattle.std.proofs.lemmas.List.Sorted.{IsNonDecreasingBy-insert}
use Rattle.std.proofs.lemmas.List.Sums.{prefix_len-le-length, prefix_len_passes, prefix_len_stops, sum_by-cons}
use Rattle.sequence.specs.Acts.{IsAdded, IsReplaced}
use Rattle.sequence.specs.Cuts.{HasCut, IsCut}
use Rattle.sequence.proofs.Cuts.{cut_by}

module _ {T : Type 0} (test : T → Bool) where
  -- those that pass are before the cut
  pub count_is : (es : List T) (at : ℕ) → IsCut test es at → count_by test es ≡ at
  count_is [] at is = omega (arith, is.within)
  count_is (e ∷ es) zero is =
      let rest = count_is es zero (record {
        within = omega arith;
        before = is.before;
        behind = All-tail (λ e. test e ≡ false) e es is.behind;
      }) in
      sum_by-cons (λ e. cond (test e) 1 0) e es ∙ rw (is.behind 0 e (omega arith)) (omega (arith, rest))
  count_is (e ∷ es) (suc at) is =
      let rest = count_is es at (record {
        within = omega (arith, is.within);
        before = All-tail (λ e. test e ≡ true) e (take at es) is.before;
        behind = is.behind;
      }) in
      sum_by-cons (λ e. cond (test e) 1 0) e es ∙ rw (is.before 0 e (omega arith)) (omega (arith, rest))

module _ {T : Type 0} (number : T → ℕ) where
  -- a number cuts items whose numbers do not fall
  pub has_cut : (es : List T) (most : ℕ) → IsNonDecreasingBy number es → HasCut (λ e. nat_le (number e) most) es
  has_cut es most rising =
      let test = λ (e : T). nat_le (number e) most in
      let at = prefix_len test es in
      let above = λ (d : T) (more : at < length es).
      leb-false (number (get_or es at d)) most (prefix_len_stops test es d more) in
      record {
        at = at;
        is = cut_by test es at (prefix_len-le-length test es) (λ i d within. elim (cases_lt i at) [
          | inl less ↦ prefix_len_passes test es i d less ∙ sym (lt-ltb i at less)
          | inr past ↦
              lt-leb (number (get_or es i d)) most
              (omega (arith, above d (omega (arith, past, within)), rising at i d past within))
              ∙ sym (le-ltb i at past)
        ]);
      }

  -- the item is in behind those whose numbers are not above its own
  pub record IsPut (es after : List T) (new : T) : Type 0 where
    pub items : after ≡ insert es (count_by (λ e. nat_le (number e) (number new)) es) new
    pub rising : IsNonDecreasingBy number after

  is_put : (es : List T) (at : ℕ) (new : T) → IsCut (λ e. nat_le (number e) (number new)) es at
      → IsNonDecreasingBy number es → IsPut es (insert es at new) new
  is_put es at new is rising = record {
    items = ap (λ n. insert es n new) (sym (count_is (λ e. nat_le (number e) (number new)) es at is));
    rising =
        IsNonDecreasingBy-insert number es at new rising is.within
        (λ k d less. leb-true (number (get_or es k d)) (number new)
        (grind (arith, get_or-take, length-take, is.before, is.within)))
        (λ k d past within. omega (
          arith,
          leb-false (number (get_or es k d)) (number new)
              (grind (arith, get_or-drop, length-drop, is.behind)),
        ));
  }

  -- so `put_in` puts it, if it seeks no item
  pub put : {R : Type 0} (es after : List T) (new : T) (replaced : T → T) (put_out : T → R) (old : Option R)
      → IsNonDecreasingBy number es
      → IfSome old (IsReplaced (λ _. false) (λ e. nat_le (number e) (number new)) replaced put_out es after)
      → IfNone old (IsAdded (λ _. false) (λ e. nat_le (number e) (number new)) es after new) → IsPut es after new
  put es after new replaced put_out None rising changed added =
      subst (λ all. IsPut es all new) (sym added.items) (is_put es added.at new added.cut rising)
  put es after new replaced put_out (Some value) rising changed added = absurd (true≢false (sym changed.found))
