-- Where what is asked cuts entries whose keys rise.
use Rattle.std.proofs.Common.{◌≡◌, ◌+◌, ◌<◌, ℕ, zero, suc, Bool, true, false, List, [], ◌∷◌, ◌++◌, length, take, drop}
use Rattle.std.proofs.Common.{inl, inr, cond, get_or, refl, ap, sym, ◌∙◌, subst, arith, add-one, true≢false}
use Rattle.std.specs.Prelude.{Option, None, Some, is_some, not, slice_get}
use Rattle.std.specs.List.{All}
use Rattle.std.proofs.lemmas.Bool.{not-false, not-true}
use Rattle.std.proofs.lemmas.List.{get_or-take, length-take-le, take_more}
use Rattle.std.proofs.lemmas.List.Elements.{All-cons, All-nil, All-tail}
use Rattle.std.proofs.lemmas.Option.{get_or_from_slice_get, slice_get_cases, slice_get_within}
use Rattle.std.specs.declared.cmp.Ordering.{Ordering}
use Rattle.std.specs.declared.cmp.Ordering.TheVariants.{Less, Equal, Greater}
use Rattle.std.specs.Cmp.{IsTotalOrder}
use Rattle.std.specs.Ordering.{is_eq, is_gt, is_lt, match_ordering}
use Rattle.sequence.specs.Acts.{IsMissed, last_of}
use Rattle.sequence.specs.Cuts.{HasCut, IsCut}
use Rattle.maps.specs.Bounds.{rank_with_by}
use Rattle.maps.specs.Maps.{IsRising, lookup_by, rank_by}
use Rattle.maps.specs.Places.{AreAbove, AreBelow, IsFound, IsMissing}
use Rattle.maps.specs.Queries.{IsForm}
use Rattle.maps.proofs.Order.{Rises, above_alike, above_more, below_before, eq_from, gt_from, lt_from, to}
use Rattle.maps.proofs.Under.{found_missing, found_there, rank_found, rank_missing, split_at}

module _ {K V : Type 0} (order : K → Ordering) where
  -- whether a key is not above what is asked, or is below it
  abbrev pub up_to : K × V → Bool
  up_to e = not (is_lt (order e.0))

  abbrev pub below : K × V → Bool
  below e = is_gt (order e.0)

  -- or is equal to it
  abbrev pub sought : K × V → Bool
  sought e = is_eq (order e.0)

  -- so many keys are below
  pub rank_cut : (es : List (K × V)) (at : ℕ) → IsCut below es at → rank_by order es ≡ at
  unfolding rank_by
  rank_cut [] zero is = refl
  rank_cut [] (suc n) is = absurd (omega (arith, is.within))
  rank_cut (e ∷ es) zero is =
      elim (order e.0) as (λ o. is_gt o ≡ false → match_ordering o 0 0 (suc (rank_by order es)) ≡ 0) [
        | Less ↦ λ fails. refl
        | Equal ↦ λ fails. refl
        | Greater ↦ λ fails. absurd (true≢false fails)
      ] (is.behind 0 e (omega arith))
  rank_cut (e ∷ es) (suc n) is =
      elim (order e.0) as (λ o. is_gt o ≡ true → match_ordering o 0 0 (suc (rank_by order es)) ≡ suc n) [
        | Less ↦ λ holds. absurd (true≢false (sym holds))
        | Equal ↦ λ holds. absurd (true≢false (sym holds))
        | Greater ↦ λ holds. ap suc (rank_cut es n (record {
          within = omega (arith, is.within);
          before = All-tail (λ e. below e ≡ true) e (take n es) is.before;
          behind = is.behind;
        }))
      ] (is.before 0 e (omega arith))

  -- what holds of no key leaves only keys above
  above_none : (es : List (K × V)) → All (λ e. up_to e ≡ false) es → AreAbove order es
  above_none [] none = tt
  above_none (e ∷ es) none = (
    lt_from (order e.0) (not-false _ (none 0 e (omega arith))),
    above_none es (All-tail (λ e. up_to e ≡ false) e es none),
  )

  -- nothing is before the cut
  pub cut_none : (es : List (K × V)) → IsCut up_to es 0 → IsMissing order es 0
  cut_none es is = record { within = is.within; between = record { below = tt; above = above_none es is.behind } }

  -- one more entry below
  below_push : (l : List (K × V)) (e : K × V) → AreBelow order l → order e.0 ≡ Greater → AreBelow order (l ++ e ∷ [])
  below_push [] e b g = (g, tt)
  below_push (x ∷ l) e b g = (b.0, below_push l e b.1 g)

module _ {K V : Type 0} (cmp : K → K → Ordering) (order : K → Ordering) (form : IsForm cmp order) where
  -- a test of the order, which holds where the key is below what is asked and not where it is above
  module _ (test : Ordering → Bool) (above : test Less ≡ false) (below : test Greater ≡ true) where
    -- behind a key of which it does not hold all are above
    above_behind : (e : K × V) (es : List (K × V)) → test (order e.0) ≡ false → AreAbove (cmp e.0) es
        → AreAbove order es
    above_behind e es fails a =
        elim (order e.0) as (λ o. order e.0 ≡ o → test o ≡ false → AreAbove order es) [
          | Less ↦ λ is fails. above_more cmp order form e.0 es is a
          | Equal ↦ λ is fails. above_alike cmp order form e.0 es is a
          | Greater ↦ λ is fails. absurd (true≢false (sym below ∙ fails))
        ] refl fails

    none_above : (es : List (K × V)) → AreAbove order es → All (λ e. test (order e.0) ≡ false) es
    none_above [] a = All-nil (λ e. test (order e.0) ≡ false)
    none_above (e ∷ es) a = All-cons (λ e. test (order e.0) ≡ false) e es (ap test a.0 ∙ above) (none_above es a.1)

    cut_rises : (es : List (K × V)) → Rises cmp es → HasCut (λ e. test (order e.0)) es
    cut_rises [] s =
        let none = All-nil (λ (e : K × V). test (order e.0) ≡ true) in
        record {
          at = 0;
          is = record { within = omega arith; before = none; behind = All-nil (λ e. test (order e.0) ≡ false) };
        }
    cut_rises (e ∷ es) s =
        elim (test (order e.0)) as (λ t. test (order e.0) ≡ t → HasCut (λ e. test (order e.0)) (e ∷ es)) [
          | true ↦ λ holds.
              let rest = cut_rises es s.1 in
              record {
                at = suc rest.at;
                is = record {
                  within = omega (arith, rest.is.within);
                  before = All-cons (λ e. test (order e.0) ≡ true) e (take rest.at es) holds rest.is.before;
                  behind = rest.is.behind;
                };
              }
          | false ↦ λ fails. record {
            at = 0;
            is = record {
              within = omega arith;
              before = All-nil (λ e. test (order e.0) ≡ true);
              behind = All-cons (λ e. test (order e.0) ≡ false) e es fails
                  (none_above es (above_behind e es fails s.0));
            };
          }
        ] refl

    -- it cuts entries whose keys rise
    pub has_cut : (es : List (K × V)) → IsRising cmp es → HasCut (λ e. test (order e.0)) es
    has_cut es s = cut_rises es (to cmp es s)

  module _ (total : IsTotalOrder cmp) (es : List (K × V)) (s : IsRising cmp es) where
    module _ (i : ℕ) (e : K × V) (is : IsCut (up_to order) es (i + 1)) (item : slice_get es i ≡ Some e) where
      within : i < length es
      within = slice_get_within es i e item

      here : (d : K × V) → get_or es i d ≡ e
      here d = get_or_from_slice_get es i e d item

      -- the last one before the cut is not above
      not_above : is_lt (order e.0) ≡ false
      not_above =
          let last : i < length (take (i + 1) es) = omega (arith, length-take-le (i + 1) es is.within) in
          let seen = get_or-take (i + 1) es i e (omega arith) ∙ here e in
          not-true (is_lt (order e.0)) (ap (up_to order) (sym seen) ∙ is.before i e last)

      all_below : AreBelow order (take i es)
      all_below =
          below_before cmp order form total (take i es) e (drop (i + 1) es) (order e.0) refl not_above
          (subst (IsRising cmp) (split_at es i e item) s)

      -- it is the one that is asked for
      pub cut_found : is_eq (order e.0) ≡ true → IsFound order es i
      cut_found equal = record {
        entry = e;
        is = item;
        equal = eq_from (order e.0) equal;
        between = record { below = all_below; above = above_none order (drop (i + 1) es) is.behind };
      }

      -- or that one would stand behind it
      pub cut_missing : is_eq (order e.0) ≡ false → IsMissing order es (i + 1)
      cut_missing unlike = record {
        within = is.within;
        between = record {
          below = subst (AreBelow order)
              (sym (take_more es i e within ∙ ap (λ (x : K × V). take i es ++ x ∷ []) (here e)))
              (below_push order (take i es) e all_below (gt_from (order e.0) not_above unlike));
          above = above_none order (drop (i + 1) es) is.behind;
        };
      }

    -- no key is equal if that of the last one before the cut is not
    pub cut_missed : (n : ℕ) → IsCut (up_to order) es n → IsMissed (sought order) (last_of n es)
        → IsMissing order es n
    cut_missed zero is missed = cut_none order es is
    cut_missed (suc i) was missed =
        let is = subst (IsCut (up_to order) es) (sym (add-one i)) was in
        elim (slice_get_cases es i).1 [
          | inl there ↦
              subst (IsMissing order es) (add-one i) (cut_missing i there.0 is there.2 (missed there.0 there.2))
          | inr past ↦ absurd (omega (arith, past.0, is.within))
        ]

    -- the count of keys that are not above
    counted : (found : Option V) (n : ℕ) → lookup_by order es ≡ found → rank_by order es ≡ n
        → rank_with_by order es ≡ cond (is_some found) (suc n) n
    counted found n value rank =
        ap (λ o. cond (is_some o) (suc (rank_by order es)) (rank_by order es)) value
        ∙ ap (λ m. cond (is_some found) (suc m) m) rank

    -- is the number of those before the cut
    pub rank_with_cut : (n : ℕ) → IsCut (up_to order) es n → rank_with_by order es ≡ n
    rank_with_cut zero is =
        let missing = cut_none order es is in
        counted None 0 (found_missing order es 0 missing (λ e. e.1)) (rank_missing order es 0 missing)
    rank_with_cut (suc i) was =
        let is = subst (IsCut (up_to order) es) (sym (add-one i)) was in
        elim (slice_get_cases es i).1 [
          | inl there ↦
              let e = there.0 in
              let item = there.2 in
              elim (is_eq (order e.0)) as (λ t. is_eq (order e.0) ≡ t → rank_with_by order es ≡ suc i) [
                | true ↦ λ equal.
                    let found = cut_found i e is item equal in
                    counted (Some found.entry.1) i (found_there order es i found (λ e. e.1))
                    (rank_found order es i found)
                | false ↦ λ unlike.
                    let missing = cut_missing i e is item unlike in
                    counted None (i + 1) (found_missing order es (i + 1) missing (λ e. e.1))
                    (rank_missing order es (i + 1) missing)
                    ∙ add-one i
              ] refl
          | inr past ↦ absurd (omega (arith, past.0, is.within))
        ]
