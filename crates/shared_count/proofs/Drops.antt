-- No more passes are in a drop than there are handles.
use Rattle.std.proofs.Common.{◌≡◌, ℕ, suc, ◌+◌, ◌*◌, ◌<◌, ◌≤◌, nat_eq, List, [], ◌∷◌, ◌++◌, length, refl, sym, subst}
use Rattle.std.proofs.Common.{arith, length-append, All, count_by, sum_by}
use Rattle.std.proofs.lemmas.List.Elements.{All-head, All-tail}
use Rattle.std.proofs.lemmas.List.Sums.{sum_by-append, sum_by-cons}
use mathlib.Core.Logic.{dite}
use mathlib.Core.Option.{some}
use native.Mathlib.Decide.{ℕ_discrete, dec_le}
use lib.ListN.{get_elem?}
use Rattle.shared_count.specs.History.{Event, left_by, owned_by}
use Rattle.shared_count.specs.Inside.Shares.{Part, InDrop, Share, halves, drops}
use Rattle.shared_count.specs.Inside.Rule.{Knows, Keeps}
use Rattle.shared_count.proofs.Histories.{one_if, one_if-same, one_if-other, count-cons, fits_owners}
use Rattle.shared_count.proofs.Sums.{halves_if, halves_if-same, halves-cons, drops_in, drops-cons}
use Rattle.shared_count.proofs.Moves.{Table}

-- the names of the passes in a drop
abbrev with_name : Part → ℕ → List ℕ → List ℕ
with_name InDrop p ps = p ∷ ps
with_name _ p ps = ps

abbrev dropping : List Share → List ℕ
dropping [] = []
dropping (s ∷ ss) = with_name s.part s.known.name (dropping ss)

abbrev all_dropping : List (List Share) → List ℕ
all_dropping [] = []
all_dropping (v ∷ vs) = dropping v ++ all_dropping vs

module _ (n x : ℕ) (log : List Event) where
  -- they are as many as the drops, each has both halves of its pass, and owns a handle
  record AreNames (ps : List ℕ) (drops' halves' : ℕ) : Type 0 where
    many : length ps ≡ drops'
    few : 2 * count_by (nat_eq x) ps ≤ halves'
    own : 0 < count_by (nat_eq x) ps → 0 < owned_by n x log

  names-with : (p : ℕ) (part : Part) (ps : List ℕ) (d d' h h' : ℕ) → (part ≡ InDrop → 0 < owned_by n p log)
      → d' ≡ drops_in part + d → h' ≡ halves_if (nat_eq x p) part + h
      → AreNames ps d h → AreNames (with_name part p ps) d' h'
  names-with p InDrop ps d d' h h' own e f r =
      let count = count-cons x p ps in
      dite (ℕ_discrete x p)
      (λ is.
      let one = subst (λ (z : ℕ). one_if (nat_eq x z) ≡ 1) is (one_if-same x) in
      let both = subst (λ (z : ℕ). halves_if (nat_eq x z) InDrop ≡ 2) is (halves_if-same x InDrop) in
      record {
        many = omega arith;
        few = omega arith;
        own = λ _. subst (λ (z : ℕ). 0 < owned_by n z log) (sym is) (own refl);
      })
      (λ other.
      let none = one_if-other x p other in
      record { many = omega arith; few = omega arith; own = λ some. r.own (omega arith) })
  names-with p part ps d d' h h' own e f r =
      record { many = omega arith; few = omega arith; own = r.own }

  names-in : (v : List Share) → All (Knows n log) v → AreNames (dropping v) (drops v) (halves x v)
  names-in [] k = record { many = refl; few = omega arith; own = λ some. absurd (omega arith) }
  names-in (s ∷ ss) k = let here : Knows n log s = All-head (Knows n log) s ss k in
      names-with s.known.name s.part (dropping ss) (drops ss) (drops (s ∷ ss)) (halves x ss) (halves x (s ∷ ss))
      here.owns (drops-cons s ss) (halves-cons x s ss) (names-in ss (All-tail (Knows n log) s ss k))

  names : (vs : List (List Share)) → ((j : ℕ) (v : List Share) → get_elem? vs j ≡ some v → All (Knows n log) v)
      → AreNames (all_dropping vs) (sum_by drops vs) (sum_by (halves x) vs)
  names [] k = record { many = refl; few = omega arith; own = λ some. absurd (omega arith) }
  names (v ∷ vs) k =
      let here = names-in v (k 0 v refl) in
      let rest = names vs (λ j u e. k (suc j) u e) in
      let long = length-append (dropping v) (all_dropping vs) in
      let count = sum_by-append (λ y. one_if (nat_eq x y)) (dropping v) (all_dropping vs) in
      let all = sum_by-cons drops v vs in
      let both = sum_by-cons (halves x) v vs in
      record {
        many = omega arith;
        few = omega arith;
        own = λ some. dite (dec_le 1 (count_by (nat_eq x) (dropping v))) here.own (λ none. rest.own (omega arith));
      }

pub covered : (n : ℕ) (s : Table) (k : Keeps n s) → sum_by drops s.views ≤ length (left_by n k.log).owners
covered n s k =
    let long = (names n 0 k.log s.views k.seats).many in
    let fits = fits_owners (all_dropping s.views) (left_by n k.log).owners (λ x.
    let are = names n x k.log s.views k.seats in
    let most = k.apart x in
    dite (dec_le 1 (count_by (nat_eq x) (all_dropping s.views))) (λ some. let own = are.own some in omega arith)
    (λ none. omega arith)) in
    omega arith
