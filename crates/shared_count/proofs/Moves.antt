-- A step on one seat keeps the rule.
use Rattle.std.proofs.Common.{◌≡◌, ◌≢◌, ℕ, ◌+◌, ◌<◌, ⊎_elim, nat_eq, List, [], ◌∷◌, ◌++◌, get_or, set, sym, refl, ap}
use Rattle.std.proofs.Common.{◌∙◌, subst, arith, append-nil, length-set, get_or-set_same, All, sum_by}
use Rattle.std.proofs.lemmas.List.Elements.{All-nil, All-cons, All-head, All-tail}
use mathlib.Core.Option.{some}
use lib.ListN.{get_elem?}
use Rattle.atomic_table.specs.Table.{State, keeps, stepped, Allows}
use Rattle.atomic_table.proofs.Lists.{at_set}
use Rattle.shared_count.specs.History.{Call, Event, CountState, next, IsReply, IsLegal, left_by, owned_by, calls_of}
use Rattle.shared_count.specs.Inside.Shares.{Known, Part, Whole, InDrop, Share, share, seeing, halves_in, halves, drops}
use Rattle.shared_count.specs.Extends.{OthersExtend, event}
use Rattle.shared_count.specs.Inside.Rule.{Knows, Means, Keeps}
use Rattle.shared_count.specs.Inside.Steps.{SeatState, with_part, Sees, Made}
use Rattle.shared_count.specs.Inside.Seats.{pass_at}
use Rattle.shared_count.proofs.Histories.{owned_by-others, others-refl, others-append, no_calls, legal-call}
use Rattle.shared_count.proofs.Histories.{left_by-call}
use Rattle.shared_count.proofs.Sums.{sum-set, sum-two, halves_if, halves-cons, halves-one, halves_if-same, halves_if-as}
use Rattle.shared_count.proofs.Sums.{halves_in-some, drops_in, drops-one}

abbrev pub Table : Type 0
Table = State (Unit {0}) (List Share)

-- the rule allows a step that makes the word f of what it was to each pass that owns a handle
pub record May (n slots id : ℕ) (part : Part) (f : ℕ → ℕ) (says : SeatState → ℕ → SeatState → Type 0) : Type 0 where
  pub allows : (x : Known) → 0 < owned_by n x.name x.seen
      → Allows (Keeps n) slots id (with_part x part) 0 f (says (with_part x part))

-- what holds of the one share of a seat
pub one_share : (P : Share → Type 0) (s : Share) → P s → All P (s ∷ [])
one_share P s p = All-cons P s [] p (All-nil P)

-- shares still know a beginning of the log after calls of others
pub know_more : (n : ℕ) (log d : List Event) (v : List Share) → All (Knows n log) v
    → ((p : ℕ) → 0 < halves p v → calls_of p d ≡ []) → All (Knows n (log ++ d)) v
know_more n log d [] k out = All-nil (Knows n (log ++ d))
know_more n log d (s ∷ ss) k out =
    let p : ℕ = s.known.name in
    let here : Knows n log s = All-head (Knows n log) s ss k in
    let some = halves_in-some s.part in
    let own = halves_if-same p s.part in
    let all = halves-cons p s ss in
    let none : calls_of p d ≡ [] = out p (omega arith) in
    let same = owned_by-others n p log (log ++ d) (record { added = d; begins = refl; no_own = none }) in
    All-cons (Knows n (log ++ d)) s ss
    (record {
      opened = here.opened;
      begins = others-append p s.known.seen log d here.begins none;
      owns = λ e. let owner = here.owns e in omega arith;
    })
    (know_more n log d ss (All-tail (Knows n log) s ss k)
    (λ x pos. let sum = halves-cons x s ss in out x (omega arith)))

-- a pass that looks knows the whole log
pub know_now : {n : ℕ} {log : List Event} {x : Known} {part : Part} (part' : Part) → Knows n log (share x part)
    → (part' ≡ InDrop → 0 < owned_by n x.name log) → Knows n log (share (seeing x log) part')
know_now {log = log} {x = x} part' here own =
    record { opened = here.opened; begins = others-refl x.name log; owns = own }

-- the seat id gets other shares, the log gets the events d, and the word becomes w
module _ (n : ℕ) (s : Table) (k : Keeps n s) (id : ℕ) (v v' : List Share) (d log : List Event) (w : ℕ) where
  pub moves : get_elem? s.views id ≡ some v → ((p : ℕ) → halves p v' ≡ halves p v)
      → ((p : ℕ) → halves p v < 2 → calls_of p d ≡ []) → k.log ++ d ≡ log → IsLegal n log → All (Knows n log) v'
      → Means w (left_by n log) (sum_by drops (set s.views id v')) → Keeps n (stepped s 0 w id [] v' keeps)
  moves at same out grown legal know stands = record {
    log = log;
    legal = legal;
    one_word = length-set s.words 0 w ∙ k.one_word;
    word = subst (λ z. Means z (left_by n log) (sum_by drops (set s.views id v'))) (sym word) stands;
    seats = λ j u e. ⊎_elim (λ t. subst (All (Knows n log)) t.1 know) (λ t. others j u t.0 t.1)
        (at_set s.views id j v' u e);
    apart = λ p. let most = k.apart p in let sum = sum-set (halves p) s.views id v v' at in let is = same p in
        omega arith;
  } where
    word : get_or (set s.words 0 w) 0 0 ≡ w
    word = get_or-set_same s.words 0 w 0 (omega arith)

    others : (j : ℕ) (u : List Share) → j ≢ id → get_elem? s.views j ≡ some u → All (Knows n log) u
    others j u ne there = subst (λ h. All (Knows n h) u) grown
        (know_more n k.log d u (k.seats j u there) (λ p pos. out p (
        let two = sum-two (halves p) s.views id j u v [] refl ne at there in let most = k.apart p in omega arith)))

-- a step by the seat of this part of the pass x, which makes the word w
module _ (n : ℕ) (s : Table) (k : Keeps n s) (id : ℕ) (x : Known) (part : Part) (w : ℕ)
    (at : get_elem? s.views id ≡ some (share x part ∷ [])) where
  pub know : Knows n k.log (share x part)
  know = All-head (Knows n k.log) (share x part) [] (k.seats id (share x part ∷ []) at)

  alike : (y : Known) (part' : Part) → y.name ≡ x.name → halves_in part' ≡ halves_in part
      → (p : ℕ) → halves p (share y part' ∷ []) ≡ halves p (share x part ∷ [])
  alike y part' name same p =
      halves-one p (share y part') ∙ ap (λ (z : ℕ). halves_if (nat_eq p z) part') name
      ∙ halves_if-as (nat_eq p x.name) part' part same ∙ sym (halves-one p (share x part))

  -- the pass has no half elsewhere, and makes a call
  module _ (c : Call) where
    abbrev pub called : Known
    called = seeing x (k.log ++ event x.name c ∷ [])

    pub calls : halves_in part ≡ 2 → 0 < owned_by n x.name x.seen → IsReply (left_by n k.log) x.name c
        → Means w (next (left_by n k.log) x.name c) (sum_by drops (set s.views id (share called Whole ∷ [])))
        → Keeps n (stepped s 0 w id [] (share called Whole ∷ []) keeps) × Made x c (with_part called Whole)
    calls two own reply stands = (
      moves n s k id (share x part ∷ []) (share called Whole ∷ []) (event x.name c ∷ []) called.seen
          w at (alike called Whole refl (sym two)) out refl legal
          (one_share (Knows n called.seen) (share called Whole) after) (subst M (sym left) stands),
      record {
        seen = called.seen;
        call = record { before = k.log; others = know.begins; ends = refl };
        sees = record { seat = refl; legal = subst (λ m. IsLegal m called.seen) (sym know.opened) legal };
      },
    ) where
      after : Knows n called.seen (share called Whole)
      after = record { opened = know.opened; begins = others-refl x.name called.seen; owns = λ e. absurd (cc) }

      out : (p : ℕ) → halves p (share x part ∷ []) < 2 → calls_of p (event x.name c ∷ []) ≡ []
      out p few = no_calls p x.name c (λ e.
          let is : halves_if (nat_eq p x.name) part ≡ halves_in part =
          subst (λ (z : ℕ). halves_if (nat_eq z x.name) part ≡ halves_in part) (sym e)
          (halves_if-same x.name part) in
          let all = halves-one p (share x part) in
          absurd (omega arith))

      M : CountState → Type 0
      M l = Means w l (sum_by drops (set s.views id (share called Whole ∷ [])))

      left : left_by n called.seen ≡ next (left_by n k.log) x.name c
      left = left_by-call n x.name c k.log

      legal : IsLegal n called.seen
      legal = let more = owned_by-others n x.name x.seen k.log know.begins in
          legal-call n x.name c k.log k.legal (omega arith) reply

  -- the pass looks at the log, and begins a drop or not
  module _ (part' : Part) where
    abbrev pub looked : Known
    looked = seeing x k.log

    pub looks : halves_in part' ≡ halves_in part → (part' ≡ InDrop → 0 < owned_by n x.name x.seen)
        → Means w (left_by n k.log) (sum_by drops (set s.views id (share looked part' ∷ [])))
        → Keeps n (stepped s 0 w id [] (share looked part' ∷ []) keeps) × OthersExtend x.name x.seen k.log
        × Sees x part' k.log (with_part looked part')
    looks same own stands = (
      moves n s k id (share x part ∷ []) (share looked part' ∷ []) [] k.log w at (alike looked part' refl same)
          (λ p few. refl) (append-nil k.log) k.legal
          (one_share (Knows n k.log) (share looked part') (know_now part' know (λ e. owner (own e)))) stands,
      know.begins,
      record { seat = refl; legal = subst (λ m. IsLegal m k.log) (sym know.opened) k.legal },
    ) where
      owner : 0 < owned_by n x.name x.seen → 0 < owned_by n x.name k.log
      owner here = let more = owned_by-others n x.name x.seen k.log know.begins in omega arith

-- the drops in flight, after a pass has another part
pub drops-set : (l : List (List Share)) (id : ℕ) (x y : Known) (part part' : Part)
    → get_elem? l id ≡ some (share x part ∷ [])
    → sum_by drops (set l id (share y part' ∷ [])) + drops_in part ≡ sum_by drops l + drops_in part'
drops-set l id x y part part' at =
    let sum = sum-set drops l id (share x part ∷ []) (share y part' ∷ []) at in
    let one = drops-one (share x part) in
    let other = drops-one (share y part') in
    omega arith

-- a fact about the pass of a seat
pub for_known : (x : Known) (part : Part) (P : Known → Type 0) → P x
    → (z : Known) → with_part x part ≡ with_part z part → P z
for_known x part P p z e = subst P (ap pass_at e) p
