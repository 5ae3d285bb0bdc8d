-- The splits and joins keep the rule, and so does the read of `meet`.
use Rattle.std.proofs.Common.{◌≡◌, ◌≢◌, ℕ, ◌+◌, ⊎_elim, nat_eq, List, [], ◌∷◌, ◌++◌, get_or, set, sym, refl, ap, ◌∙◌}
use Rattle.std.proofs.Common.{subst, arith, append-nil, All, sum_by, false, true≢false}
use Rattle.std.proofs.lemmas.List.Elements.{All-nil, All-cons, All-head, All-tail, All-append}
use Rattle.std.proofs.lemmas.List.Sums.{sum_by-append}
use mathlib.Core.Option.{none, some}
use lib.ListN.{get_elem?}
use Rattle.atomic_table.specs.Table.{step, keeps, Allows, Splits, Joins}
use Rattle.atomic_table.proofs.Lists.{at_set, at_snoc, set_else}
use Rattle.shared_count.specs.History.{Event, IsLegal, left_by}
use Rattle.shared_count.specs.Inside.Shares.{Known, Part, Half, Whole, Share, share, seeing, halves, is_in_drop, drops}
use Rattle.shared_count.specs.Inside.Shares.{all_but_first, first_alone, as_halves, with_note, as_in_note}
use Rattle.shared_count.specs.Inside.Rule.{Knows, Means, Keeps}
use Rattle.shared_count.specs.Inside.Steps.{SeatState, with_shares, with_part, with_both, Follows, BothSaw, TellsMeet}
use Rattle.shared_count.specs.Inside.Seats.{pass_at}
use Rattle.shared_count.proofs.Sums.{sum-set, sum-one, sum-split, sum-join, sum-first, halves_if, halves-cons}
use Rattle.shared_count.proofs.Sums.{halves-one, halves_if-same, halves_if-two, drops_in}
use Rattle.shared_count.proofs.Moves.{one_share, know_now, moves}

-- a seat's shares are parted, and nothing is lost
module _ (n id : ℕ) (v a b : List Share) (all_halves : (p : ℕ) → halves p a + halves p b ≡ halves p v)
    (all_drops : drops a + drops b ≡ drops v)
    (know : (log : List Event) → All (Knows n log) v → All (Knows n log) a × All (Knows n log) b) where
  pub parts : Splits {S = Unit {0}} (Keeps n) id v a b
  parts s k at = record {
    log = k.log;
    legal = k.legal;
    one_word = k.one_word;
    word = subst (Means (get_or s.words 0 0) (left_by n k.log)) (sym (sum-split drops s.views id v a b at all_drops))
        k.word;
    seats = λ j u e. ⊎_elim
        (λ h. ⊎_elim (λ t. subst (All (Knows n k.log)) t.1 both.0) (λ t. k.seats j u t.1)
        (at_set s.views id j a u h))
        (λ h. subst (All (Knows n k.log)) h both.1) (at_snoc (set s.views id a) b u j e);
    apart = λ p. let most = k.apart p in
        let same = sum-split (halves p) s.views id v a b at (all_halves p) in omega arith;
  } where
    both : All (Knows n k.log) a × All (Knows n k.log) b
    both = know k.log (k.seats id v at)

-- two seats' shares are joined, and nothing is made
module _ (n id other : ℕ) (v w b : List Share) (all_halves : (p : ℕ) → halves p b ≡ halves p w + halves p v)
    (all_drops : drops b ≡ drops w + drops v)
    (know : (log : List Event) → All (Knows n log) v → All (Knows n log) w → All (Knows n log) b) where
  pub joined : Joins {S = Unit {0}} (Keeps n) id v other w b []
  joined s k at ne there = record {
    log = k.log;
    legal = k.legal;
    one_word = k.one_word;
    word = subst (Means (get_or s.words 0 0) (left_by n k.log))
        (sym (sum-join drops s.views id other v w b [] at there refl all_drops)) k.word;
    seats = λ j u e. ⊎_elim (λ t. subst (All (Knows n k.log)) t.1 (All-nil (Knows n k.log)))
        (λ h. ⊎_elim (λ t. subst (All (Knows n k.log)) t.1 both) (λ t. k.seats j u t.1)
        (at_set s.views id j b u h.1))
        (at_set (set s.views id b) other j [] u e);
    apart = λ p. let most = k.apart p in
        let same = sum-join (halves p) s.views id other v w b [] at there refl (all_halves p) in omega arith;
  } where
    was : get_elem? s.views other ≡ some w
    was = sym (set_else s.views id other b ne) ∙ there

    both : All (Knows n k.log) b
    both = know k.log (k.seats id v at) (k.seats other w was)

know-first : (n : ℕ) (v : List Share) (log : List Event) → All (Knows n log) v
    → All (Knows n log) (all_but_first v) × All (Knows n log) (first_alone v)
know-first n [] log k = (k, k)
know-first n (s ∷ ss) log k =
    (All-tail (Knows n log) s ss k, one_share (Knows n log) s (All-head (Knows n log) s ss k))

pub deals : (n id : ℕ) (v : List Share) → Splits {S = Unit {0}} (Keeps n) id v (all_but_first v) (first_alone v)
deals n id v = parts n id v (all_but_first v) (first_alone v)
    (λ p. sum-first (λ s. halves_if (nat_eq p s.known.name) s.part) v) (sum-first (λ s. drops_in s.part) v)
    (know-first n v)

-- what is known of a pass does not depend on how much of it a seat has, a drop aside
know_as : {n : ℕ} {log : List Event} {x : Known} {part : Part} (part' : Part) → is_in_drop part' ≡ false
    → Knows n log (share x part) → Knows n log (share x part')
know_as part' calm k = record {
  opened = k.opened;
  begins = k.begins;
  owns = λ e. absurd (true≢false (sym (ap is_in_drop e) ∙ calm));
}

two_halves : (p : ℕ) (x : Known)
    → halves p (share x Half ∷ []) + halves p (share x Half ∷ []) ≡ halves p (share x Whole ∷ [])
two_halves p x =
    let half = halves-one p (share x Half) in
    let whole = halves-one p (share x Whole) in
    let two = halves_if-two (nat_eq p x.name) in
    omega arith

pub writes_note : (n id : ℕ) (x : Known) → let v : List Share = share x Whole ∷ [] in
    Splits {S = Unit {0}} (Keeps n) id v (as_halves v) (as_halves v)
writes_note n id x = let half : List Share = share x Half ∷ [] in
    parts n id (share x Whole ∷ []) half half (λ p. two_halves p x) refl
    (λ log k. let know = one_share (Knows n log) (share x Half)
    (know_as Half refl (All-head (Knows n log) (share x Whole) [] k)) in (know, know))

pub takes_note : (n id other : ℕ) (v w : List Share) → Joins {S = Unit {0}} (Keeps n)
    id v other w (with_note v w) []
takes_note n id other v w = joined n id other v w (w ++ v)
    (λ p. sum_by-append (λ s. halves_if (nat_eq p s.known.name) s.part) w v)
    (sum_by-append (λ s. drops_in s.part) w v) (λ log k l. All-append (Knows n log) w v l k)

pub takes_back : (n id other : ℕ) (x : Known) (h : List Event) (m note : SeatState) → m ≡ with_part x Half
    → note ≡ with_part (seeing x h) Half → Joins {S = Unit {0}} (Keeps n)
    id m.0 other note.0 (as_in_note m.0 note.0) []
takes_back n id other x h m note e f =
    subst (λ (z : SeatState). Joins {S = Unit {0}} (Keeps n) id z.0 other note.0 (as_in_note z.0 note.0) []) (sym e)
    (subst (λ (z : SeatState). Joins {S = Unit {0}} (Keeps n) id half other z.0 (as_in_note half z.0) [])
    (sym f) joins) where
      half : List Share
      half = share x Half ∷ []

      joins : Joins {S = Unit {0}} (Keeps n) id half other (share (seeing x h) Half ∷ [])
          (share (seeing x h) Whole ∷ []) []
      joins = joined n id other half (share (seeing x h) Half ∷ []) (share (seeing x h) Whole ∷ [])
          (λ p. sym (two_halves p x)) refl
          (λ log k l. one_share (Knows n log) (share (seeing x h) Whole)
          (know_as Whole refl (All-head (Knows n log) (share (seeing x h) Half) [] l)))

-- the read of `meet`, on a seat with a pass and a note
module _ (x y : Known) where
  abbrev Seat : List Share
  Seat = (with_both x y).0

  for_both : (P : Known → Known → Type 0) → P x y → (a b : Known) → with_both x y ≡ with_both a b → P a b
  for_both P p a b e =
      let first : x ≡ a = ap (λ (m : SeatState). pass_at (with_shares (all_but_first m.0))) e in
      subst (λ (z : Known). P z b) first (subst (P x) (ap pass_at e) p)

  pub meets : (n slots id : ℕ)
      → Allows (Keeps n) slots id (with_both x y) 0 (λ r. r) (TellsMeet (step slots 0 0 0 none) (with_both x y))
  meets n slots id s k _ at _ = (
    after,
    keeps,
    tt,
    moves n s k id Seat after [] k.log w at same (λ p few. refl) (append-nil k.log) k.legal knowing word,
    for_both (λ a b. BothSaw a b (with_shares after)) both,
  ) where
    w : ℕ
    w = get_or s.words 0 0

    after : List Share
    after = (with_both (seeing x k.log) (seeing y k.log)).0

    know : All (Knows n k.log) Seat
    know = k.seats id Seat at

    know_y : Knows n k.log (share y Half)
    know_y = All-head (Knows n k.log) (share y Half) (share x Whole ∷ []) know

    know_x : Knows n k.log (share x Whole)
    know_x = All-head (Knows n k.log) (share x Whole) []
        (All-tail (Knows n k.log) (share y Half) (share x Whole ∷ []) know)

    knowing : All (Knows n k.log) after
    knowing = All-cons (Knows n k.log) (share (seeing y k.log) Half) (share (seeing x k.log) Whole ∷ [])
        (know_now Half know_y (λ e. absurd (cc)))
        (one_share (Knows n k.log) (share (seeing x k.log) Whole) (know_now Whole know_x (λ e. absurd (cc))))

    same : (p : ℕ) → halves p after ≡ halves p Seat
    same p =
        let a = halves-cons p (share (seeing y k.log) Half) (share (seeing x k.log) Whole ∷ []) in
        let b = halves-one p (share (seeing x k.log) Whole) in
        let c = halves-cons p (share y Half) (share x Whole ∷ []) in
        let d = halves-one p (share x Whole) in
        omega arith

    word : Means w (left_by n k.log) (sum_by drops (set s.views id after))
    word = let sum = sum-set drops s.views id Seat after at in
        let unmoved : sum_by drops s.views ≡ sum_by drops (set s.views id after) = omega arith in
        subst (Means w (left_by n k.log)) unmoved k.word

    -- two halves of one name and one more would be three
    apart : x.name ≢ y.name
    apart e =
        let most = k.apart x.name in
        let here = sum-one (halves x.name) s.views id Seat at in
        let all = halves-cons x.name (share y Half) (share x Whole ∷ []) in
        let whole = halves-one x.name (share x Whole) in
        let two = halves_if-same x.name Whole in
        let half : halves_if (nat_eq x.name y.name) Half ≡ 1 =
        subst (λ (z : ℕ). halves_if (nat_eq x.name z) Half ≡ 1) e (halves_if-same x.name Half) in
        omega arith

    follows : (z : Known) (part : Part) → Knows n k.log (share z part) → Follows z k.log
    follows z part here =
        record { others = here.begins; legal = subst (λ m. IsLegal m k.log) (sym here.opened) k.legal }

    both : BothSaw x y (with_shares after)
    both = record {
      seen = k.log;
      first = follows x Whole know_x;
      second = follows y Half know_y;
      apart = apart;
      seat = refl;
    }
