-- A test that cuts a list holds of an item exactly if its number is below the cut.
use Rattle.std.proofs.Common.{◌≡◌, ◌+◌, ◌-◌, ◌*◌, ◌<◌, ◌≤◌, inl, inr, ℕ, zero, suc, Bool, true, List, [], ◌∷◌, length}
use Rattle.std.proofs.Common.{get_or, get_or-drop, get_or-take, length-drop, length-take, nat_lt, refl, ap, sym, ◌∙◌}
use Rattle.std.proofs.Common.{subst, take, arith, false, true≢false}
use Rattle.std.specs.Int.{from_bool}
use Rattle.std.specs.Prelude.{Some, slice_get}
use Rattle.std.proofs.lemmas.Bool.{cases_lt, le-ltb, lt-ltb}
use Rattle.std.proofs.lemmas.List.Elements.{All-tail}
use Rattle.std.proofs.lemmas.List.Sums.{prefix_len-le-length, prefix_len_passes}
use Rattle.std.proofs.lemmas.Option.{get_or_from_slice_get, slice_get-get_or, slice_get_within}
use Rattle.sequence.specs.Cuts.{HasCut, IsAmong, IsCut, first}
use Rattle.sequence.specs.Parts.{IsPart}
use Rattle.sequence.proofs.Lists.Parts.{part_all}

-- a number is below another as those are that are so much more
below_later : (i more n : ℕ) → more ≤ n → nat_lt (more + i) n ≡ nat_lt i (n - more)
below_later i more n h = elim (cases_lt (more + i) n) [
  | inl less ↦ lt-ltb (more + i) n less ∙ sym (lt-ltb i (n - more) (omega (arith, less)))
  | inr past ↦ le-ltb (more + i) n past ∙ sym (le-ltb i (n - more) (omega (arith, past)))
]

module _ {T : Type 0} (test : T → Bool) where
  -- a cut is behind the longest front that passes
  pub first_is : (es : List T) (at : ℕ) → IsCut test es at → first test es ≡ at
  first_is [] at is = omega (arith, is.within)
  first_is (e ∷ es) zero is = rw (is.behind 0 e (omega arith)) refl
  first_is (e ∷ es) (suc at) is =
      let rest = first_is es at (record {
        within = omega (arith, is.within);
        before = All-tail (λ e. test e ≡ true) e (take at es) is.before;
        behind = is.behind;
      }) in
      rw (is.before 0 e (omega arith)) (omega (arith, rest))

  module _ (es : List T) (has : HasCut test es) where
    pub first_cut : IsCut test es (first test es)
    first_cut = subst (IsCut test es) (sym (first_is es has.at has.is)) has.is

    pub cut_at : (at : ℕ) → at ≡ first test es → IsCut test es at
    cut_at at is = subst (IsCut test es) (sym is) first_cut

    pub test_at : (i : ℕ) (d : T) → i < length es → test (get_or es i d) ≡ nat_lt i (first test es)
    test_at i d within = elim (cases_lt i (first test es)) [
      | inl less ↦ prefix_len_passes test es i d less ∙ sym (lt-ltb i (first test es) less)
      | inr past ↦
          let at = first test es in
          let place : at + (i - at) ≡ i = omega (arith, past) in
          ap (λ (n : ℕ). test (get_or es n d)) (sym place) ∙ ap test (sym (get_or-drop at es (i - at) d))
          ∙ first_cut.behind (i - at) d (omega (arith, within, past, length-drop at es)) ∙ sym (le-ltb i at past)
    ]

    -- the same of an item that was read
    pub test_read : (i : ℕ) (e : T) → i < length es → e ≡ get_or es i e → test e ≡ nat_lt i (first test es)
    test_read i e within is = ap test is ∙ test_at i e within

    -- the cut is before all if the first item is not before it
    pub none_first : (e : T) → 0 < length es → e ≡ get_or es 0 e → test e ≡ false → IsCut test es 0
    none_first e some is not = elim (cases_lt 0 (first test es)) [
      | inl less ↦ absurd (true≢false (sym (lt-ltb 0 (first test es) less) ∙ sym (test_read 0 e some is) ∙ not))
      | inr past ↦ cut_at 0 (omega (arith, past))
    ]

  -- numbers below a number are tested alike
  pub cut_by : (es : List T) (at : ℕ) → at ≤ length es
      → ((i : ℕ) (d : T) → i < length es → test (get_or es i d) ≡ nat_lt i at) → IsCut test es at
  cut_by es at within by = record {
    within = within;
    before = λ i d h.
        let less : i < at = omega (arith, h, length-take at es) in
        ap test (get_or-take at es i d less) ∙ by i d (omega (arith, less, within)) ∙ lt-ltb i at less;
    behind = λ i d h.
        ap test (get_or-drop at es i d) ∙ by (at + i) d (omega (arith, h, length-drop at es))
        ∙ le-ltb (at + i) at (omega arith);
  }

  -- all have the cut in this part, which starts there, or before all
  pub record Holds (es : List T) (start : ℕ) (all : List T) : Type 0 where
    pub part : IsPart es start all
    pub among : IsAmong start (start + length es) (first test all)

  pub holds_all : (es : List T) → Holds es 0 es
  holds_all es = record {
    part = part_all es;
    among = record { behind = λ some. absurd (omega (arith, some)); up = omega (arith, prefix_len-le-length test es) };
  }

  module _ (part all : List T) (start : ℕ) (has : HasCut test all) (holds : Holds part start all) where
    pub starts_sooner : start ≤ first test all
    starts_sooner = elim (cases_lt 0 start) [
      | inl some ↦ omega (arith, holds.among.behind some)
      | inr none ↦ omega (arith, none)
    ]

    part_cut : IsCut test part (first test all - start)
    part_cut =
        cut_by part (first test all - start) (omega (arith, holds.among.up))
        (λ i d h.
        let item = get_or part i d in
        let here : slice_get all (start + i) ≡ Some item = sym (holds.part.at i h) ∙ slice_get-get_or part i d h in
        ap test (sym (get_or_from_slice_get all (start + i) item d here))
        ∙ test_at all has (start + i) d (slice_get_within all (start + i) item here)
        ∙ below_later i start (first test all) starts_sooner)

    pub has_part : HasCut test part
    has_part = record { at = first test all - start; is = part_cut }

    pub first_part : start + first test part ≡ first test all
    first_part = omega (arith, first_is part (first test all - start) part_cut, starts_sooner)

    -- no item of the part is before the cut only if it is before all
    pub none_front : first test part ≡ 0 → start ≡ 0
    none_front none = elim (cases_lt 0 start) [
      | inl some ↦ absurd (omega (arith, holds.among.behind some, first_part, none))
      | inr front ↦ omega (arith, front)
    ]

    -- so many of all are before the cut
    pub cut_there : (at : ℕ) → IsCut test part at → IsCut test all (start + at)
    cut_there at is = cut_at all has (start + at) (omega (arith, first_part, first_is part at is))

    pub none_before : IsCut test part 0 → IsCut test all 0
    none_before none =
        let first = first_is part 0 none in
        cut_at all has 0 (omega (arith, none_front first, first_part, first))

    -- and else the last of them is the last of all
    pub last_cut : (at : ℕ) → IsCut test part (at + 1) → IsCut test all (start + at + 1)
    last_cut at is = cut_at all has (start + at + 1) (omega (arith, first_part, first_is part (at + 1) is))

    pub last_item : (at : ℕ) (e : T) → at + 1 ≤ length part → e ≡ get_or part at e
        → slice_get all (start + at) ≡ Some e
    last_item at e within item =
        let inside : at < length part = omega (arith, within) in
        sym (holds.part.at at inside) ∙ slice_get-get_or part at e inside ∙ ap (λ (e : T). Some e) (sym item)

-- the quarter that begins behind as many of the three items as are before the cut
module _ (at q cut : ℕ) where
  pub record IsQuarter (n : ℕ) : Type 0 where
    pub most : q * n ≤ 3 * q
    pub among : IsAmong at (at + 4 * q) cut → IsAmong (at + q * n) (at + q * n + q) cut

  before : (n k : ℕ) → n ≡ from_bool (nat_lt k cut) → k < cut → n ≡ 1
  before n k is less = is ∙ ap from_bool (lt-ltb k cut less)

  behind : (n k : ℕ) → n ≡ from_bool (nat_lt k cut) → cut ≤ k → n ≡ 0
  behind n k is past = is ∙ ap from_bool (le-ltb k cut past)

  pub quarter : (a b c : ℕ) → a ≡ from_bool (nat_lt (at + q) cut) → b ≡ from_bool (nat_lt (at + 2 * q) cut)
      → c ≡ from_bool (nat_lt (at + 3 * q) cut) → IsQuarter (a + b + c)
  quarter a b c first second third = elim (cases_lt (at + q) cut) [
    | inr none ↦
        let count : 0 ≡ a + b + c = omega (
          arith,
          behind a _ first none,
          behind b _ second (omega (arith, none)),
          behind c _ third (omega (arith, none)),
        ) in
        subst IsQuarter count (record {
          most = omega arith;
          among = λ was. record {
            behind = λ some. omega (arith, was.behind (omega (arith, some)));
            up = omega (arith, none);
          };
        })
    | inl one ↦ elim (cases_lt (at + 2 * q) cut) [
      | inr past ↦
          let count : 1 ≡ a + b + c = omega (
            arith,
            before a _ first one,
            behind b _ second past,
            behind c _ third (omega (arith, past)),
          ) in
          subst IsQuarter count (record {
            most = omega arith;
            among = λ was. record { behind = λ _. omega (arith, one); up = omega (arith, past) };
          })
      | inl two ↦ elim (cases_lt (at + 3 * q) cut) [
        | inr past ↦
            let count : 2 ≡ a + b + c = omega (
              arith,
              before a _ first one,
              before b _ second two,
              behind c _ third past,
            ) in
            subst IsQuarter count (record {
              most = omega arith;
              among = λ was. record { behind = λ _. omega (arith, two); up = omega (arith, past) };
            })
        | inl three ↦
            let count : 3 ≡ a + b + c = omega (
              arith,
              before a _ first one,
              before b _ second two,
              before c _ third three,
            ) in
            subst IsQuarter count (record {
              most = omega arith;
              among = λ was. record { behind = λ _. omega (arith, three); up = omega (arith, was.up) };
            })
      ]
    ]
  ]
