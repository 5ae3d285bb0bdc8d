-- What differs between two maps, from the first keys on.
use Rattle.std.proofs.Common.{◌≡◌, ◌∙◌, true, false, Bool, cond, List, [], ◌∷◌, ◌++◌, refl, ap, sym, subst}
use Rattle.std.proofs.Common.{◌+◌, ◌<◌, append-nil, append_assoc, arith, drop, length, option_map, option_to_list}
use Rattle.std.specs.Prelude.{Option, None, Some}
use Rattle.std.specs.Borrow.{Bor}
use Rattle.std.specs.declared.cmp.Ordering.{Ordering}
use Rattle.std.specs.declared.cmp.Ordering.TheVariants.{Less, Equal, Greater}
use Rattle.std.specs.Cmp.{IsTotalOrder}
use Rattle.std.specs.Ordering.{is_eq, is_ge, is_le}
use Rattle.std.proofs.lemmas.Cmp.{alike_right}
use Rattle.std.proofs.lemmas.List.{map-append}
use Rattle.std.proofs.lemmas.Option.{same_Some}
use Rattle.maps.specs.declared.entries.diff.DiffItem.{DiffItem}
use Rattle.maps.specs.Differences.{as_entry, change_of, difference, first_change, listed, sides}
use Rattle.maps.specs.Maps.{IsRising, lookup}
use Rattle.maps.specs.Places.{AreAbove}
use Rattle.maps.specs.Queries.{key_form}
use Rattle.maps.proofs.Between.{found_none}
use Rattle.maps.proofs.Order.{Rises, above_alike, above_more, eq_from, from, to, turned}

-- one more change, if it is there, stands before what follows
listed_more : {K V : Type 0} (changes more : List (Bor K × DiffItem V)) (change : Option (Bor K × DiffItem V))
    (cs : List (K × (Option V × Option V))) → more ≡ changes ++ option_to_list change
    → listed more ++ cs ≡ listed changes ++ (option_to_list (option_map as_entry change) ++ cs)
listed_more changes more None cs is = ap (λ xs. listed xs ++ cs) (is ∙ append-nil changes)
listed_more changes more (Some c) cs is =
    ap (λ xs. listed xs ++ cs) is ∙ ap (λ xs. xs ++ cs) (map-append (λ c. (c.0.now, sides c.1)) changes (c ∷ []))
    ∙ append_assoc (listed changes) (as_entry c ∷ []) cs

-- what is left once the first item was passed, or was not
abbrev pub past : {X : Type 0} → Bool → List X → List X
past goes xs = cond goes (drop 1 xs) xs

module _ {K V : Type 0} (cmp : K → K → Ordering) (eq : V → V → Bool) where
  -- these are the differences of two maps
  pub record AreBetween (es fs : List (K × V)) (cs : List (K × (Option V × Option V))) : Type 0 where
    pub above : (k : K) → AreAbove (cmp k) es → AreAbove (cmp k) fs → AreAbove (cmp k) cs
    pub rises : Rises cmp es → Rises cmp fs → Rises cmp cs
    pub under : Rises cmp es → Rises cmp fs → (k : K)
        → lookup cmp k cs ≡ difference eq (lookup cmp k es) (lookup cmp k fs)

  between_none : AreBetween [] [] []
  between_none = record { above = λ k a b. tt; rises = λ r s. tt; under = λ r s k. refl }

  -- whatever differs behind the first change, that change stands before it
  abbrev Leads : List (K × V) → List (K × V) → Option (Ordering × Option (K × (Option V × Option V))) → Type 0
  Leads es fs None = Unit {0}
  Leads es fs (Some s) = (cs : List (K × (Option V × Option V)))
      → AreBetween (past (is_le s.0) es) (past (is_ge s.0) fs) cs → AreBetween es fs (option_to_list s.1 ++ cs)

  module _ (total : IsTotalOrder cmp) where
    -- a key that is equal to another is below the same
    below_alike : (j k : K) (es : List (K × V)) → cmp j k ≡ Equal → AreAbove (cmp k) es → AreAbove (cmp j) es
    below_alike j = above_alike cmp (cmp j) (key_form total j)

    -- a key that only the older map has
    removed : (e : K × V) (es fs : List (K × V)) (cs : List (K × (Option V × Option V)))
        → (Rises cmp fs → AreAbove (cmp e.0) fs) → AreBetween es fs cs
        → AreBetween (e ∷ es) fs ((e.0, (Some e.1, None)) ∷ cs)
    removed e es fs cs out is = record {
      above = λ k a b. (a.0, is.above k a.1 b);
      rises = λ r s. (is.above e.0 r.0 (out s), is.rises r.1 s);
      under = λ r s k. elim (is_eq (cmp k e.0)) as (λ t. is_eq (cmp k e.0) ≡ t
          → cond t (Some (Some e.1, None)) (lookup cmp k cs)
          ≡ difference eq (cond t (Some e.1) (lookup cmp k es)) (lookup cmp k fs)) [
            | true ↦ λ h. sym (ap (difference eq (Some e.1))
                (found_none (cmp k) (λ e. e.1) fs (below_alike k e.0 fs (eq_from (cmp k e.0) h) (out s))))
            | false ↦ λ h. is.under r.1 s k
          ] refl;
    }

    -- a key that only the newer map has
    added : (f : K × V) (es fs : List (K × V)) (cs : List (K × (Option V × Option V)))
        → (Rises cmp es → AreAbove (cmp f.0) es) → AreBetween es fs cs
        → AreBetween es (f ∷ fs) ((f.0, (None, Some f.1)) ∷ cs)
    added f es fs cs out is = record {
      above = λ k a b. (b.0, is.above k a b.1);
      rises = λ r s. (is.above f.0 (out r) s.0, is.rises r s.1);
      under = λ r s k. elim (is_eq (cmp k f.0)) as (λ t. is_eq (cmp k f.0) ≡ t
          → cond t (Some (None, Some f.1)) (lookup cmp k cs)
          ≡ difference eq (lookup cmp k es) (cond t (Some f.1) (lookup cmp k fs))) [
            | true ↦ λ h. sym (ap (λ x. difference eq x (Some f.1))
                (found_none (cmp k) (λ e. e.1) es (below_alike k f.0 es (eq_from (cmp k f.0) h) (out r))))
            | false ↦ λ h. is.under r s.1 k
          ] refl;
    }

    -- a key of both
    both : (e f : K × V) (es fs : List (K × V)) (cs : List (K × (Option V × Option V))) → cmp e.0 f.0 ≡ Equal
        → AreBetween es fs cs → AreBetween (e ∷ es) (f ∷ fs) (option_to_list (change_of eq Equal e f) ++ cs)
    both e f es fs cs alike is =
        let none = λ (r : Rises cmp (e ∷ es)) (s : Rises cmp (f ∷ fs)) (k : K) (h : is_eq (cmp k e.0) ≡ true).
        let here = eq_from (cmp k e.0) h in
        is.under r.1 s.1 k
        ∙ ap (λ x. difference eq x (lookup cmp k fs)) (found_none (cmp k) (λ e. e.1) es (below_alike k e.0 es here r.0))
        ∙ ap (difference eq None) (found_none (cmp k) (λ e. e.1) fs
        (below_alike k f.0 fs (sym (alike_right total e.0 f.0 k alike) ∙ here) s.0)) in
        elim (eq e.1 f.1) as (λ t. eq e.1 f.1 ≡ t → AreBetween (e ∷ es) (f ∷ fs)
        (option_to_list (cond t None (Some (e.0, (Some e.1, Some f.1)))) ++ cs)) [
          | true ↦ λ same. record {
            above = λ k a b. is.above k a.1 b.1;
            rises = λ r s. is.rises r.1 s.1;
            under = λ r s k. rw (sym (alike_right total e.0 f.0 k alike)) (elim (is_eq (cmp k e.0)) as (λ t.
                is_eq (cmp k e.0) ≡ t → lookup cmp k cs
                ≡ difference eq (cond t (Some e.1) (lookup cmp k es)) (cond t (Some f.1) (lookup cmp k fs))) [
                  | true ↦ λ h. none r s k h ∙ sym (ap (λ t. cond t None (Some (Some e.1, Some f.1))) same)
                  | false ↦ λ h. is.under r.1 s.1 k
                ] refl);
          }
          | false ↦ λ unlike. record {
            above = λ k a b. (a.0, is.above k a.1 b.1);
            rises = λ r s. (is.above e.0 r.0 (below_alike e.0 f.0 fs alike s.0), is.rises r.1 s.1);
            under = λ r s k. rw (sym (alike_right total e.0 f.0 k alike)) (elim (is_eq (cmp k e.0)) as (λ t.
                cond t (Some (Some e.1, Some f.1)) (lookup cmp k cs)
                ≡ difference eq (cond t (Some e.1) (lookup cmp k es)) (cond t (Some f.1) (lookup cmp k fs))) [
                  | true ↦ sym (ap (λ t. cond t None (Some (Some e.1, Some f.1))) unlike)
                  | false ↦ is.under r.1 s.1 k
                ]);
          }
        ] refl

    leads : (es fs : List (K × V)) → Leads es fs (first_change cmp eq es fs)
    leads [] [] = tt
    leads (e ∷ es) [] = λ cs is. removed e es [] cs (λ s. tt) is
    leads [] (f ∷ fs) = λ cs is. added f [] fs cs (λ r. tt) is
    leads (e ∷ es) (f ∷ fs) =
        elim (cmp e.0 f.0) as (λ o. cmp e.0 f.0 ≡ o → Leads (e ∷ es) (f ∷ fs) (Some (o, change_of eq o e f))) [
          | Less ↦ λ h cs is.
              removed e es (f ∷ fs) cs
              (λ s. (h, above_more cmp (cmp e.0) (key_form total e.0) f.0 fs h s.0)) is
          | Equal ↦ λ h cs is. both e f es fs cs h is
          | Greater ↦ λ h cs is.
              let below = turned total e.0 f.0 h in
              added f (e ∷ es) fs cs (λ r. (below, above_more cmp (cmp f.0) (key_form total f.0) e.0 es below r.0)) is
        ] refl

  fewer : (es fs : List (K × V)) (o : Ordering) (change : Option (K × (Option V × Option V)))
      → Some (o, change) ≡ first_change cmp eq es fs
      → length (past (is_le o) es) + length (past (is_ge o) fs) < length es + length fs
  fewer [] [] o change first = cc
  fewer (e ∷ es) [] o change first = rw (ap (λ s. s.0) (same_Some _ _ first)) (omega arith)
  fewer [] (f ∷ fs) o change first = rw (ap (λ s. s.0) (same_Some _ _ first)) (omega arith)
  fewer (e ∷ es) (f ∷ fs) Less change first = omega arith
  fewer (e ∷ es) (f ∷ fs) Equal change first = omega arith
  fewer (e ∷ es) (f ∷ fs) Greater change first = omega arith

  -- a step past the first change leaves fewer entries
  pub fewer_left : (change : Option (K × (Option V × Option V))) (es fs as_es as_fs : List (K × V)) (o : Ordering)
      (a b : Bool) → Some (o, change) ≡ first_change cmp eq es fs → a ≡ is_le o → b ≡ is_ge o → as_es ≡ past a es
      → as_fs ≡ past b fs → length as_es + length as_fs < length es + length fs
  fewer_left change es fs as_es as_fs o a b first le ge olds news = omega (
    arith,
    ap (λ xs. length xs) (olds ∙ ap (λ goes. past goes es) le),
    ap (λ xs. length xs) (news ∙ ap (λ goes. past goes fs) ge),
    fewer es fs o change first,
  )

  module _ (old new : List (K × V)) where
    -- what was found and what differs in what is left are all differences
    abbrev pub AreFound : List (Bor K × DiffItem V) → List (K × V) → List (K × V) → Type 0
    AreFound changes es fs = (cs : List (K × (Option V × Option V))) → AreBetween es fs cs
        → AreBetween old new (listed changes ++ cs)

    -- one step goes past the first change
    pub found_after : IsTotalOrder cmp → (changes more : List (Bor K × DiffItem V))
        (change : Option (Bor K × DiffItem V)) (es fs as_es as_fs : List (K × V)) (o : Ordering) (a b : Bool)
        → Some (o, option_map as_entry change) ≡ first_change cmp eq es fs → a ≡ is_le o → b ≡ is_ge o
        → as_es ≡ past a es → as_fs ≡ past b fs → more ≡ changes ++ option_to_list change → AreFound changes es fs
        → AreFound more as_es as_fs
    found_after total changes more change es fs as_es as_fs o a b first le ge olds news is found cs left =
        let step = subst (Leads es fs) (sym first) (leads total es fs) in
        let was = subst (λ xs. AreBetween xs (past (is_ge o) fs) cs) (olds ∙ ap (λ goes. past goes es) le)
        (subst (λ ys. AreBetween as_es ys cs) (news ∙ ap (λ goes. past goes fs) ge) left) in
        subst (λ ds. AreBetween old new ds) (sym (listed_more changes more change cs is))
        (found (option_to_list (option_map as_entry change) ++ cs) (step cs was))

    -- at the end all is found
    pub found_all : IsRising cmp old → IsRising cmp new → (changes : List (Bor K × DiffItem V)) (es fs : List (K × V))
        → None ≡ first_change cmp eq es fs → AreFound changes es fs
        → ((k : K) → lookup cmp k (listed changes) ≡ difference eq (lookup cmp k old) (lookup cmp k new))
        × IsRising cmp (listed changes)
    found_all s t changes [] [] first found =
        let all = subst (AreBetween old new) (append-nil (listed changes)) (found [] between_none) in
        (all.under (to cmp old s) (to cmp new t), from cmp (listed changes) (all.rises (to cmp old s) (to cmp new t)))
    found_all s t changes (e ∷ es) [] first found = cc
    found_all s t changes [] (f ∷ fs) first found = cc
    found_all s t changes (e ∷ es) (f ∷ fs) first found = cc
