-- A new core, and a run of steps.
use Rattle.counting_core.proofs.Names.{◌≡◌, ℕ, ◌+◌, ◌<◌, ◌++◌, List, [], ◌∷◌, length, length-append, get_or, take}
use Rattle.counting_core.proofs.Names.{replicate, refl, sym, ◌∙◌, ap, subst, arith, inl, inr, cases_lt, take_more}
use Rattle.counting_core.proofs.Names.{get_or-replicate, length-replicate, get_or-eq_default, fun_ext, IsLimit}
use Rattle.counting_core.proofs.Names.{stands-new, Activity, Idle, Step, Answer, Trace, Open, Then, then_all}
use Rattle.counting_core.proofs.Names.{HandleState, unborn, newborn, CoreState, Represents, Continues, ContinuesAll}
use Rattle.counting_core.proofs.Steps.Edits.{get_or-push}

owner-replicate : (n q : ℕ) → get_or (replicate n Idle) q Idle ≡ Idle
owner-replicate n q =
    elim (cases_lt q n) [
      | inl lt ↦ get_or-replicate n q Idle Idle lt
      | inr le ↦ get_or-eq_default (replicate n Idle) Idle (let e : length (replicate n Idle)
          ≡ n = length-replicate n Idle in omega arith)
    ]

module _ {V : Type 0} where
  -- a core as it is made
  pub opens : (v : V) (n limit : ℕ) → IsLimit limit → (before handles : List HandleState) (owners : List Activity)
      → before ≡ [] → handles ≡ before ++ newborn 0 ∷ [] → owners ≡ replicate n Idle
      → Represents (record { value = v; word = 1; limit = limit; handles = handles; owners = owners }) (Open v n limit)
  opens v n limit is_limit before handles owners none one idles = record {
    legal = is_limit;
    same_state = λ i. record {
      owners = (ap length idles ∙ length-replicate n Idle) i;
      handle = (ap (λ (l : List HandleState). λ h. get_or l h unborn)
          (one ∙ ap (λ (l : List HandleState). l ++ newborn 0 ∷ []) none) ∙ get_or-push [] unborn (newborn 0)) i;
      activity = fun_ext idle_all i;
    };
    same_value = refl;
    same_limit = refl;
    same_births = ap length (one ∙ ap (λ (l : List HandleState). l ++ newborn 0 ∷ []) none);
    word = stands-new 1 _ (omega arith);
  } where
    idle_all : (q : ℕ) → get_or owners q Idle ≡ Idle
    idle_all q = ap (λ (l : List Activity). get_or l q Idle) idles ∙ owner-replicate n q

  then_all-more : (t : Trace V) (steps : List (Step V)) (answers : List (Answer V)) (s : Step V) (a : Answer V)
      → length answers ≡ length steps
      → then_all t (steps ++ s ∷ []) (answers ++ a ∷ []) ≡ Then (then_all t steps answers) s a
  then_all-more t [] [] s a e = refl
  then_all-more t [] (b ∷ bs) s a e = absurd (omega arith)
  then_all-more t (x ∷ xs) [] s a e = absurd (omega arith)
  then_all-more t (x ∷ xs) (b ∷ bs) s a e = then_all-more (Then t x b)
      xs bs s a (let same : length bs ≡ length xs = omega arith in same)

  -- a run goes on by a step
  pub continues_all-more : (old mid new : CoreState V) (steps : List (Step V)) (i : ℕ)
      (before all : List (Answer V)) (s : Step V) (a : Answer V)
      → i < length steps → s ≡ get_or steps i s → ContinuesAll old (take i steps)
      before mid → Continues mid s a new
      → all ≡ before ++ a ∷ [] → ContinuesAll old (take (i + 1) steps) all new
  continues_all-more old mid new steps i before all s a lt is ran step grown =
      let more : take (i + 1) steps ≡ take i steps ++ s ∷ [] = take_more steps i s lt ∙ ap (λ y. take i steps
      ++ y ∷ []) (sym is) in
      subst (λ (xs : List (Step V)). ContinuesAll old xs all new) (sym more)
      (subst (λ (made : List (Answer V)). ContinuesAll old (take i steps ++ s ∷ []) made new) (sym grown) (record {
        one_each = length-append before (a ∷ []) ∙ ap (λ n. n + 1)
            ran.one_each ∙ sym (length-append (take i steps) (s ∷ []));
        represents = λ t r.
            subst (λ (u : Trace V). Represents new u) (sym (then_all-more t (take i steps) before s a ran.one_each))
            (step (then_all t (take i steps) before) (ran.represents t r));
      }))
