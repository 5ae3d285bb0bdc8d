-- What is in flight, by the standings of the handles and the counts found, and how that changes by one step.
use Rattle.counting_core.proofs.Names.{◌≡◌, ℕ, suc, ◌<◌, true, false, nat_eq, List, ◌∷◌, length, refl, sym, ◌∙◌, ap}
use Rattle.counting_core.proofs.Names.{arith, true≢false, Contains, Standing, dropping, has_ended, Activity, Idle}
use Rattle.counting_core.proofs.Names.{Cloning, Dropping, handle_in, put, is_dropping}
use Rattle.counting_core.proofs.Traces.Places.{put-all, put-here}
use Rattle.counting_core.proofs.Traces.HandleLists.{nat_eq-same}

no-drop : (c : Activity) (h : ℕ) → is_dropping c ≡ false → c ≡ Dropping h → ⊥
no-drop c h is e = true≢false (sym (ap is_dropping e) ∙ is)

-- What the owners are in the middle of, by the standings and the counts found: a clone saw what was found through its
-- handle, and the handles of the drops in flight are those that are dropping.
pub record Flights (standing : ℕ → Standing) (found : List (ℕ × ℕ)) (doing : ℕ → Activity) : Type 0 where
  pub clones : (o h n : ℕ) → doing o ≡ Cloning h n → Contains found (h, n)
  pub drops : (o h : ℕ) → doing o ≡ Dropping h → standing h ≡ dropping
  pub dropper : (h : ℕ) → standing h ≡ dropping → (o : ℕ) × (doing o ≡ Dropping h)

module _ (standing : ℕ → Standing) (found : List (ℕ × ℕ)) (doing : ℕ → Activity) (f : Flights standing found doing)
  where
    -- a count more is found
    pub finds : (x : ℕ × ℕ) → Flights standing (x ∷ found) doing
    finds x = record {
      clones = λ o h n e. let c : Contains found (h, n) = f.clones o h n e in
          let low : c.0 < length found = c.1 in (suc c.0, omega arith, c.2);
      drops = f.drops;
      dropper = f.dropper;
    }

    -- the drop of another owner goes on
    other-drop : (o : ℕ) (c : Activity) (h : ℕ) → (doing o ≡ Dropping h → ⊥) → (q : ℕ) × (doing q ≡ Dropping h)
        → (q : ℕ) × (put doing o c q ≡ Dropping h)
    other-drop o c h another d = (
      d.0,
      put-all doing o c (λ q b. doing q ≡ Dropping h → b ≡ Dropping h) (λ i. absurd (another i)) (λ _ _ i. i) d.0 d.1,
    )

    -- an owner that drops nothing goes on to something else
    pub goes-on : (o : ℕ) (c : Activity) → is_dropping (doing o) ≡ false → is_dropping c ≡ false
        → ((h n : ℕ) → c ≡ Cloning h n → Contains found (h, n)) → Flights standing found (put doing o c)
    goes-on o c was is saw = record {
      clones = λ q h n. put-all doing o c (λ q d. d ≡ Cloning h n → Contains found (h, n)) (saw h n)
          (λ q _. f.clones q h n) q;
      drops = λ q h. put-all doing o c (λ q d. d ≡ Dropping h → standing h ≡ dropping)
          (λ e. absurd (no-drop c h is e)) (λ q _. f.drops q h) q;
      dropper = λ h e. other-drop o c h (no-drop (doing o) h was) (f.dropper h e);
    }

    -- a handle that is not dropping gets another standing
    pub stands : (h : ℕ) (x : Standing) → (standing h ≡ dropping → ⊥) → (x ≡ dropping → ⊥)
        → Flights (put standing h x) found doing
    stands h x was is = record {
      clones = f.clones;
      drops = λ q k e. put-all standing h x (λ k z. standing k ≡ dropping → z ≡ dropping) (λ i. absurd (was i))
          (λ _ _ i. i) k (f.drops q k e);
      dropper = λ k e. f.dropper k (put-all standing h x (λ k z. z ≡ dropping → standing k ≡ dropping)
          (λ i. absurd (is i)) (λ _ _ i. i) k e);
    }

    -- the drop of a handle begins
    pub drop-begins : (o h : ℕ) → is_dropping (doing o) ≡ false
        → Flights (put standing h dropping) found (put doing o (Dropping h))
    drop-begins o h was = record {
      clones = λ q k n. put-all doing o (Dropping h) (λ q d. d ≡ Cloning k n → Contains found (k, n))
          (λ e. absurd (cc)) (λ q _. f.clones q k n) q;
      drops = λ q k. put-all doing o (Dropping h) (λ q d. d ≡ Dropping k → put standing h dropping k ≡ dropping)
          (λ e. ap (put standing h dropping) (sym (ap handle_in e)) ∙ put-here standing h dropping)
          (λ q _ e. put-all standing h dropping (λ k z. standing k ≡ dropping → z ≡ dropping) (λ _. refl) (λ _ _ i. i) k
          (f.drops q k e)) q;
      dropper = put-all standing h dropping
          (λ k z. z ≡ dropping → (q : ℕ) × (put doing o (Dropping h) q ≡ Dropping k))
          (λ _. (o, put-here doing o (Dropping h)))
          (λ k _ e. other-drop o (Dropping h) k (no-drop (doing o) k was) (f.dropper k e));
    }

    -- and ends
    pub drop-ends : (o h : ℕ) → doing o ≡ Dropping h → ((q : ℕ) → doing q ≡ Dropping h → nat_eq o q ≡ true)
        → Flights (put standing h has_ended) found (put doing o Idle)
    drop-ends o h busy alone = record {
      clones = λ q k n. put-all doing o Idle (λ q d. d ≡ Cloning k n → Contains found (k, n))
          (λ e. absurd (cc)) (λ q _. f.clones q k n) q;
      drops = λ q k. put-all doing o Idle (λ q d. d ≡ Dropping k → put standing h has_ended k ≡ dropping)
          (λ e. absurd (cc))
          (λ q other e. put-all standing h has_ended (λ k z. doing q ≡ Dropping k → z ≡ dropping)
          (λ i. absurd (true≢false (sym (alone q i) ∙ other))) (λ k _. f.drops q k) k e) q;
      dropper = put-all standing h has_ended (λ k z. z ≡ dropping → (q : ℕ) × (put doing o Idle q ≡ Dropping k))
          (λ e. absurd (cc)) (λ k other e. other-drop o Idle k (another k other) (f.dropper k e));
    } where
      another : (k : ℕ) → nat_eq h k ≡ false → doing o ≡ Dropping k → ⊥
      another k other i = true≢false (sym (nat_eq-same h) ∙ ap (nat_eq h) (ap handle_in (sym busy ∙ i)) ∙ other)
