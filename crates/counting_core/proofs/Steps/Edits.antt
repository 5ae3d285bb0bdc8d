-- The edits of a core's lists, as functions with another value at one place.
use Rattle.counting_core.proofs.Names.{◌≡◌, ◌≢◌, ℕ, ◌+◌, ◌<◌, ◌≤◌, true, false, List, [], ◌∷◌, ◌++◌, length, nat_eq}
use Rattle.counting_core.proofs.Names.{get_or, set, length-set, length-append, get_or-set_other, get_or-set_same, refl}
use Rattle.counting_core.proofs.Names.{sym, ◌∙◌, ap, true≢false, arith, inl, inr, ap₂, ltb-true, cases_lt, eqb-false}
use Rattle.counting_core.proofs.Names.{and_parts, get_or_append_left, get_or_default, get_or-eq_default}
use Rattle.counting_core.proofs.Names.{get_or-append_seam, fun_ext, Activity, Idle, Step, Answer, Born, HandleState}
use Rattle.counting_core.proofs.Names.{unborn, newborn, put, goes_on_to, after, owner_of, CoreState, handle, activity}
use Rattle.counting_core.proofs.Names.{state_of, IsPermitted, by_word, value_after, births_after, TakesEffect}
use Rattle.counting_core.proofs.Traces.Places.{put-all}

module _ {A : Type 0} where
  pub get_or-set : (xs : List A) (d : A) (i : ℕ) (y : A) → i < length xs
      → (λ k. get_or (set xs i y) k d) ≡ put (λ k. get_or xs k d) i y
  get_or-set xs d i y lt =
      sym (fun_ext (put-all (λ k. get_or xs k d) i y (λ k z. z ≡ get_or (set xs i y) k d)
      (sym (get_or-set_same xs i y d lt)) (λ k other. sym (get_or-set_other xs i k y d (apart k other))))) where
        apart : (k : ℕ) → nat_eq i k ≡ false → k ≢ i
        apart k other e = eqb-false i k other (sym e)

  pub get_or-push : (xs : List A) (d y : A) → (λ k. get_or (xs ++ y ∷ []) k d) ≡ put (λ k. get_or xs k d)
      (length xs) y
  get_or-push xs d y =
      sym (fun_ext (put-all (λ k. get_or xs k d) (length xs) y (λ k z. z ≡ get_or (xs ++ y ∷ []) k d)
      (sym (get_or-append_seam xs y [] d)) (λ k other. sym (elsewhere k other)))) where
        elsewhere : (k : ℕ) → nat_eq (length xs) k ≡ false → get_or (xs ++ y ∷ []) k d ≡ get_or xs k d
        elsewhere k other =
            elim (cases_lt k (length xs)) [
              | inl lt ↦ get_or_append_left xs (y ∷ []) d k lt
              | inr le ↦
                  let apart : length xs ≢ k = eqb-false (length xs) k other in
                  let long : length (xs ++ y ∷ []) ≡ length xs + 1 = length-append xs (y ∷ []) in
                  let past : length (xs ++ y ∷ []) ≤ k = omega arith in
                  get_or-eq_default (xs ++ y ∷ []) d past ∙ sym (get_or-eq_default xs d le)
            ]

module _ {V : Type 0} (f : CoreState V) where
  -- a live handle was born
  pub born : (h : ℕ) → (handle f h).lives ≡ true → h < length f.handles
  born h lives =
      elim (cases_lt h (length f.handles)) [
        | inl lt ↦ lt
        | inr le ↦ absurd (true≢false (sym lives ∙ ap (λ (k : HandleState). k.lives) (get_or-eq_default f.handles
            unborn le)))
      ]

  pub state-owner : (o : ℕ) (next : Activity) → o < length f.owners
      → state_of (record f { owners = set f.owners o next }) ≡ goes_on_to (state_of f) o next
  state-owner o next lt = λ i. record (state_of f)
      { owners = length-set f.owners o next i; activity = get_or-set f.owners Idle o next lt i }

  pub within : (x : Step V) → IsPermitted f x → owner_of x < length f.owners
  within x may = ltb-true (owner_of x) (length f.owners) (and_parts _ _ may).0

  -- a permitted step that takes effect
  pub effect : (d : CoreState V) (x : Step V) (a : Answer V) → IsPermitted f x → (a, d.word) ≡ by_word f x
      → state_of d ≡ after f.word (state_of f) x a → d.value ≡ value_after f.value x
      → length d.handles ≡ births_after (length f.handles) a → d.limit ≡ f.limit → TakesEffect f x a d
  effect d x a may by same value births limit = record {
    allowed = may;
    by_word = by;
    same_state = same;
    same_value = value;
    same_births = births;
    same_limit = limit;
  }

  -- The handle was k, and is new, which is an edit of it.
  module _ (h : ℕ) (edit : HandleState → HandleState) (k new : HandleState) (was : k ≡ get_or f.handles h k)
      (now : new ≡ edit k) (lives : (handle f h).lives ≡ true) where
    pub state-edit : state_of (record f { handles = set f.handles h new })
        ≡ record (state_of f) { handle = put (handle f) h (edit (handle f h)) }
    state-edit =
        (λ i. record (state_of f) { handle = get_or-set f.handles unborn h new (born h lives) i })
        ∙ ap (λ (s : HandleState). record (state_of f) { handle = put (handle f) h s })
        (now ∙ ap edit (was ∙ get_or_default f.handles h k unborn (born h lives)))

  -- a birth, after which its owner is idle
  pub bears : (o word : ℕ) (x : Step V) (n : ℕ) (handles : List HandleState) (owners : List Activity)
      → IsPermitted f x → owner_of x ≡ o → n ≡ length f.handles
      → handles ≡ f.handles ++ newborn o ∷ [] → length owners ≡ length f.owners
      → (λ (q : ℕ). get_or owners q Idle) ≡ put (activity f) o Idle → (Born (length f.handles), word) ≡ by_word f x
      → f.value ≡ value_after f.value x
      → TakesEffect f x (Born n) (record f { word = word; handles = handles; owners = owners })
  bears o word x n handles owners allowed by number pushed long idle answer value = record {
    allowed = allowed;
    by_word = ap (λ k. (Born k, word)) number ∙ answer;
    same_state = λ i. record (state_of f) {
      owners = long i;
      handle = (ap (λ (l : List HandleState). λ k. get_or l k unborn) pushed ∙ get_or-push f.handles unborn (newborn o)
          ∙ ap₂ (λ k p. put (handle f) k (newborn p)) (sym number) (sym by)) i;
      activity = (idle ∙ ap (λ p. put (activity f) p Idle) (sym by)) i;
    };
    same_value = value;
    same_births = ap length pushed ∙ length-append f.handles (newborn o ∷ []);
    same_limit = refl;
  }
