-- Histories, and the states after them.
use Rattle.std.proofs.Common.{◌≡◌, ◌≢◌, ℕ, suc, ◌+◌, ◌<◌, ◌≤◌, Bool, true, false, ◌&&◌, not, nat_eq, eqb-true, ◌⊎◌, inl}
use Rattle.std.proofs.Common.{inr, ⊎_elim, List, [], ◌∷◌, ◌++◌, length, sym, refl, ap, ◌∙◌, subst, arith, eq-eqb}
use Rattle.std.proofs.Common.{ne_eqb, append_assoc, append-nil, if◌then◌else◌, count_by, IsTrue, ◌||◌}
use Rattle.std.proofs.lemmas.List.Elements.{filter-append}
use Rattle.std.proofs.lemmas.List.Folds.{list_any-append}
use Rattle.std.proofs.lemmas.List.Sums.{sum_by-cons}
use Rattle.std.proofs.lemmas.Bool.{and_parts, or_right}
use mathlib.Core.Logic.{dite}
use native.Mathlib.Decide.{ℕ_discrete}
use Rattle.counting_word.specs.CountingWord.{greatest_count}
use Rattle.shared_count.specs.History.{Call, Born, Full, Overtaken, Ended, Last, EndReply, Clone, End, Event}
use Rattle.shared_count.specs.History.{CountState, opening, handles_of, without, next, has_exactly, end_reply, IsReply}
use Rattle.shared_count.specs.History.{IsLegalFrom, IsLegal, state_after, left_by, owned_by, calls_of}
use Rattle.shared_count.specs.Extends.{OthersExtend, CallExtends, event, is_born_or_ended, has_born_or_ended}
use Rattle.shared_count.specs.Extends.{OvertakersExtend}
use Rattle.shared_count.specs.Inside.Steps.{Counts}

-- a fact about the test of two names
pub by_name : (p x : ℕ) (F : Bool → Type 0) → (p ≡ x → F true) → (p ≢ x → F false) → F (nat_eq p x)
by_name p x F same other =
    dite (ℕ_discrete p x) (λ e. subst F (sym (eq-eqb p x e)) (same e)) (λ n. subst F (sym (ne_eqb p x n)) (other n))

pub same_name : (p : ℕ) (F : Bool → Type 0) → F true → F (nat_eq p p)
same_name p F x = by_name p p F (λ _. x) (λ n. absurd (n refl))

-- how often a name stands in a list
abbrev pub one_if : Bool → ℕ
one_if b = if b then 1 else 0

pub count-cons : (p x : ℕ) (xs : List ℕ) → count_by (nat_eq p) (x ∷ xs) ≡ one_if (nat_eq p x)
    + count_by (nat_eq p) xs
count-cons p x xs = sum_by-cons (λ y. one_if (nat_eq p y)) x xs

pub one_if-same : (p : ℕ) → one_if (nat_eq p p) ≡ 1
one_if-same p = same_name p (λ t. one_if t ≡ 1) refl

pub one_if-other : (p x : ℕ) → p ≢ x → one_if (nat_eq p x) ≡ 0
one_if-other p x n = by_name p x (λ t. one_if t ≡ 0) (λ e. absurd (n e)) (λ _. refl)

pub count-without : (p q : ℕ) (b : List ℕ) → p ≢ q → count_by (nat_eq p) (without q b)
    ≡ count_by (nat_eq p) b
count-without p q [] n = refl
count-without p q (x ∷ xs) n = by_name q x F
    (λ e. let c = count-cons p x xs in let z = one_if-other p x (λ h. n (h ∙ sym e)) in omega arith)
    (λ _. let c = count-cons p x xs in let d = count-cons p x (without q xs) in let rest = count-without p q xs n in
    omega arith) where
      F : Bool → Type 0
      F t = count_by (nat_eq p) (if t then xs else (x ∷ without q xs)) ≡ count_by (nat_eq p) (x ∷ xs)

-- one p is taken out
pub record IsTaken (p : ℕ) (b b' : List ℕ) : Type 0 where
  pub fewer : count_by (nat_eq p) b' + 1 ≡ count_by (nat_eq p) b
  pub shorter : length b' + 1 ≡ length b

pub without-taken : (p : ℕ) (b : List ℕ) → 0 < count_by (nat_eq p) b → IsTaken p b (without p b)
without-taken p [] h = absurd (omega arith)
without-taken p (x ∷ xs) h = let c = count-cons p x xs in by_name p x F
    (λ e. let one : one_if (nat_eq p x) ≡ 1 = ap one_if (eq-eqb p x e) in
    record { fewer = omega arith; shorter = omega arith })
    (λ n. let z = one_if-other p x n in let rest = without-taken p xs (omega arith) in
    let d = count-cons p x (without p xs) in record { fewer = omega arith; shorter = omega arith }) where
      F : Bool → Type 0
      F t = IsTaken p (x ∷ xs) (if t then xs else (x ∷ without p xs))

pub state_after-append : (s : CountState) (a b : List Event) → state_after s (a ++ b)
    ≡ state_after (state_after s a) b
state_after-append s [] b = refl
state_after-append s (e ∷ es) b = state_after-append (next s e.caller e.call) es b

pub legal-append : (s : CountState) (a b : List Event)
    → IsLegalFrom s a → IsLegalFrom (state_after s a) b → IsLegalFrom s (a ++ b)
legal-append s [] b x y = y
legal-append s (e ∷ es) b x y = (x.0, x.1, legal-append (next s e.caller e.call) es b x.2 y)

pub legal_rest : (s : CountState) (a b : List Event) → IsLegalFrom s (a ++ b) → IsLegalFrom (state_after s a) b
legal_rest s [] b x = x
legal_rest s (e ∷ es) b x = legal_rest (next s e.caller e.call) es b x.2

pub no_calls : (x p : ℕ) (c : Call) → x ≢ p → calls_of x (event p c ∷ []) ≡ []
no_calls x p c n =
    by_name x p (λ t. (if t then (event p c ∷ []) else []) ≡ []) (λ e. absurd (n e)) (λ _. refl)

-- a call changes the handles of its own pass alone
pub handles_of-next : (p q : ℕ) (s : CountState) (c : Call) → p ≢ q → handles_of p (next s q c)
    ≡ handles_of p s
handles_of-next p q s (Clone Born) n =
    let z = one_if-other p q n in let c = count-cons p q s.owners in omega arith
handles_of-next p q s (End r) n = count-without p q s.owners n
handles_of-next p q s c n = refl

pub not_called : (p : ℕ) (e : Event) (es : List Event) → calls_of p (e ∷ es) ≡ []
    → (p ≢ e.caller) × (calls_of p es ≡ [])
not_called p e es = by_name p e.caller F (λ _ h. absurd (cc)) (λ n h. (n, h)) where
  F : Bool → Type 0
  F t = (if t then (e ∷ calls_of p es) else calls_of p es) ≡ [] → (p ≢ e.caller) × (calls_of p es ≡ [])

-- a pass that makes no call keeps what it owns
pub handles_of-others : (p : ℕ) (d : List Event) (s : CountState) → calls_of p d ≡ []
    → handles_of p (state_after s d) ≡ handles_of p s
handles_of-others p [] s h = refl
handles_of-others p (e ∷ es) s h = let r = not_called p e es h in
    handles_of-others p es (next s e.caller e.call) r.1 ∙ handles_of-next p e.caller s e.call r.0

pub owned_by-others : (n p : ℕ) (a b : List Event) → OthersExtend p a b → owned_by n p b ≡ owned_by n p a
owned_by-others n p a b g =
    ap (owned_by n p) g.begins ∙ ap (handles_of p) (state_after-append (opening n) a g.added)
    ∙ handles_of-others p g.added (left_by n a) g.no_own

pub others-refl : (p : ℕ) (a : List Event) → OthersExtend p a a
others-refl p a = record { added = []; begins = sym (append-nil a); no_own = refl }

pub others-trans : (p : ℕ) (a b c : List Event) → OthersExtend p a b → OthersExtend p b c → OthersExtend p a c
others-trans p a b c g h = record {
  added = g.added ++ h.added;
  begins = h.begins
      ∙ (ap (λ (z : List Event). z ++ h.added) g.begins ∙ append_assoc a g.added h.added);
  no_own = filter-append (λ e. nat_eq p e.caller) g.added h.added
      ∙ (ap (λ (z : List Event). z ++ calls_of p h.added) g.no_own ∙ h.no_own);
}

-- the calls of p in a history that others and then p went on with
pub calls_of-others : (p : ℕ) (a b : List Event) → OthersExtend p a b → calls_of p b ≡ calls_of p a
calls_of-others p a b g =
    ap (calls_of p) g.begins ∙ filter-append (λ e. nat_eq p e.caller) a g.added
    ∙ ap (λ (z : List Event). calls_of p a ++ z) g.no_own ∙ append-nil (calls_of p a)

pub calls_of-call : (p : ℕ) (c : Call) (a b : List Event) → CallExtends p c a b
    → calls_of p b ≡ calls_of p a ++ event p c ∷ []
calls_of-call p c a b k =
    ap (calls_of p) k.ends ∙ filter-append (λ e. nat_eq p e.caller) k.before (event p c ∷ [])
    ∙ ap (λ (z : List Event). z ++ calls_of p (event p c ∷ [])) (calls_of-others p a k.before k.others)
    ∙ ap (λ (z : List Event). calls_of p a ++ z)
    (same_name p (λ t. (if t then (event p c ∷ []) else []) ≡ event p c ∷ []) refl)

pub others-append : (p : ℕ) (a b d : List Event)
    → OthersExtend p a b → calls_of p d ≡ [] → OthersExtend p a (b ++ d)
others-append p a b d g none =
    others-trans p a b (b ++ d) g (record { added = d; begins = refl; no_own = none })

pub legal-call : (n p : ℕ) (c : Call) (h : List Event)
    → IsLegal n h → 0 < owned_by n p h → IsReply (left_by n h) p c
    → IsLegal n (h ++ event p c ∷ [])
legal-call n p c h l own reply = legal-append (opening n) h (event p c ∷ []) l (own, reply, tt)

pub left_by-call : (n p : ℕ) (c : Call) (h : List Event) → left_by n (h ++ event p c ∷ [])
    ≡ next (left_by n h) p c
left_by-call n p c h = state_after-append (opening n) h (event p c ∷ [])

one_less : (a b : ℕ) → a + 1 ≡ b → nat_eq a 0 ≡ nat_eq b 1
one_less a b e = by_name a 0 (λ t. t ≡ nat_eq b 1)
    (λ z. sym (eq-eqb b 1 (omega arith))) (λ n. sym (ne_eqb b 1 (λ h. n (omega arith))))

-- none is left exactly if there was one
pub none_left : (p : ℕ) (s : CountState) (reply : EndReply) → 0 < handles_of p s
    → has_exactly 0 (next s p (End reply)) ≡ has_exactly 1 s
none_left p s reply own = ap (λ (b : Bool). not s.mark && b)
    (one_less (length (without p s.owners)) (length s.owners) (without-taken p s.owners own).shorter)

-- two passes with a handle each have two
two_owners : (p q : ℕ) (b : List ℕ) → p ≢ q → count_by (nat_eq p) b + count_by (nat_eq q) b ≤ length b
two_owners p q [] n = omega arith
two_owners p q (x ∷ xs) n =
    let rest = two_owners p q xs n in
    let c = count-cons p x xs in
    let d = count-cons q x xs in
    let at_most : F (nat_eq p x) = by_name p x F
    (λ e. let z = one_if-other q x (λ h. n (e ∙ sym h)) in omega arith)
    (λ _. by_name q x G (λ _. omega arith) (λ _. omega arith)) in
    omega arith where
      F : Bool → Type 0
      F t = one_if t + count_by (nat_eq p) xs + (one_if (nat_eq q x) + count_by (nat_eq q) xs) ≤ suc (length xs)

      G : Bool → Type 0
      G t = 0 + count_by (nat_eq p) xs + (one_if t + count_by (nat_eq q) xs) ≤ suc (length xs)

-- what a reply says of its test
last_if : (b : Bool) → Last ≡ end_reply b → b ≡ true
last_if true e = refl
last_if false e = absurd (cc)

never_overtaken : (b : Bool) → Overtaken ≡ (if b then Full else Born) → ⊥
never_overtaken true e = cc
never_overtaken false e = cc

-- an end is not the last while another pass owns a handle
not_last : (p q : ℕ) (s : CountState)
    → p ≢ q → 0 < handles_of p s → 0 < handles_of q s → IsReply s q (End Last) → ⊥
not_last p q s n hp hq last =
    let two = two_owners p q s.owners n in
    let one : has_exactly 1 s ≡ true =
    sym (none_left q s Last hq) ∙ last_if (has_exactly 0 (next s q (End Last))) last in
    let is : length s.owners ≡ 1 =
    eqb-true (length s.owners) 1 (and_parts (not s.mark) (nat_eq (length s.owners) 1) one).1 in
    omega arith

-- While p owns a handle, others change the owners by births and by ends that are not the last alone.
module _ (p q : ℕ) (s : CountState) (n : p ≢ q) (hp : 0 < handles_of p s) (hq : 0 < handles_of q s) where
  abbrev Changed : Call → List Event → Type 0
  Changed c es = IsTrue (is_born_or_ended c || has_born_or_ended es) ⊎ ((state_after (next s q c)
      es).owners ≡ s.owners)

  changed_at : (c : Call) (es : List Event) → IsReply s q c
      → IsTrue (has_born_or_ended es) ⊎ ((state_after (next s q c) es).owners ≡ (next s q c).owners)
      → Changed c es
  changed_at (Clone Born) es a r = inl refl
  changed_at (Clone Overtaken) es a r = absurd (never_overtaken (has_exactly greatest_count s) a)
  changed_at (End Ended) es a r = inl refl
  changed_at (End Last) es a r = absurd (not_last p q s n hp hq a)
  changed_at c es a r = r

changed_or_same : (p : ℕ) (d : List Event) (s : CountState)
    → 0 < handles_of p s → calls_of p d ≡ [] → IsLegalFrom s d
    → IsTrue (has_born_or_ended d) ⊎ ((state_after s d).owners ≡ s.owners)
changed_or_same p [] s own none l = inr refl
changed_or_same p (e ∷ es) s own none l =
    let r = not_called p e es none in
    let s' : CountState = next s e.caller e.call in
    let keep : handles_of p s' ≡ handles_of p s = handles_of-next p e.caller s e.call r.0 in
    changed_at p e.caller s r.0 own l.0 e.call es l.1 (changed_or_same p es s' (omega arith) r.1 l.2)

-- a pass that saw the count with k handles, and then with another number of them, was overtaken
pub overtaken : (n p : ℕ) (a b : List Event) (k found : ℕ)
    → OthersExtend p a b → IsLegal n b → 0 < owned_by n p a
    → Counts k (left_by n a) → Counts found (left_by n b) → found ≢ k → found < greatest_count
    → OvertakersExtend n p a b
overtaken n p a b k found g legal own was is other low =
    let now : left_by n b ≡ state_after (left_by n a) g.added =
    ap (left_by n) g.begins ∙ state_after-append (opening n) a g.added in
    let new : IsLegalFrom (left_by n a) g.added = legal_rest (opening n) a g.added (subst (IsLegal n) g.begins legal) in
    let differ : (state_after (left_by n a) g.added).owners ≡ (left_by n a).owners → ⊥ =
    (λ e. other (sym is.1 ∙ (ap (λ (z : CountState). length z.owners) now ∙ (ap length e ∙ was.1)))) in
    let few : length (left_by n b).owners < greatest_count = subst (λ (z : ℕ). z < greatest_count) (sym is.1) low in
    record {
      others = g;
      changed = ⊎_elim (λ t. t) (λ e. absurd (differ e)) (changed_or_same p g.added (left_by n a) own g.no_own new);
      room = (is.0, few);
    }

-- calls of others before that change nothing
pub overtaken_after : (n p : ℕ) (a b c : List Event) → OthersExtend p a b → OvertakersExtend n p b c
    → OvertakersExtend n p a c
unfolding others-trans
overtaken_after n p a b c g o = record {
  others = others-trans p a b c g o.others;
  changed = list_any-append (λ e. is_born_or_ended e.call) g.added o.others.added
      ∙ or_right (has_born_or_ended g.added) (has_born_or_ended o.others.added) o.changed;
  room = o.room;
}

-- a list whose entries all are among the owners, as often, is no longer
pub fits_owners : (xs b : List ℕ) → ((x : ℕ) → count_by (nat_eq x) xs ≤ count_by (nat_eq x) b)
    → length xs ≤ length b
fits_owners [] b h = omega arith
fits_owners (y ∷ ys) b h =
    let here = h y in
    let c = count-cons y y ys in
    let one = one_if-same y in
    let taken = without-taken y b (omega arith) in
    let rest = fits_owners ys (without y b) (λ x. dite (ℕ_discrete x y)
    (λ e. subst (λ (z : ℕ). count_by (nat_eq z) ys ≤ count_by (nat_eq z) (without y b)) (sym e) (omega arith))
    (λ n. let z = one_if-other x y n in let hx = h x in let d = count-cons x y ys in
    let same = count-without x y b n in omega arith)) in
    omega arith
