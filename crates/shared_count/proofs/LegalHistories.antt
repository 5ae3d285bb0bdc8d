-- The laws of legal histories, and what a pass that has seen the mark knows.
use Rattle.std.proofs.Common.{◌≢◌, subst, true≢false, ◌≡◌, ℕ, suc, ◌+◌, ◌<◌, ◌≤◌, Bool, true, false, ◌&&◌, ◌||◌, not}
use Rattle.std.proofs.Common.{nat_eq, nat_lt, eqb-true, List, [], ◌∷◌, ◌++◌, length, sym, refl, ap, ◌∙◌, arith, eq-eqb}
use Rattle.std.proofs.Common.{ne_eqb, if◌then◌else◌, count_by, sum_by}
use Rattle.counting_word.specs.CountingWord.{greatest_count}
use Rattle.shared_count.specs.History.{TryClone, Full, Overtaken, IsLegal, Call, Born, EndReply, Clone, End, Mark}
use Rattle.shared_count.specs.History.{Event, CountState, opening, handles_of, next, has_exactly, end_reply, IsReply}
use Rattle.shared_count.specs.History.{IsLegalFrom, state_after, left_by, owned_by, calls_of}
use Rattle.shared_count.specs.Extends.{event, OthersExtend}
use Rattle.shared_count.specs.Passes.{Pass, Called, WasOvertaken, HasSeenMark}
use Rattle.shared_count.proofs.Histories.{state_after-append, legal_rest, by_name, one_if, one_if-same, one_if-other}
use Rattle.shared_count.proofs.Histories.{count-cons, handles_of-next}
use Rattle.std.specs.List.{range_with_len}
use Rattle.std.proofs.lemmas.List.FromFn.{length-range_with_len}
use Rattle.std.proofs.lemmas.Bool.{lt-ltb, and_parts}
use Rattle.std.proofs.lemmas.List.Sums.{sum_by-cons, count_by-le-length}
use mathlib.Core.Logic.{dite}
use native.Mathlib.Decide.{dec_le}
use Rattle.shared_count.specs.HistoryLaws.{is_mark, is_last, count_calls, BeginningsAreLegal, HandlesAreOwned}
use Rattle.shared_count.specs.HistoryLaws.{CallsAreOfPasses, MarkedExactlyIfCalled, LastIsToldOnce, OneEndIsLast}
use Rattle.std.proofs.Math.Bool.{and-false, or-false, or-true}
use Rattle.shared_count.proofs.Sums.{sum-none, sum-alone}

legal_from_front : (s : CountState) (a b : List Event) → IsLegalFrom s (a ++ b) → IsLegalFrom s a
legal_from_front s [] b legal = tt
legal_from_front s (e ∷ es) b legal = (legal.0, legal.1, legal_from_front (next s e.caller e.call) es b legal.2)

pub legal_front : BeginningsAreLegal
legal_front n h later legal = legal_from_front (opening n) h later legal

-- sums over the passes
sum-add : (f g both : ℕ → ℕ) (xs : List ℕ) → ((p : ℕ) → both p ≡ f p + g p)
    → sum_by both xs ≡ sum_by f xs + sum_by g xs
sum-add f g both [] each = refl
sum-add f g both (x ∷ xs) each =
    let rest = sum-add f g both xs each in
    let here = each x in
    let a = sum_by-cons f x xs in
    let b = sum_by-cons g x xs in
    let c = sum_by-cons both x xs in
    omega arith

-- k of one pass alone
abbrev at_name : ℕ → ℕ → ℕ → ℕ
at_name q k p = if nat_eq p q then k else 0

sum-at_name : (q k n : ℕ) → q < n → sum_by (at_name q k) (range_with_len 0 n) ≡ k
sum-at_name q k n low =
    sum-alone (at_name q k) q 0 n (λ p other. ap (λ (b : Bool). if b then k else 0) (ne_eqb p q other))
    (omega arith) (omega arith) ∙ ap (λ (b : Bool). if b then k else 0) (eq-eqb q q refl)

-- no handle is owned by a name from n on
abbrev OwnedBelow : ℕ → CountState → Type 0
OwnedBelow n s = (p : ℕ) → n ≤ p → handles_of p s ≡ 0

caller_below : (n q : ℕ) (s : CountState) → OwnedBelow n s → 0 < handles_of q s → q < n
caller_below n q s below own =
    dite (dec_le n q) (λ above. let none = below q above in absurd (omega arith)) (λ h. omega arith)

below-next : (n q : ℕ) (s : CountState) (c : Call)
    → OwnedBelow n s → 0 < handles_of q s → OwnedBelow n (next s q c)
below-next n q s c below own p above =
    let low = caller_below n q s below own in
    handles_of-next p q s c (λ e. omega arith) ∙ below p above

below-opening : (n : ℕ) → OwnedBelow n (opening n)
below-opening n p above = sum-none (λ q. one_if (nat_eq p q)) 0 n (λ q low high. one_if-other p q (λ e. omega arith))

below-after : (n : ℕ) (s : CountState) (h : List Event) → OwnedBelow n s → IsLegalFrom s h
    → OwnedBelow n (state_after s h)
below-after n s [] below legal = below
below-after n s (e ∷ es) below legal =
    below-after n (next s e.caller e.call) es (below-next n e.caller s e.call below legal.0) legal.2

owners-sum : (n : ℕ) (xs : List ℕ) → ((p : ℕ) → n ≤ p → count_by (nat_eq p) xs ≡ 0)
    → length xs ≡ sum_by (λ p. count_by (nat_eq p) xs) (range_with_len 0 n)
owners-sum n [] none = sym (sum-none (λ p. count_by (nat_eq p) []) 0 n (λ p low high. refl))
owners-sum n (x ∷ xs) none =
    let rest = owners-sum n xs (λ p above. let all = none p above in let sum = count-cons p x xs in omega arith) in
    let low : x < n = dite (dec_le n x) (λ above.
    let all = none x above in
    let sum = count-cons x x xs in
    let here = one_if-same x in
    absurd (omega arith)) (λ h. omega arith) in
    let here = sum-at_name x 1 n (omega arith) in
    let both = sum-add (at_name x 1) (λ p. count_by (nat_eq p) xs) (λ p. count_by (nat_eq p) (x ∷ xs))
    (range_with_len 0 n) (λ p. count-cons p x xs) in
    omega arith

pub handles_are_owned : HandlesAreOwned
handles_are_owned n h legal =
    owners-sum n (left_by n h).owners (below-after n (opening n) h (below-opening n) legal)

module _ (kind : Call → Bool) where
  calls-cons : (e : Event) (es : List Event)
      → count_calls kind (e ∷ es) ≡ one_if (kind e.call) + count_calls kind es
  calls-cons e es = sum_by-cons (λ d. one_if (kind d.call)) e es

  calls_of-cons : (p : ℕ) (e : Event) (es : List Event) → count_calls kind (calls_of p (e ∷ es))
      ≡ at_name e.caller (one_if (kind e.call)) p + count_calls kind (calls_of p es)
  calls_of-cons p e es = by_name p e.caller F (λ _. calls-cons e (calls_of p es)) (λ _. omega arith) where
    F : Bool → Type 0
    F t = count_calls kind (if t then (e ∷ calls_of p es) else calls_of p es)
        ≡ (if t then one_if (kind e.call) else 0) + count_calls kind (calls_of p es)

  calls-sum : (n : ℕ) (s : CountState) (h : List Event) → OwnedBelow n s → IsLegalFrom s h
      → count_calls kind h ≡ sum_by (λ p. count_calls kind (calls_of p h)) (range_with_len 0 n)
  calls-sum n s [] below legal = sym (sum-none (λ p. count_calls kind (calls_of p [])) 0 n (λ p low high. refl))
  calls-sum n s (e ∷ es) below legal =
      let low = caller_below n e.caller s below legal.0 in
      let rest = calls-sum n (next s e.caller e.call) es (below-next n e.caller s e.call below legal.0) legal.2 in
      let all = calls-cons e es in
      let here = sum-at_name e.caller (one_if (kind e.call)) n (omega arith) in
      let both = sum-add (at_name e.caller (one_if (kind e.call))) (λ p. count_calls kind (calls_of p es))
      (λ p. count_calls kind (calls_of p (e ∷ es))) (range_with_len 0 n) (λ p. calls_of-cons p e es) in
      omega arith

pub calls_are_of_passes : CallsAreOfPasses
calls_are_of_passes n h kind legal = calls-sum kind n (opening n) h (below-opening n) legal

-- the mark
mark-next : (s : CountState) (q : ℕ) (c : Call) → (next s q c).mark ≡ (s.mark || is_mark c)
mark-next s q Mark = sym (or-true s.mark)
mark-next s q (Clone Born) = sym (or-false s.mark)
mark-next s q c = sym (or-false s.mark)

one_more : (marked here : Bool) (rest all : ℕ) → all ≡ one_if here + rest
    → ((marked || here) || nat_lt 0 rest) ≡ (marked || nat_lt 0 all)
one_more true here rest all e = refl
one_more false true rest all e = sym (lt-ltb 0 all (omega arith))
one_more false false rest all e = let same : rest ≡ all = omega arith in ap (nat_lt 0) same

mark-after : (s : CountState) (h : List Event)
    → (state_after s h).mark ≡ (s.mark || nat_lt 0 (count_calls is_mark h))
mark-after s [] = sym (or-false s.mark)
mark-after s (e ∷ es) =
    mark-after (next s e.caller e.call) es
    ∙ ap (λ (b : Bool). b || nat_lt 0 (count_calls is_mark es)) (mark-next s e.caller e.call)
    ∙ one_more s.mark (is_mark e.call) (count_calls is_mark es) (count_calls is_mark (e ∷ es))
    (calls-cons is_mark e es)

pub marked_if_called : MarkedExactlyIfCalled
marked_if_called n h = mark-after (opening n) h

-- the last end
is_last-end : (b : Bool) (r : EndReply) → r ≡ end_reply b → is_last (End r) ≡ b
is_last-end true r e = ap (λ (z : EndReply). is_last (End z)) e
is_last-end false r e = ap (λ (z : EndReply). is_last (End z)) e

-- a call that is not the last end leaves a handle or a mark, and the last one leaves neither
is_last-next : (s : CountState) (q : ℕ) (c : Call) → has_exactly 0 s ≡ false → IsReply s q c
    → is_last c ≡ has_exactly 0 (next s q c)
is_last-next s q (Clone Born) some reply =
    let other : nat_eq (suc (length s.owners)) 0 ≡ false = ne_eqb (suc (length s.owners)) 0 (λ e. omega arith) in
    sym (ap (λ (b : Bool). not s.mark && b) other ∙ and-false (not s.mark))
is_last-next s q (End r) some reply = is_last-end (has_exactly 0 (next s q (End r))) r reply
is_last-next s q Mark some reply = refl
is_last-next s q c some reply = sym some

-- nobody calls if no handle is left
left_none : (s : CountState) → has_exactly 0 s ≡ true → length s.owners ≡ 0
left_none s none = eqb-true (length s.owners) 0 (and_parts (not s.mark) (nat_eq (length s.owners) 0) none).1

nothing_follows : (s : CountState) (h : List Event) → has_exactly 0 s ≡ true → IsLegalFrom s h → h ≡ []
nothing_follows s [] none legal = refl
nothing_follows s (e ∷ es) none legal =
    let empty = left_none s none in
    let most = count_by-le-length (nat_eq e.caller) s.owners in
    absurd (omega arith)

-- from the state s on, `Last` is reported once if the count is then empty and unmarked, else never
abbrev ToldOnce : CountState → List Event → Type 0
ToldOnce s h = count_calls is_last h ≡ one_if (has_exactly 0 (state_after s h))

-- after a call that leaves s, by whether it was the last end
told_after : (b : Bool) (s : CountState) (e : Event) (es : List Event)
    → has_exactly 0 s ≡ b → is_last e.call ≡ b
    → IsLegalFrom s es → (b ≡ false → ToldOnce s es)
    → count_calls is_last (e ∷ es) ≡ one_if (has_exactly 0 (state_after s es))
told_after true s e es none last legal later =
    let is : es ≡ [] = nothing_follows s es none legal in
    let all = calls-cons is_last e es in
    let here : one_if (is_last e.call) ≡ 1 = ap one_if last in
    let rest : count_calls is_last es ≡ 0 = ap (count_calls is_last) is in
    let left : one_if (has_exactly 0 (state_after s es)) ≡ 1 =
    ap (λ (h : List Event). one_if (has_exactly 0 (state_after s h))) is ∙ ap one_if none in
    omega arith
told_after false s e es some other legal later =
    let all = calls-cons is_last e es in
    let here : one_if (is_last e.call) ≡ 0 = ap one_if other in
    let rest : ToldOnce s es = later refl in
    omega arith

told_once : (s : CountState) (h : List Event) → has_exactly 0 s ≡ false → IsLegalFrom s h → ToldOnce s h
told_once s [] some legal = ap one_if (sym some)
told_once s (e ∷ es) some legal = let s' : CountState = next s e.caller e.call in
    told_after (has_exactly 0 s') s' e es refl (is_last-next s e.caller e.call some legal.1) legal.2
    (λ left. told_once s' es left legal.2)

pub last_is_told_once : LastIsToldOnce
last_is_told_once n h some legal =
    let many = length-range_with_len 0 n in
    told_once (opening n) h (ne_eqb (length (opening n).owners) 0 (λ e. omega arith)) legal

pub one_end_is_last : OneEndIsLast
one_end_is_last n h some legal spent unmarked =
    let no_handle : length (left_by n h).owners ≡ 0 =
    handles_are_owned n h legal ∙ sum-none (λ p. owned_by n p h) 0 n (λ p low high. spent p (omega arith)) in
    let no_mark : count_calls is_mark h ≡ 0 =
    calls_are_of_passes n h is_mark legal
    ∙ sum-none (λ p. count_calls is_mark (calls_of p h)) 0 n (λ p low high. unmarked p (omega arith)) in
    let mark : (left_by n h).mark ≡ false = marked_if_called n h ∙ ap (nat_lt 0) no_mark in
    let none : has_exactly 0 (left_by n h) ≡ true =
    ap (λ (b : Bool). not b && nat_eq (length (left_by n h).owners) 0) mark
    ∙ eq-eqb (length (left_by n h).owners) 0 no_handle in
    sym (calls_are_of_passes n h is_last legal) ∙ last_is_told_once n h some legal ∙ ap one_if none

-- the reply to a clone by a pass that has seen the mark
mark-others : (n p : ℕ) (a b : List Event)
    → OthersExtend p a b → (left_by n a).mark ≡ true → (left_by n b).mark ≡ true
mark-others n p a b others m =
    ap (λ (h : List Event). (left_by n h).mark) others.begins
    ∙ ap (λ (s : CountState). s.mark) (state_after-append (opening n) a others.added)
    ∙ mark-after (left_by n a) others.added ∙ ap (λ (b : Bool). b || nat_lt 0 (count_calls is_mark others.added)) m

marked-Called : (old new : Pass) (reply : TryClone) → HasSeenMark old → Called old (Clone reply)
    new → reply ≡ Born
marked-Called old new reply marked called =
    let n : ℕ = old.count.passes in
    let before : List Event = called.extends.before in
    let made : List Event = event old.name (Clone reply) ∷ [] in
    let legal : IsLegalFrom (opening n) (before ++ made) = subst (IsLegal n) called.extends.ends called.legal in
    let last : IsLegalFrom (left_by n before) made = legal_rest (opening n) before made legal in
    let m : (left_by n before).mark ≡ true = mark-others n old.name old.seen before called.extends.others marked in
    last.1 ∙ ap (λ (b : Bool).
    if not b && nat_eq (length (left_by n before).owners) greatest_count then Full else Born) m

marked-not-overtaken : (old new : Pass) → HasSeenMark old → WasOvertaken old new → ⊥
marked-not-overtaken old new marked was =
    let seen : (left_by old.count.passes new.seen).mark ≡ true =
    mark-others old.count.passes old.name old.seen new.seen was.extends.others marked in
    true≢false (sym seen ∙ was.extends.room.0)

pub seen_mark-born : (old new : Pass) (reply : TryClone) → (reply ≢ Overtaken → Called old (Clone reply) new)
    → (reply ≡ Overtaken → WasOvertaken old new) → HasSeenMark old → reply ≡ Born
seen_mark-born old new Born called overtaken marked = refl
seen_mark-born old new Full called overtaken marked = marked-Called old new Full marked (called (λ e. cc))
seen_mark-born old new Overtaken called overtaken marked =
    absurd (marked-not-overtaken old new marked (overtaken refl))
