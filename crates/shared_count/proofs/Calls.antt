-- What a step of a call requires of its seat, and what a call ensures of its pass.
use Rattle.std.proofs.Common.{◌≡◌, ◌≢◌, ℕ, ◌+◌, ◌-◌, ◌<◌, List, sym, refl, ap, ◌∙◌, subst, arith}
use Rattle.atomic_table.specs.Seated.{TableId}
use Rattle.atomic_table.specs.Table.{Allows}
use Rattle.shared_count.specs.History.{Call, Clone, End, EndReply, TryClone, Born, Overtaken, Event, CountState}
use Rattle.shared_count.specs.History.{handles_of, next, left_by, owned_by}
use Rattle.shared_count.specs.Inside.Shares.{Known, Part, Whole, seeing}
use Rattle.shared_count.specs.Extends.{CallExtends}
use Rattle.shared_count.specs.Passes.{CountId, Pass, handles, born_count, Called, HasSeenMore, WasOvertaken}
use Rattle.shared_count.specs.Inside.Rule.{Keeps}
use Rattle.shared_count.specs.Inside.Steps.{SeatState, with_part, Sees, Made, Looked, Follows}
use Rattle.shared_count.specs.Inside.Seats.{pass_at, handles_at, Replied, pass_of, IsPass}
use Rattle.shared_count.proofs.Histories.{one_if-same, count-cons, owned_by-others, calls_of-others, calls_of-call}
use Rattle.shared_count.proofs.Histories.{left_by-call, without-taken}
use Rattle.shared_count.proofs.Moves.{May}

-- a step on the word is allowed to the seat of a pass that owns a handle
pub can_step : {t u : TableId} {key id : ℕ} {self : CountId} {x : Known} {part : Part} {m : SeatState} {f : ℕ → ℕ}
    {says : SeatState → ℕ → SeatState → Type 0}
    → record { table = u; passes = key } ≡ self → u.words ≡ 1 → t ≡ self.table
    → m ≡ with_part x part → x.passes ≡ self.passes → 0 < owned_by x.passes x.name x.seen
    → May key u.slots id part f says → (t ≡ u) × (0 < u.words) × Allows (Keeps key) u.slots id m 0 f (says m)
can_step {t} {u} {key} {id} {self} {x} {part} {m} {f} {says} mine one same is opened owns may = (
  same ∙ sym (ap (λ (c : CountId). c.table) mine),
  omega arith,
  subst (λ (z : SeatState). Allows (Keeps key) u.slots id z 0 f (says z)) (sym is)
      (may.allows x (subst (λ (n : ℕ). 0 < owned_by n x.name x.seen)
      (opened ∙ sym (ap (λ (c : CountId). c.passes) mine)) owns)),
)

pub looked_owns : {x : Known} {part : Part} {m : SeatState} (look : Looked x part m)
    → 0 < owned_by x.passes x.name x.seen → 0 < owned_by x.passes x.name look.seen
looked_owns {x} look owns = let same = owned_by-others x.passes x.name x.seen look.seen look.others in omega arith

-- how many handles a call adds, and how many it ends
abbrev pub gains : Call → ℕ
gains (Clone reply) = born_count reply
gains _ = 0

abbrev pub losses : Call → ℕ
losses (End reply) = 1
losses _ = 0

handles_of-call : (p : ℕ) (c : Call) (s : CountState) → 0 < handles_of p s
    → handles_of p (next s p c) + losses c ≡ handles_of p s + gains c
handles_of-call p (Clone Born) s own = let one = one_if-same p in let sum = count-cons p p s.owners in omega arith
handles_of-call p (Clone r) s own = refl
handles_of-call p (End r) s own = let taken = without-taken p s.owners own in omega arith
handles_of-call p c s own = refl

owned_by-call : (n p : ℕ) (c : Call) (a b : List Event) → 0 < owned_by n p a → CallExtends p c a b
    → owned_by n p b + losses c ≡ owned_by n p a + gains c
owned_by-call n p c a b own k =
    let same = owned_by-others n p a k.before k.others in
    let change = handles_of-call p c (left_by n k.before) (omega arith) in
    let is : owned_by n p b ≡ handles_of p (next (left_by n k.before) p c) =
    (ap (owned_by n p) k.ends ∙ ap (handles_of p) (left_by-call n p c k.before)) in
    omega arith

-- the pass keeps its count and its name
abbrev pub SamePass : Pass → Pass → Type 0
SamePass p q = (q.count ≡ p.count) × (q.name ≡ p.name)

-- the pass p after a call, with the seat m' of the table t' and this number of handles
pub record AfterCall (p : Pass) (c : Call) (t' : TableId) (m' : SeatState) (owned' : ℕ) : Type 0 where
  pub same : SamePass p (pass_of t' m')
  pub called : Called p c (pass_of t' m')
  pub handles : handles_at m' + losses c ≡ handles p + gains c
  pub pass : IsPass m' owned'

pub record AfterClone (p : Pass) (r : TryClone) (t' : TableId) (m' : SeatState) (owned' : ℕ) : Type 0 where
  pub same : SamePass p (pass_of t' m')
  pub called : r ≢ Overtaken → Called p (Clone r) (pass_of t' m')
  pub overtaken : r ≡ Overtaken → WasOvertaken p (pass_of t' m')
  pub handles : handles_at m' ≡ handles p + born_count r
  pub pass : IsPass m' owned'

pub record AfterMeet (p : Pass) (t' : TableId) (m' : SeatState) (owned : ℕ) : Type 0 where
  pub same : SamePass p (pass_of t' m')
  pub more : HasSeenMore p (pass_of t' m')
  pub handles : handles_at m' ≡ handles p
  pub pass : IsPass m' owned

module _ {t : TableId} {m : SeatState} {owned : ℕ} {p : Pass} (is : IsPass m owned) (view : pass_of t m ≡ p) where
  abbrev x : Known
  x = pass_at m

  pub of_table : {u : TableId} {key : ℕ} {self : CountId} → record { table = u; passes = key } ≡ self
      → p.count ≡ self → t ≡ u
  of_table mine count = ap (λ (q : Pass). q.count.table) view
      ∙ ap (λ (c : CountId). c.table) (count ∙ sym mine)

  owns : 0 < handles p → 0 < handles_at m
  owns own = let same = ap handles view in omega arith

  pub can_call : {u : TableId} {key id : ℕ} {self : CountId} {f : ℕ → ℕ} {says : SeatState → ℕ → SeatState → Type 0}
      → record { table = u; passes = key } ≡ self → u.words ≡ 1 → p.count ≡ self → 0 < handles p
      → May key u.slots id Whole f says → (t ≡ u) × (0 < u.words) × Allows (Keeps key) u.slots id m 0 f (says m)
  can_call mine one count own may = can_step mine one
      (ap (λ (q : Pass). q.count.table) view ∙ ap (λ (c : CountId). c.table) count) is.whole
      (ap (λ (q : Pass). q.count.passes) view ∙ ap (λ (c : CountId). c.passes) count) (owns own) may

  module _ {m' : SeatState} (h : List Event) (sees : Sees x Whole h m') where
    handles_seen : handles_at m' ≡ owned_by x.passes x.name h
    handles_seen = ap handles_at sees.seat

    pass_seen : {owned' : ℕ} → owned' ≡ owned_by x.passes x.name h → IsPass m' owned'
    pass_seen {owned'} count = subst (λ (z : SeatState). IsPass z owned') (sym sees.seat)
        (record { whole = refl; legal = sees.legal; owns = count })

    -- a fact about the pass and the same pass with h seen is one about the pass before and after
    by_seen : {t' : TableId} (P : Pass → Pass → Type 0)
        → P (pass_of t m) (pass_of t' (with_part (seeing x h) Whole)) → P p (pass_of t' m')
    by_seen {t'} P fact = subst (λ (q : Pass). P q (pass_of t' m')) view
        (subst (λ (z : SeatState). P (pass_of t m) (pass_of t' z)) (sym sees.seat) fact)

    same_pass : {t' : TableId} → t' ≡ t → SamePass p (pass_of t' m')
    same_pass same = by_seen SamePass
        (ap (λ (u : TableId). record { table = u; passes = x.passes }) same, refl)

  module _ {t' : TableId} {m' : SeatState} where
    after_call : 0 < handles p → t' ≡ t → (c : Call) → {owned' : ℕ} → owned' + losses c ≡ owned + gains c → Made x c m'
        → AfterCall p c t' m' owned'
    after_call own same c count made =
        let sum = owned_by-call x.passes x.name c x.seen made.seen (owns own) made.call in
        let now = handles_seen made.seen made.sees in
        let before = ap handles view in
        record {
          same = same_pass made.seen made.sees same;
          called = by_seen made.seen made.sees (λ a b. Called a c b) (record {
            legal = made.sees.legal;
            extends = made.call;
            own = calls_of-call x.name c x.seen made.seen made.call;
          });
          handles = omega arith;
          pass = pass_seen made.seen made.sees (omega arith);
        }

    -- a mark or a question
    pub after_ask : 0 < handles p → t' ≡ t → {c found : Call} → c ≡ found → losses c ≡ gains c → Made x found m'
        → AfterCall p c t' m' owned
    after_ask own same {c} is none made =
        after_call own same c (omega arith) (subst (λ (k : Call). Made x k m') (sym is) made)

    pub after_end : 0 < handles p → t' ≡ t → (r : EndReply) → Made x (End r) m' → AfterCall p (End r) t' m' (owned - 1)
    after_end own same r made = let some = owns own in after_call own same (End r) (omega arith) made

    pub after_clone : 0 < handles p → t' ≡ t → (r : TryClone) → {born : ℕ} → born ≡ born_count r → Replied x r m'
        → AfterClone p r t' m' (owned + born)
    after_clone own same Overtaken count over =
        let sum = owned_by-others x.passes x.name x.seen over.0 over.1.others in
        let now = handles_seen over.0 over.2 in
        let before = ap handles view in
        record {
          same = same_pass over.0 over.2 same;
          called = λ other. absurd (other refl);
          overtaken = λ _. by_seen over.0 over.2 (λ a b. WasOvertaken a b) (record {
            legal = over.2.legal;
            extends = over.1;
            own = calls_of-others x.name x.seen over.0 over.1.others;
          });
          handles = omega arith;
          pass = pass_seen over.0 over.2 (omega arith);
        }
    after_clone own same r {born} count made =
        let after : AfterCall p (Clone r) t' m' (owned + born) = after_call own same (Clone r) (omega arith) made in
        let sum = after.handles in
        record {
          same = after.same;
          called = λ _. after.called;
          overtaken = λ e. absurd (cc);
          handles = omega arith;
          pass = after.pass;
        }

    pub after_meet : t' ≡ t → (h : List Event) → Follows x h → m' ≡ with_part (seeing x h) Whole
        → AfterMeet p t' m' owned
    after_meet same h follows seat =
        let sees : Sees x Whole h m' = record { seat = seat; legal = follows.legal } in
        let sum = owned_by-others x.passes x.name x.seen h follows.others in
        let now = handles_seen h sees in
        let before = ap handles view in
        record {
          same = same_pass h sees same;
          more = by_seen h sees (λ a b. HasSeenMore a b) (record {
            legal = follows.legal;
            extends = follows.others;
            own = calls_of-others x.name x.seen h follows.others;
          });
          handles = omega arith;
          pass = pass_seen h sees (omega arith);
        }
