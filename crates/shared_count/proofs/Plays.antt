-- Each step keeps the rule, and what it tells is true.
use Rattle.std.proofs.Common.{◌≡◌, ◌≢◌, ℕ, suc, ◌+◌, ◌-◌, ◌%◌, ◌^◌, ◌<◌, ◌≤◌, Bool, true, false, nat_eq, List, [], ◌∷◌}
use Rattle.std.proofs.Common.{length, get_or, set, sym, refl, ap, ◌∙◌, subst, arith, if◌then◌else◌, sum_by}
use Rattle.std.specs.Prelude.{bit_or}
use mathlib.Core.Option.{none, some}
use prog.Atomic.{either}
use lib.ListN.{get_elem?}
use Rattle.atomic_table.proofs.Lists.{exchanged}
use Rattle.atomic_table.specs.Table.{step, keeps, stepped}
use Rattle.counting_word.specs.CountingWord.{mark_bit, greatest_count, is_marked_word, count_of, is_one_handle}
use Rattle.counting_word.specs.Plans.{clone_plan, drop_plan}
use Rattle.counting_word.specs.declared.ClonePlan.{ClonePlan}
use Rattle.counting_word.specs.declared.ClonePlan.TheVariants as plan
use Rattle.counting_word.specs.declared.DropPlan.{DropPlan}
use Rattle.counting_word.specs.declared.DropPlan.TheVariants as drop_as
use Rattle.counting_word.proofs.Words.{word-unmarked, exactly-marked, exactly-unmarked, is_one_handle-exactly}
use Rattle.counting_word.proofs.Words.{stands-live, stands-in_drop, within_greatest, below_limit, stands-raise}
use Rattle.counting_word.proofs.Words.{stands-lower, word-lowered, bit_or-mark_bit, stands-marked_word}
use Rattle.counting_word.proofs.Plans.{ClonePlanSays, clone_plan-says, DropPlanSays, drop_plan-says}
use Rattle.shared_count.specs.History.{Call, Clone, End, Mark, Unique, Static, TryClone, Born, Full, Ended, CountState}
use Rattle.shared_count.specs.History.{handles_of, without, next, has_exactly, end_reply, IsReply, left_by, owned_by}
use Rattle.shared_count.specs.Inside.Shares.{Known, Part, Whole, InDrop, Share, share, drops}
use Rattle.shared_count.specs.Inside.Rule.{Means, Keeps}
use Rattle.shared_count.specs.Inside.Steps.{SeatState, Made, Counts, Counted, Judged, Begun, TellsUnique, Tells}
use Rattle.shared_count.specs.Inside.Steps.{TellsStatic, TellsMark, TellsClone, TellsRaise, TellsEnd, TellsLower}
use Rattle.shared_count.proofs.Histories.{owned_by-others, without-taken, none_left}
use Rattle.shared_count.proofs.Moves.{Table, May, know, calls, called, looks, looked, drops-set, for_known}
use Rattle.shared_count.proofs.Drops.{covered}

-- a step of the pass x on the word of the table s, which may become w
module _ (n : ℕ) (s : Table) (k : Keeps n s) (id : ℕ) (x : Known) where
  abbrev Now : CountState
  Now = left_by n k.log

  abbrev Word : ℕ
  Word = get_or s.words 0 0

  abbrev live : ℕ
  live = length Now.owners

  abbrev in_drop : ℕ
  in_drop = sum_by drops s.views

  -- the step leaves the word at w, keeps the rule, and tells this
  abbrev Goes : ℕ → (SeatState → Type 0) → Type 0
  Goes w says = (v : List Share) × Keeps n (stepped s 0 w id [] v keeps) × says (v, [])

  owns_now : (part : Part) → get_elem? s.views id ≡ some (share x part ∷ []) → 0 < owned_by n x.name x.seen
      → 0 < handles_of x.name Now
  owns_now part at own =
      let here = know n s k id x part 0 at in
      let same = owned_by-others n x.name x.seen k.log here.begins in
      omega arith

  module _ (at : get_elem? s.views id ≡ some (share x Whole ∷ [])) (own : 0 < owned_by n x.name x.seen) where
    unmoved : (y : Known) → in_drop ≡ sum_by drops (set s.views id (share y Whole ∷ []))
    unmoved y = let sum = drops-set s.views id x y Whole Whole at in omega arith

    -- a call that is answered by the word as it is
    answered : (c : Call) (w : ℕ) → IsReply Now x.name c → Means w (next Now x.name c)
        in_drop → Goes w (Made x c)
    answered c w reply stands = let y : Known = called n s k id x Whole w at c in
        let r = calls n s k id x Whole w at c refl own reply (subst (Means w (next Now x.name c)) (unmoved y) stands) in
        (share y Whole ∷ [], r.0, r.1)

    counted : is_marked_word Word ≡ false → Word < greatest_count → Goes Word (λ m. Counted x Word m)
    counted unmarked room =
        let y : Known = looked n s k id x Whole Word at Whole in
        let r = looks n s k id x Whole Word at Whole refl (λ e. absurd (cc))
        (subst (Means Word Now) (unmoved y) k.word) in
        let here = know n s k id x Whole Word at in
        let is : live ≡ Word = sym (word-unmarked Word live in_drop Now.mark unmarked k.word) in (
          share y Whole ∷ [],
          r.0,
          record {
            looked = record { seen = k.log; others = r.1; sees = r.2 };
            counts = subst (λ (m : ℕ). Counts Word (left_by m k.log)) (sym here.opened)
                (sym k.word.same_mark ∙ unmarked, is);
            room = room;
          },
        )

    -- the load of a clone
    judged : Goes Word (λ m. Judged x (clone_plan Word greatest_count) Word m)
    judged = by_plan (clone_plan Word greatest_count)
        (clone_plan-says Word greatest_count (clone_plan Word greatest_count) refl) where
          reply_is : (b : Bool) → has_exactly greatest_count Now ≡ b → (r : TryClone)
              → r ≡ (if b then Full else Born)
              → IsReply Now x.name (Clone r)
          reply_is b e r is = is ∙ ap (λ (z : Bool). if z then Full else Born) (sym e)

          by_plan : (p : ClonePlan) → ClonePlanSays Word greatest_count p → Goes Word (Judged x p Word)
          by_plan plan.Static marked = answered (Clone Born) Word
              (reply_is false (exactly-marked Word live in_drop greatest_count Now.mark marked k.word) Born refl)
              (stands-live Word live (suc live) in_drop Now.mark marked k.word)
          by_plan plan.Full says = answered (Clone Full) Word
              (reply_is true (exactly-unmarked Word live in_drop greatest_count Now.mark says.0 k.word ∙ says.1)
              Full refl)
              k.word
          by_plan (plan.Raise _) says = counted says.0 (below_limit Word greatest_count (within_greatest Word)
              says.0 says.1)

    -- a raise that wins
    won : is_marked_word Word ≡ false → nat_eq (count_of Word) greatest_count ≡ false
        → Goes (Word + 1) (Made x (Clone Born))
    won unmarked room = answered (Clone Born) (Word + 1)
        (ap (λ (b : Bool). if b then Full else Born)
        (sym (exactly-unmarked Word live in_drop greatest_count Now.mark unmarked k.word ∙ room)))
        (stands-raise Word live (suc live)
        in_drop in_drop Now.mark unmarked (below_limit Word greatest_count (within_greatest Word) unmarked room)
        (omega arith) k.word)

    -- the load of an end
    begun : Goes Word (λ m. Begun x (drop_plan Word) m)
    begun = by_plan (drop_plan Word) (drop_plan-says Word (drop_plan Word) refl) where
      by_plan : (p : DropPlan) → DropPlanSays Word p → Goes Word (Begun x p)
      by_plan drop_as.Static marked = answered (End Ended) Word
          (ap end_reply (sym (none_left x.name Now Ended (owns_now Whole at own)
          ∙ exactly-marked Word live in_drop 1 Now.mark marked k.word)))
          (stands-live Word live (length (next Now x.name (End Ended)).owners) in_drop Now.mark marked k.word)
      by_plan drop_as.Lower unmarked = let y : Known = looked n s k id x Whole Word at InDrop in
          let r = looks n s k id x Whole Word at InDrop refl (λ _. own)
          (stands-in_drop Word live in_drop (sum_by drops (set s.views id (share y InDrop ∷ []))) Now.mark unmarked
          k.word) in
          (share y InDrop ∷ [], r.0, record { seen = k.log; others = r.1; sees = r.2 })

  -- a drop lowers the word
  lowered : get_elem? s.views id ≡ some (share x InDrop ∷ []) → 0 < owned_by n x.name x.seen
      → (1 ≤ Word) × Goes (Word - 1) (Made x (End (end_reply (is_one_handle Word))))
  lowered at own =
      let c : Call = End (end_reply (is_one_handle Word)) in
      let y : Known = called n s k id x InDrop (Word - 1) at c in
      let owner = owns_now InDrop at own in
      let fewer = without-taken x.name Now.owners owner in
      let sum = drops-set s.views id x y InDrop Whole at in
      let less = stands-lower Word live (length (without x.name Now.owners)) in_drop
      (sum_by drops (set s.views id (share y Whole ∷ []))) Now.mark fewer.shorter (omega arith) k.word in
      let reply : IsReply Now x.name c = ap end_reply (is_one_handle-exactly Word live in_drop Now.mark k.word
      ∙ sym (none_left x.name Now (end_reply (is_one_handle Word)) owner)) in
      let r = calls n s k id x InDrop (Word - 1) at c refl own reply less.1 in
      (less.0, (share y Whole ∷ [], r.0, r.1))

-- a step is allowed if it goes, and tells its pass this of the number that it finds
module _ (n slots id : ℕ) where
  may : (part : Part) (f : ℕ → ℕ) (says : Known → ℕ → SeatState → Type 0)
      → ((s : Table) (k : Keeps n s) (x : Known) → get_elem? s.views id ≡ some (share x part ∷ [])
      → 0 < owned_by n x.name x.seen → get_or s.words 0 0 < 2 ^ 64
      → Goes n s k id x (f (get_or s.words 0 0)) (says x (get_or s.words 0 0)))
      → May n slots id part f (Tells part says)
  may part f says goes = record {
    allows = λ x own s k _ at small.
        let r = goes s k x at own small in
        (r.0, keeps, tt, r.1, for_known x part (λ z. says z (get_or s.words 0 0) (r.0, [])) r.2);
  }

  pub asks_unique : May n slots id Whole (λ r. r) (TellsUnique (step slots 0 0 0 none))
  asks_unique = may Whole (λ r. r) (λ x found. Made x (Unique (is_one_handle found))) (λ s k x at own _.
      let w : ℕ = get_or s.words 0 0 in
      let l : CountState = left_by n k.log in
      answered n s k id x at own (Unique (is_one_handle w)) w
      (is_one_handle-exactly w (length l.owners) (sum_by drops s.views) l.mark k.word) k.word)

  pub asks_static : May n slots id Whole (λ r. r) (TellsStatic (step slots 0 0 0 none))
  asks_static = may Whole (λ r. r) (λ x found. Made x (Static (is_marked_word found))) (λ s k x at own _.
      let w : ℕ = get_or s.words 0 0 in
      answered n s k id x at own (Static (is_marked_word w)) w k.word.same_mark k.word)

  pub marks : May n slots id Whole (λ r. bit_or r mark_bit) (TellsMark (step slots 0 mark_bit 0 none))
  marks = may Whole (λ r. bit_or r mark_bit) (λ x found. Made x Mark) (λ s k x at own small.
      let w : ℕ = get_or s.words 0 0 in
      let l : CountState = left_by n k.log in
      let stands = stands-marked_word w (length l.owners) (sum_by drops s.views) l.mark k.word (covered n s k) in
      answered n s k id x at own Mark (bit_or w mark_bit) tt
      (subst (λ (z : ℕ). Means z (next l x.name Mark) (sum_by drops s.views)) (sym (bit_or-mark_bit w small)) stands))

  pub begins_clone : May n slots id Whole (λ r. r) (TellsClone (step slots 0 0 0 none))
  begins_clone = may Whole (λ r. r) (λ x found. Judged x (clone_plan found greatest_count) found)
      (λ s k x at own _. judged n s k id x at own)

  pub begins_end : May n slots id Whole (λ r. r) (TellsEnd (step slots 0 0 0 none))
  begins_end = may Whole (λ r. r) (λ x found. Begun x (drop_plan found)) (λ s k x at own _. begun n s k id x at own)

  pub lowers : May n slots id InDrop (λ r. (r + (2 ^ 64 - 1)) % 2 ^ 64) (TellsLower (step slots 0 1 0 none))
  lowers = may InDrop (λ r. (r + (2 ^ 64 - 1)) % 2 ^ 64)
      (λ x found. Made x (End (end_reply (is_one_handle found)))) (λ s k x at own small.
      let w : ℕ = get_or s.words 0 0 in
      let r = lowered n s k id x at own in
      subst (λ (z : ℕ). Goes n s k id x z (Made x (End (end_reply (is_one_handle w))))) (sym (word-lowered w r.0 small))
      r.1)

  pub raises : (old new : ℕ) → plan.Raise new ≡ clone_plan old greatest_count
      → May n slots id Whole (λ r. either (nat_eq r old) new r) (TellsRaise (step slots 0 old new none))
  raises old new made = may Whole (λ r. either (nat_eq r old) new r) Says (λ s k x at own _.
      let w : ℕ = get_or s.words 0 0 in
      exchanged w old new (λ z. Goes n s k id x z (Says x w)) (λ e. hit s k x at own e)
      (λ other. let r = judged n s k id x at own in (r.0, r.1, ((λ e. absurd (other e)), λ _. r.2)))) where
        Says : Known → ℕ → SeatState → Type 0
        Says x found m = (found ≡ old → Made x (Clone Born) m)
            × (found ≢ old → Judged x (clone_plan found greatest_count) found m)

        hit : (s : Table) (k : Keeps n s) (x : Known) → get_elem? s.views id ≡ some (share x Whole ∷ [])
            → 0 < owned_by n x.name x.seen → get_or s.words 0 0 ≡ old
            → Goes n s k id x new (Says x (get_or s.words 0 0))
        hit s k x at own e =
            let plan_says = clone_plan-says old greatest_count (plan.Raise new) made in
            let unmarked : is_marked_word (get_or s.words 0 0) ≡ false = ap is_marked_word e ∙ plan_says.0 in
            let room = ap (λ (z : ℕ). nat_eq (count_of z) greatest_count) e ∙ plan_says.1 in
            let r = subst (λ (z : ℕ). Goes n s k id x z (Made x (Clone Born)))
            (ap (λ (z : ℕ). z + 1) e ∙ sym plan_says.2) (won n s k id x at own unmarked room) in
            (r.0, r.1, ((λ _. r.2), λ other. absurd (other e)))
