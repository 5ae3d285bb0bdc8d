-- What the last entry of a log found, from what its step says.
use Rattle.std.proofs.Common.{◌≡◌, ◌≢◌, ℕ, Bool, true, false, if◌then◌else◌, List, [], ◌∷◌, ◌++◌, refl, sym, ap}
use Rattle.std.proofs.Common.{◌∙◌, subst, ne_eqb, Contains, arith, zero, nat_eq}
use Rattle.counting_word.specs.CountingWord.{is_marked_word, IsLimit}
use Rattle.counting_word.specs.declared.DropPlan.{DropPlan}
use Rattle.counting_word.specs.declared.DropPlan.TheVariants.{Static as StaticDrop, Lower}
use Rattle.counting_word.specs.Plans.{clone_plan, drop_plan}
use Rattle.counting_word.specs.declared.ClonePlan.TheVariants.{Full}
use Rattle.counting_word.specs.Rights.{Right, a_handle, right_by_read, right_by_raise}
use Rattle.counting_word.specs.WordSteps.{WordStep, reads, raises_from}
use Rattle.counting_word.specs.Logs.{Entry, made}
use Rattle.counting_word.specs.Tallies.{Tally, first, counted, has_exactly, one_more, after_read, tally_after, tally_of}
use Rattle.counting_word.specs.Tallies.{IsRunFrom, IsRun, IsTallied, Adds}
use Rattle.counting_word.proofs.Kept.{tally-append}
use Rattle.counting_word.proofs.Tallies.{runs_are_counted}
use Rattle.handles.specs.Founds.{Found, HasFound, FoundFull, Answers}

pub found_full : (word limit : ℕ) (log same : List Entry) → Found limit word log → clone_plan word limit ≡ Full
    → same ≡ log → FoundFull limit same
found_full word limit log same found plan is = (word, subst (Found limit word) (sym is) found, plan)

-- what a lost raise leaves its maker with
pub lost_right : (seen found : ℕ) (r : Right)
    → r ≡ right_by_raise seen found → found ≢ seen → r ≡ right_by_read found
lost_right seen found r is differs = is ∙ ap (λ (b : Bool). if b then a_handle else right_by_read found)
    (ne_eqb found seen differs)

-- the step that answers may go on from a log that is known
pub answers : {n : ℕ} {s : WordStep} {test : ℕ → Bool} {answer : Bool} (limit : ℕ) (old : List Entry) (word : ℕ)
    (log same : List Entry) → Adds limit old (made n s) word log → answer ≡ test word → same ≡ log
    → Answers limit n s test answer same
answers limit old word log same adds is at = (
  word,
  record {
    runs = subst (IsRun limit) (sym at) adds.runs;
    others = old ++ adds.others;
    found_word = adds.found_word;
    ends = at ∙ adds.ends;
  },
  is,
)

abbrev is-static : DropPlan → Bool
is-static StaticDrop = true
is-static Lower = false

-- a drop that is planned for a static block has read the mark
pub marked_by_plan : (word : ℕ) → drop_plan word ≡ StaticDrop → true ≡ is_marked_word word
marked_by_plan word plan = at (is_marked_word word) plan where
  at : (b : Bool) → (if b then StaticDrop else Lower) ≡ StaticDrop → true ≡ b
  at true e = refl
  at false e = ap is-static (sym e)

-- a run up to its last entry
run-less : (limit : ℕ) (p : Tally) (log : List Entry) (e : Entry) → IsRunFrom limit p (log ++ e ∷ [])
    → IsRunFrom limit p log
run-less limit p [] e run = tt
run-less limit p (x ∷ xs) e run = (run.0, run-less limit (tally_after p x) xs e run.1)

-- an entry found the word that the run before it counts
module _ (limit : ℕ) (is : IsLimit limit) (old : List Entry) (e : Entry) (word : ℕ) (log : List Entry)
    (adds : Adds limit old e word log) where
  abbrev before : List Entry
  before = old ++ adds.others

  tallied : IsTallied word (tally_of before)
  tallied = subst (λ (w : ℕ). IsTallied w (tally_of before)) adds.found_word
      (runs_are_counted limit before is (run-less limit first before e (subst (IsRun limit) adds.ends adds.runs))).0

  after : tally_of log ≡ tally_after (tally_of before) e
  after = ap tally_of adds.ends ∙ tally-append first before (e ∷ [])

  found-here : (n : ℕ) → tally_after (tally_of before) e ≡ after_read (tally_of before) n
      → is_marked_word word ≡ false → HasFound n word log
  found-here n is_read unmarked =
      let none : (tally_of before).mark ≡ false = sym tallied.same_mark ∙ unmarked in
      subst (λ (p : Tally). Contains p.found (n, word)) (sym (after ∙ is_read))
      (at (tally_of before).mark none) where
        at : (m : Bool) → m ≡ false
            → Contains (if m then one_more (tally_of before) else record (tally_of before) {
              found = (n, counted (tally_of before)) ∷ (tally_of before).found;
            }).found (n, word)
        at false none = (
          zero,
          omega arith,
          ap (λ (w : ℕ). (n, w)) (sym (tallied.same_count (sym tallied.same_mark ∙ unmarked))),
        )
        at true none = absurd (cc)

-- a read found its word for a raise
pub read_found : (limit : ℕ) → IsLimit limit → (old : List Entry) (n word : ℕ) (log : List Entry)
    → Adds limit old (made n reads) word log → is_marked_word word ≡ false → HasFound n word log
read_found limit is old n word log adds = found-here limit is old (made n reads) word log adds n refl

-- and so did a raise that lost
pub raise_found : (limit : ℕ) → IsLimit limit → (old : List Entry) (n seen word : ℕ) (log : List Entry)
    → Adds limit old (made n (raises_from seen)) word log → word ≢ seen → is_marked_word word ≡ false
    → HasFound n word log
raise_found limit is old n seen word log adds differs unmarked =
    found-here limit is old (made n (raises_from seen)) word log adds n lost unmarked where
      p : Tally
      p = tally_of (old ++ adds.others)

      c : IsTallied word p
      c = tallied limit is old (made n (raises_from seen)) word log adds

      not_so : has_exactly seen p ≡ false
      not_so = at p.mark (sym c.same_mark ∙ unmarked) where
        at : (m : Bool) → m ≡ false → (if m then false else nat_eq (counted p) seen) ≡ false
        at false e = ne_eqb (counted p) seen (λ same. differs (c.same_count (sym c.same_mark ∙ unmarked) ∙ same))
        at true e = refl

      lost : tally_after p (made n (raises_from seen)) ≡ after_read p n
      lost = ap (λ (b : Bool). if b then one_more p else after_read p n) not_so
