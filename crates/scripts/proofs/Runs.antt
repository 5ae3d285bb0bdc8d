-- What a run of a script's lines has come to, line by line.
use Rattle.std.proofs.Common.{◌≡◌, ℕ, ◌+◌, List, [], ◌∷◌, ◌++◌, Option, Some, Ok, Err, OnOk, IfErr, IsErrAnd}
use Rattle.std.proofs.Common.{refl, sym, subst, append_assoc, append-nil, codes}
use Rattle.std.specs.Io.KnownBytes.{Appends}
use Rattle.std.proofs.KnownBytes.{Appends-nil, Appends-trans}
use Rattle.scripts.specs.Fault.{Outcome, PrintsUpTo, Reaches}
use Rattle.scripts.specs.Script.{Runs, ends, stops, fails, goes_on, Reach, AllLines, FaultyLine, SomeLines}
use Rattle.scripts.specs.Script.{lines_of, answer_text}
use Rattle.scripts.specs.Written.{Wrote, WroteBeginning}
use Rattle.scripts.specs.declared.fault.Fault.{Fault}
use Rattle.scripts.specs.declared.fault.Fault.TheVariants.{Arguments, Line, Input, Output, Memory}

-- no faulty line ended the run, but the input, the output or memory
abbrev pub IsStopped : Outcome → Type 0
IsStopped (Ok done) = ⊥
IsStopped (Err Arguments) = Unit
IsStopped (Err (Line number)) = ⊥
IsStopped (Err Input) = Unit
IsStopped (Err Output) = Unit
IsStopped (Err Memory) = Unit

pub stopped_by : (fault : Fault) → IsStopped (Err fault) → (outcome : Outcome) → IsErrAnd outcome (λ f. f ≡ fault)
    → IsStopped outcome
stopped_by fault stop (Ok done) is = absurd is
stopped_by fault stop (Err f) is = subst (λ f. IsStopped (Err f)) (sym is) stop

reaches : (outcome : Outcome) → IsStopped outcome → (reach : Reach) (left : List ℕ) → Reaches outcome reach left
reaches (Ok done) stop reach left = absurd stop
reaches (Err Arguments) stop reach left = tt
reaches (Err (Line number)) stop reach left = absurd stop
reaches (Err Input) stop reach left = tt
reaches (Err Output) stop reach left = tt
reaches (Err Memory) stop reach left = tt

module _ {S : Type 0} (answers : S → List ℕ → List ℕ → S → Type 0) (is_faulty : List ℕ → Type 0) (old : S)
    (script : List ℕ) where
  -- so many lines were answered by a part that is written and one that is not, and whatever a run of the other lines
  -- writes comes after them
  pub record SoFar (count : ℕ) (written part : List ℕ) (now : S) (rest : List ℕ) : Type 0 where
    pub after : (reach : Reach) (more : List ℕ) (new : S)
        → Runs answers is_faulty (count + 1) now (lines_of rest) reach more new
        → Runs answers is_faulty 1 old (lines_of script) reach (written ++ (part ++ more)) new

  pub SoFar-none : SoFar 0 [] [] old script
  SoFar-none = record { after = λ reach more new runs. runs }

  -- one more line is answered
  pub SoFar-more : (count : ℕ) (written part parted line text rest others : List ℕ) (now next : S)
      → SoFar count written part now rest → lines_of rest ≡ line ∷ lines_of others → answers now line text next
      → parted ≡ part ++ text → SoFar (count + 1) written parted next others
  SoFar-more count written part parted line text rest others now next so first answered e = record {
    after = λ reach more new runs.
        rw e (rw append_assoc (so.after reach (text ++ more) new (rw first (goes_on answered runs))));
  }

  -- the part is written
  pub SoFar-written : (count : ℕ) (written part left rest : List ℕ) (now : S) → SoFar count written part now rest
      → left ≡ [] → SoFar count (written ++ part) left now rest
  SoFar-written count written part left rest now so e = record {
    after = λ reach more new runs. rw e (rw append_assoc (so.after reach more new runs));
  }

  -- the next line is faulty
  pub SoFar-faulty : (count : ℕ) (written part parted line rest others : List ℕ) (now new : S)
      → SoFar count written part now rest → lines_of rest ≡ line ∷ lines_of others → is_faulty line → new ≡ now
      → parted ≡ part ++ answer_text (codes "fault: line ", Some (count + 1))
      → Runs answers is_faulty 1 old (lines_of script) (FaultyLine (count + 1)) (written ++ parted) new
  SoFar-faulty count written part parted line rest others now new so first faulty same e =
      rw same (rw e (so.after (FaultyLine (count + 1)) _ now (rw first (fails faulty))))

  -- the whole text was written that such a run writes
  pub whole : (outcome : Outcome) (reach : Reach) (written part : List ℕ) (new : S)
      (held holds holds' : Option (List ℕ)) → Reaches outcome reach []
      → Runs answers is_faulty 1 old (lines_of script) reach (written ++ part) new
      → Appends held holds written → Appends holds holds' part
      → Wrote (λ text. PrintsUpTo answers is_faulty old script outcome text new) held holds'
  whole outcome reach written part new held holds holds' reaches runs appended all = (
    written ++ part,
    record { reach = reach; left = []; reaches = reaches; runs = rw append-nil runs },
    Appends-trans held holds holds' written part appended all,
  )

  -- the run stops, after a beginning of its last part was written
  pub stopped : (outcome : Outcome) → IsStopped outcome
      → (reach : Reach) (written part : List ℕ) (new : S) (held holds holds' : Option (List ℕ))
      → Runs answers is_faulty 1 old (lines_of script) reach (written ++ part) new
      → Appends held holds written → WroteBeginning part holds holds'
      → Wrote (λ text. PrintsUpTo answers is_faulty old script outcome text new) held holds'
  stopped outcome stop reach written part new held holds holds' runs appended (done, left, split, begun) = (
    written ++ done,
    record {
      reach = reach;
      left = left;
      reaches = reaches outcome stop reach left;
      runs = rw append_assoc (subst (λ t. Runs answers is_faulty 1 old (lines_of script) reach (written ++ t) new)
          split runs);
    },
    Appends-trans held holds holds' written done appended begun,
  )

  -- it stops between two lines, and nothing of its last part was written
  pub stopped_between : (outcome : Outcome) → IsStopped outcome
      → (count : ℕ) (written part rest : List ℕ) (now : S) (held holds : Option (List ℕ))
      → SoFar count written part now rest → Appends held holds written
      → Wrote (λ text. PrintsUpTo answers is_faulty old script outcome text now) held holds
  stopped_between outcome stop count written part rest now held holds so appended =
      stopped outcome stop SomeLines written (part ++ []) now held holds holds
      (so.after SomeLines [] now stops) appended ([], part ++ [], refl, Appends-nil holds)

  -- it stops before the first line
  pub stopped_at_once : (outcome : Outcome) → IsStopped outcome → PrintsUpTo answers is_faulty old script outcome [] old
  stopped_at_once outcome stop =
      record { reach = SomeLines; left = []; reaches = reaches outcome stop SomeLines []; runs = stops }

  -- no line is left, and the last part is written or a beginning of it
  pub ended : (outcome : Outcome) (count : ℕ) (written part rest : List ℕ) (now : S)
      (held holds holds' : Option (List ℕ)) → SoFar count written part now rest → rest ≡ []
      → Appends held holds written → OnOk outcome (Appends holds holds' part) → WroteBeginning part holds holds'
      → IfErr outcome (λ f. f ≡ Output)
      → Wrote (λ text. PrintsUpTo answers is_faulty old script outcome text now) held holds'
  ended (Ok done) count written part rest now held holds holds' so end appended all begun is =
      whole (Ok done) AllLines written (part ++ []) now held holds holds' (refl, refl)
      (so.after AllLines [] now (rw end ends)) appended (rw append-nil all)
  ended (Err fault) count written part rest now held holds holds' so end appended all begun is =
      stopped (Err fault) (stopped_by Output tt (Err fault) is) AllLines written (part ++ []) now held holds holds'
      (so.after AllLines [] now (rw end ends)) appended (rw append-nil begun)

-- a run over states shows as a run over what the states show
module _ {S S' : Type 0} (answers : S → List ℕ → List ℕ → S → Type 0)
    (answers' : S' → List ℕ → List ℕ → S' → Type 0) (is_faulty : List ℕ → Type 0) (Shows : S → S' → Type 0)
    (follows : (old new : S) (old' : S') (line text : List ℕ) → Shows old old' → answers old line text new
    → (new' : S') × answers' old' line text new' × Shows new new') where
  shown : {number : ℕ} {old new : S} {lines : List (List ℕ)} {reach : Reach} {text : List ℕ}
      → Runs answers is_faulty number old lines reach text new → (old' : S') → Shows old old'
      → (new' : S') × Runs answers' is_faulty number old' lines reach text new' × Shows new new'
  shown ends old' shows = (old', ends, shows)
  shown stops old' shows = (old', stops, shows)
  shown (fails faulty) old' shows = (old', fails faulty, shows)
  shown (goes_on answered runs) old' shows =
      let (next', answered', shows_next) = follows _ _ old' _ _ shows answered in
      let (new', runs', shows_new) = shown runs next' shows_next in
      (new', goes_on answered' runs', shows_new)

  pub prints_shown : (script : List ℕ) (outcome : Outcome) (text : List ℕ) (old new : S) (old' : S')
      → Shows old old' → PrintsUpTo answers is_faulty old script outcome text new
      → (new' : S') × PrintsUpTo answers' is_faulty old' script outcome text new' × Shows new new'
  prints_shown script outcome text old new old' shows prints =
      let (new', runs, shows_new) = shown prints.runs old' shows in
      (new', record { reach = prints.reach; left = prints.left; reaches = prints.reaches; runs = runs }, shows_new)
