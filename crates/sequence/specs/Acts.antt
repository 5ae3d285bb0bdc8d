-- Changes of a list at a cut.
use Rattle.std.specs.Prelude.{◌≡◌, ℕ, zero, suc, ◌+◌, Bool, true, false, None, Some, Option, List, [], ◌∷◌}
use Rattle.std.specs.Prelude.{IsTrue, cond, is_some, length, not, slice_get, slice_set}
use Rattle.std.specs.List.{insert, remove}
use Rattle.std.specs.Int.{from_bool}
use Rattle.std.specs.Borrow.{MutBor}
use Rattle.std.specs.Fn.{Once, FnOnceReturnsAtMut}
use Rattle.sequence.specs.Changes.{ChangesItem}
use Rattle.sequence.specs.Cuts.{IsCut}
use Rattle.sequence.specs.Nodes.{first_label}
use Rattle.sequence.specs.Spots.{spliced}

-- the last of so many first items
abbrev pub last_of : {T : Type 0} → ℕ → List T → Option T
last_of zero es = None
last_of (suc at) es = slice_get es at

-- how many items went, if that is the answer
abbrev pub gone : {R : Type 0} → Option R → ℕ
gone answer = from_bool (is_some answer)

-- how many items come with that answer: an act that grows puts one in if none went, and one that loses puts none in the
-- place of one that did
abbrev pub comes : {R : Type 0} → Bool → Bool → Option R → ℕ
comes grows loses answer = from_bool (cond (is_some answer) (not loses) grows)

-- the last item before the cut went if there is an answer, and others came, as that act does it at such a last item
pub record IsActed {T R : Type 0} (test : T → Bool) (does : Option R → Option T → List T → Type 0)
    (grows loses : Bool) (old new : List T) (answer : Option R) : Type 0 where
  pub at : ℕ
  pub cut : IsCut test old (at + gone answer)
  pub more : List T
  pub done : does answer (last_of (at + gone answer) old) more
  pub come : length more ≡ comes grows loses answer
  pub items : new ≡ spliced at (gone answer) more old

-- so it is in a tree, whose height stays, and whose first label stays if it is told to
pub record IsActedIn {T L R : Type 0} (label_of : T → L) (labelled : Bool) (test : T → Bool)
    (does : Option R → Option T → List T → Type 0) (grows loses : Bool) (old new : List T × ℕ) (answer : Option R)
    : Type 0 where
  pub acted : IsActed test does grows loses old.0 new.0 answer
  pub height : new.1 ≡ old.1
  pub first : IsTrue labelled → first_label label_of new.0 ≡ first_label label_of old.0

module _ {T : Type 0} (sought : T → Bool) where
  -- the last item before the cut is not the one that is sought
  abbrev pub IsMissed : Option T → Type 0
  IsMissed last = (item : T) → last ≡ Some item → sought item ≡ false

  -- the sought item goes, and is the answer
  abbrev pub takes : Option T → Option T → List T → Type 0
  takes None last more = IsMissed last × (more ≡ [])
  takes (Some item) last more = (last ≡ Some item) × ((sought item ≡ true) × (more ≡ []))

  -- an item comes, or another in place of the sought one
  abbrev pub puts : {R : Type 0} → T → (T → T) → (T → R) → Option R → Option T → List T → Type 0
  puts made replaced old None last more = IsMissed last × (more ≡ made ∷ [])
  puts made replaced old (Some value) last more = (item : T) × ((last ≡ Some item) × ((sought item ≡ true)
      × ((value ≡ old item) × (more ≡ replaced item ∷ []))))

  -- a call on the sought item gave the answer, and the item becomes what that call left
  abbrev pub changes : {F R : Type 0} → Once F (MutBor T × Unit {0}) (R × (MutBor T × Unit {0})) → F
      → Option R → Option T → List T → Type 0
  changes g change None last more = IsMissed last × (more ≡ [])
  changes g change (Some r) last more = (item : T) × ((after : T) × ((last ≡ Some item) × ((sought item ≡ true)
      × (FnOnceReturnsAtMut g change item r after × (more ≡ after ∷ [])))))

  module _ (test : T → Bool) where
    -- the last item before the cut, if there is one, is not the sought one
    pub record IsAbsent (es : List T) : Type 0 where
      pub at : ℕ
      pub cut : IsCut test es at
      pub missed : IsMissed (last_of at es)

    -- the last item before the cut is the one of that number, and the sought one
    pub record IsFound (es : List T) (at : ℕ) : Type 0 where
      pub item : T
      pub cut : IsCut test es (at + 1)
      pub is : slice_get es at ≡ Some item
      pub found : sought item ≡ true

    -- so many are before the cut, and the last of them, if there is one, is not the sought one
    pub record IsMissing (es : List T) (at : ℕ) : Type 0 where
      pub cut : IsCut test es at
      pub missed : IsMissed (last_of at es)

    -- the last item before the cut is the sought one
    pub record IsThere (es : List T) : Type 0 where
      pub at : ℕ
      pub is : IsFound es at

    -- that holds of the sought item, if it is there
    abbrev pub OfSought : (T → Type 0) → List T → Type 0
    OfSought holds es = (at : ℕ) (there : IsFound es at) → holds there.item

    -- it was, and a call on it gave r and left what the list has there
    pub record IsChanged {F R : Type 0} (g : Once F (MutBor T × Unit {0}) (R × (MutBor T × Unit {0}))) (change : F)
        (old new : List T) (r : R) : Type 0 where
      pub at : ℕ
      pub there : IsFound old at
      pub did : ChangesItem g change at old new r

    -- it was, and was taken out
    pub record IsTaken (old new : List T) (one : T) : Type 0 where
      pub at : ℕ
      pub cut : IsCut test old (at + 1)
      pub item : slice_get old at ≡ Some one
      pub found : sought one ≡ true
      pub items : new ≡ remove old at

    -- it was not, and this one was put in behind the cut
    pub record IsAdded (old new : List T) (one : T) : Type 0 where
      pub at : ℕ
      pub cut : IsCut test old at
      pub missed : IsMissed (last_of at old)
      pub items : new ≡ insert old at one

    -- it was, and became another
    pub record IsReplaced {R : Type 0} (replaced : T → T) (put_out : T → R) (old new : List T) (answer : R)
        : Type 0 where
      pub at : ℕ
      pub before : T
      pub cut : IsCut test old (at + 1)
      pub item : slice_get old at ≡ Some before
      pub found : sought before ≡ true
      pub value : answer ≡ put_out before
      pub items : new ≡ slice_set old at (replaced before)
