-- A branch under one child of which something was done where a cut is.
use Rattle.std.proofs.Common.{◌≡◌, ◌+◌, ◌<◌, ◌≤◌, ◌^◌, ℕ, zero, suc, Bool, List, [], ◌∷◌, ◌++◌, length, take, drop}
use Rattle.std.proofs.Common.{get_or, set, refl, ap, sym, ◌∙◌, subst, arith, inl, inr, true, true≢false, false, ◌⊎◌}
use Rattle.std.specs.Int.{from_bool}
use Rattle.std.specs.Prelude.{IfErr, IfOk, IsErrAnd, IsTrue, MatchResult, None, OnErr, Option, Some, Ok, Err, Result}
use Rattle.std.specs.Prelude.{cond, is_some, not}
use Rattle.std.proofs.lemmas.Nat.{pow_pos}
use Rattle.std.proofs.lemmas.Option.{none-some}
use Rattle.sequence.specs.declared.tree.Child.{Child}
use Rattle.sequence.specs.Acts.{IsActed, IsActedIn, OfSought, comes, gone, last_of}
use Rattle.sequence.specs.Cuts.{HasCut, IsAmong, IsCut, first}
use Rattle.sequence.specs.Nodes.{AreChildren, CanLose, IsChild, IsList, StandFor, first_label, height_in, items_in}
use Rattle.sequence.proofs.Nodes.Children.{items_set, items_split}
use Rattle.sequence.proofs.Cuts.{Holds, cut_there, first_is, has_part, holds_all, none_front}
use Rattle.sequence.proofs.Cutting.Acts.{read_again}
use Rattle.sequence.proofs.Cutting.Labels.{holds_child}
use Rattle.sequence.proofs.Nodes.Labelled.{labelled_at, labelled_by}
use Rattle.sequence.proofs.Nodes.Placed.{child_here, child_within, left_in, put_under, stand_itself}
use Rattle.sequence.proofs.Lists.Spliced.{length-spliced}

module _ {T : Type 0} (test : T → Bool) (part all : List T) (start : ℕ) (has : HasCut test all)
    (holds : Holds test part start all) where
  -- the last item before the cut is that of all
  last_there : (at : ℕ) → IsCut test part at → last_of (start + at) all ≡ last_of at part
  last_there zero is =
      let none : start + 0 ≡ 0 = omega (arith, none_front test part all start has holds (first_is test part 0 is)) in
      ap (λ (n : ℕ). last_of n all) none
  last_there (suc at) is =
      let place : start + suc at ≡ suc (start + at) = omega arith in
      ap (λ (n : ℕ). last_of n all) place ∙ sym (holds.part.at at (omega (arith, is.within)))

  -- what holds of the sought item of all holds of that of the part
  pub sought_there : (sought : T → Bool) (needs : T → Type 0) → OfSought sought test needs all
      → OfSought sought test needs part
  sought_there sought needs given at there =
      let place : start + (at + 1) ≡ start + at + 1 = omega arith in
      given (start + at) (record {
        item = there.item;
        cut = subst (IsCut test all) place (cut_there test part all start has holds (at + 1) there.cut);
        is = sym (holds.part.at at (omega (arith, there.cut.within))) ∙ there.is;
        found = there.found;
      })

-- a bit is no more than one
pub bit : (b : Bool) → from_bool b ≤ 1
bit true = omega arith
bit false = omega arith

-- a tree that is not thin can lose an item
pub not_thin : {T : Type 0} (thin : Bool) (tree : List T × ℕ) → (IsTrue thin ⊎ CanLose tree) → thin ≡ false
    → CanLose tree
not_thin thin tree either not = elim either [
  | inl is ↦ absurd (true≢false (sym is ∙ not))
  | inr can ↦ can
]

-- an item less leaves enough if there was one to spare
wide_after : {R : Type 0} (grows loses : Bool) (answer : Option R) (least old new more : ℕ) → least ≤ old
    → new + gone answer ≡ old + more → more ≡ comes grows loses answer → (loses ≡ true → least < old) → least ≤ new
wide_after grows loses None least old new more wide count come spare =
    let same : new + 0 ≡ old + more = count in omega (arith, wide, same)
wide_after grows true (Some r) least old new more wide count come spare =
    let same : new + 1 ≡ old + more = count in omega (arith, same, spare refl)
wide_after grows false (Some r) least old new more wide count come spare =
    let same : new + 1 ≡ old + more = count in
    let one : more ≡ 1 = come in
    omega (arith, wide, same, one)

module _ {T L : Type 0} (label_of : T → L) where
  -- the first label among more items
  first_between : (l m n r : List T) → first_label label_of n ≡ first_label label_of m
      → first_label label_of (l ++ (n ++ r)) ≡ first_label label_of (l ++ (m ++ r))
  first_between (e ∷ l) m n r h = refl
  first_between [] [] [] r h = refl
  first_between [] [] (y ∷ n) r h = absurd (none-some (label_of y) (sym h))
  first_between [] (x ∷ m) [] r h = absurd (none-some (label_of x) h)
  first_between [] (x ∷ m) (y ∷ n) r h = h

  module _ (cs : List (Child T L)) (i : ℕ) (d new : Child T L) (h : i < length cs) (is : d ≡ get_or cs i d) where
    pub first_set_in : first_label label_of new.tree.0 ≡ first_label label_of d.tree.0
        → first_label label_of (items_in (set cs i new)) ≡ first_label label_of (items_in cs)
    first_set_in same =
        let l = items_in (take i cs) in
        let r = items_in (drop (i + 1) cs) in
        ap (λ (es : List T). first_label label_of es) (items_set cs i new h)
        ∙ first_between l (get_or cs i d).tree.0 new.tree.0 r
        (same ∙ ap (λ (c : Child T L). first_label label_of c.tree.0) is)
        ∙ ap (λ (es : List T). first_label label_of es) (sym (items_split cs i d h))

    -- the child has the cut, or it is before all
    pub child_holds : (test : T → Bool) → HasCut test (items_in cs)
        → IsAmong (length (items_in (take i cs))) (length (items_in (take (i + 1) cs))) (first test (items_in cs))
        → Holds test d.tree.0 (length (items_in (take i cs))) (items_in cs)
    child_holds test has under =
        let before = length (items_in (take i cs)) in
        let place : before ≡ 0 + before = omega arith in
        subst (λ (c : Child T L). Holds test c.tree.0 before (items_in cs)) (sym is)
        (holds_child test cs i d 0 before (items_in cs) h has (holds_all test (items_in cs)) under place)

-- what is read through references
module _ {T L : Type 0} (cs : List (Child T L)) (i : ℕ) (read : List (Child T L)) (same : read ≡ cs) where
  pub within_read : i < length read → i < length cs
  within_read = subst (λ (cs : List (Child T L)). i < length cs) same

  pub read_twice : (e d : Child T L) → i < length read → e ≡ get_or cs i e → d ≡ get_or cs i d → d ≡ e
  read_twice e d h is was = read_again cs i e (omega (arith, within_read h)) is d was

  pub among_read : {W : Type 0} (is_before : W → T → Bool) (way now : W) → now ≡ way
      → IsAmong (length (items_in (take i read))) (length (items_in (take (i + 1) read)))
      (first (is_before now) (items_in read))
      → IsAmong (length (items_in (take i cs))) (length (items_in (take (i + 1) cs)))
      (first (is_before way) (items_in cs))
  among_read is_before way now to among =
      subst (λ (cs : List (Child T L)). IsAmong (length (items_in (take i cs))) (length (items_in (take (i + 1) cs)))
      (first (is_before way) (items_in cs))) same
      (subst (λ w. IsAmong (length (items_in (take i read))) (length (items_in (take (i + 1) read)))
      (first (is_before w) (items_in read))) to among)

pub cut_read : {W T : Type 0} (is_before : W → T → Bool) (way now : W) → now ≡ way → (es read : List T) → read ≡ es
    → (tree : List T × ℕ) → es ≡ tree.0 → HasCut (is_before way) tree.0 → HasCut (is_before now) read
cut_read is_before way now to es read same tree all cut =
    subst (λ w. HasCut (is_before w) read) (sym to) (subst (HasCut (is_before way)) (sym (same ∙ all)) cut)

-- the child of that number, where the cut of the tree of that branch is, with an item to spare if it may lose one
pub record IsUnder {T L : Type 0} (label_of : T → L) (test : T → Bool) (loses : Bool) (tree : List T × ℕ)
    (cs : List (Child T L)) (i : ℕ) (d : Child T L) : Type 0 where
  pub are : AreChildren label_of cs
  pub same : ◌≡◌ {A = List T × ℕ} (items_in cs, height_in cs) tree
  pub has : HasCut test (items_in cs)
  pub within : i < length cs
  pub is : d ≡ get_or cs i d
  pub among : IsAmong (length (items_in (take i cs))) (length (items_in (take (i + 1) cs))) (first test (items_in cs))
  pub spare : loses ≡ true → CanLose d.tree

-- the branch after the act on that child, whose answer is r
pub record IsDone {T L R E : Type 0} (label_of : T → L) (test : T → Bool)
    (does : Option R → Option T → List T → Type 0) (grows loses labelled : Bool) (tree : List T × ℕ)
    (new : List (Child T L)) (r : Result (Option R) E) : Type 0 where
  pub whole : AreChildren label_of new
  pub done : IfOk r (IsActed test does grows loses tree.0 (items_in new))
  pub height : height_in new ≡ tree.1
  pub first : IsTrue labelled → first_label label_of (items_in new) ≡ first_label label_of tree.0
  pub blocked : OnErr r (items_in new ≡ tree.0)

module _ {T L R : Type 0} (label_of : T → L) (test : T → Bool) (does : Option R → Option T → List T → Type 0)
    (grows loses labelled : Bool) (tree : List T × ℕ) (cs : List (Child T L)) (i : ℕ) (d : Child T L)
    (under : IsUnder label_of test loses tree cs i d) where
  pub acted_under : {E : Type 0} (len : ℕ) (new : List T × ℕ) (r : Result (Option R) E)
      → length tree.0 + 1 < 2 ^ 64 → IfOk r (IsActed test does grows loses d.tree.0 new.0)
      → OnErr r (new.0 ≡ d.tree.0) → new.1 ≡ d.tree.1
      → IfOk r (λ answer. len + gone answer ≡ d.len + comes grows loses answer) → OnErr r (len ≡ d.len)
      → (IsTrue labelled → first_label label_of new.0 ≡ first_label label_of d.tree.0)
      → (0 < i → first_label label_of new.0 ≡ first_label label_of d.tree.0)
      → IsDone label_of test does grows loses labelled tree (set cs i (record d { len = len; tree = new })) r
  acted_under len new (Ok answer) room did blocked level counts kept front behind =
      let c = record d { len = len; tree = new } in
      let all = items_in cs in
      let start = length (items_in (take i cs)) in
      let at = did.at in
      let out = gone answer in
      let h = under.within in
      let holds = child_holds label_of cs i d d h under.is test under.has under.among in
      let cut = cut_there test d.tree.0 all start under.has holds (at + out) did.cut in
      let last = last_there test d.tree.0 all start under.has holds (at + out) did.cut in
      let place : start + (at + out) ≡ start + at + out = omega arith in
      let inside = did.cut.within in
      let one = bit (cond (is_some answer) (not loses) grows) in
      let long = ap (λ (t : List T × ℕ). length t.0) under.same in
      let few : length all + length did.more < 2 ^ 64 + out = omega (arith, room, long, did.come, one) in
      let old = child_here cs i d under.are h under.is in
      let count : length new.0 + out ≡ length d.tree.0 + length did.more =
      omega (arith, ap (length {A = T}) did.items, length-spliced at out did.more d.tree.0 inside) in
      let child : IsChild (d.tree.1 + 1) c = record {
        counted = omega (arith, counts, count, inside, did.come, old.counted);
        level = ap (λ (n : ℕ). n + 1) level;
        wide = subst (λ (n : ℕ). 2 ^ n ≤ length new.0) (sym level)
            (wide_after grows loses answer (2 ^ d.tree.1) (length d.tree.0) (length new.0) (length did.more)
            old.wide count did.come under.spare);
      } in
      let label = λ (p : 0 < i). labelled_by d c refl (λ h. behind p ∙ h)
      (labelled_at cs i d under.are p h under.is) in
      let put = put_under {label_of = label_of} cs cs i d c (stand_itself cs under.are) h under.is child label
      (start + at) at out did.more refl inside {A = Option R} {E = Unit {0}} (Ok answer) did.items tt few in
      let acted : IsActed test does grows loses all (items_in (set cs i c)) answer = record {
        at = start + at;
        cut = subst (IsCut test all) place cut;
        more = did.more;
        done = subst (λ (n : ℕ). does answer (last_of n all) did.more) place
            (subst (λ o. does answer o did.more) (sym last) did.done);
        come = did.come;
        items = put.items;
      } in
      let items = ap (λ (t : List T × ℕ). t.0) under.same in
      record {
        whole = put.children;
        done = subst (λ (es : List T). IsActed test does grows loses es (items_in (set cs i c)) answer) items acted;
        height = put.height ∙ ap (λ (t : List T × ℕ). t.1) under.same;
        first = λ l. first_set_in label_of cs i d c h under.is (front l)
            ∙ ap (λ (es : List T). first_label label_of es) items;
        blocked = tt;
      }
  acted_under len new (Err e) room did blocked level counts kept front behind =
      let left = subst (λ (n : ℕ). StandFor label_of cs (set cs i (record d { len = n; tree = new }))) (sym kept)
      (left_in cs i d under.are under.within under.is new blocked level) in
      let items = left.items ∙ ap (λ (t : List T × ℕ). t.0) under.same in
      record {
        whole = left.children;
        done = tt;
        height = left.height ∙ ap (λ (t : List T × ℕ). t.1) under.same;
        first = λ l. ap (λ (es : List T). first_label label_of es) items;
        blocked = items;
      }

module _ {T L : Type 0} (label_of : T → L) (test : T → Bool) (loses : Bool) (tree : List T × ℕ) (cs : List (Child T L))
    (i : ℕ) (d : Child T L) (under : IsUnder label_of test loses tree cs i d) where
  -- the child is lower than the branch
  pub lower_under : (t : ℕ) → tree.1 ≡ t → d.tree.1 < t
  lower_under t is =
      let level = (under.are.each i d under.within).level in
      omega (arith, is, ap (λ (t : List T × ℕ). t.1) under.same, ap (λ (c : Child T L). c.tree.1) under.is, level)

  -- it has the cut
  holds_under : Holds test d.tree.0 (length (items_in (take i cs))) (items_in cs)
  holds_under = child_holds label_of cs i d d under.within under.is test under.has under.among

  pub cut_under : HasCut test d.tree.0
  cut_under = has_part test d.tree.0 (items_in cs) (length (items_in (take i cs))) under.has holds_under

  -- and what is asked for of the sought item
  pub needs_under : (sought : T → Bool) (needs : T → Type 0) → OfSought sought test needs tree.0
      → OfSought sought test needs d.tree.0
  needs_under sought needs asked =
      sought_there test d.tree.0 (items_in cs) (length (items_in (take i cs))) under.has holds_under sought needs
      (subst (λ (t : List T × ℕ). OfSought sought test needs t.0) (sym under.same) asked)

  pub spare_under : loses ≡ true → 1 < length d.tree.0
  spare_under so = omega (arith, under.spare so, pow_pos d.tree.1)

  pub room_under : length tree.0 + 1 < 2 ^ 64 → length d.tree.0 + 1 < 2 ^ 64
  room_under room =
      let all = ap (λ (t : List T × ℕ). length t.0) under.same in
      omega (arith, child_within cs i d under.are under.within under.is, all, room)

  -- it counts its items
  pub some_under : 0 < d.len
  some_under =
      let child = child_here cs i d under.are under.within under.is in
      omega (arith, child.counted, child.wide, pow_pos d.tree.1)

  pub count_under : length tree.0 + 1 < 2 ^ 64 → d.len + 1 < 2 ^ 64
  count_under room =
      omega (arith, (child_here cs i d under.are under.within under.is).counted, room_under room)

module _ {T R E : Type 0} (test : T → Bool) (does : Option R → Option T → List T → Type 0) (grows loses : Bool) where
  -- a leaf is a list after the act on it too
  pub list_acted : (old new : List T) (r : Result (Option R) E) → IfOk r (IsActed test does grows loses old new)
      → OnErr r (new ≡ old) → IsList old → (loses ≡ true → 1 < length old) → length old + 1 < 2 ^ 64 → IsList new
  list_acted old new (Ok answer) did blocked list spare room =
      let one = bit (cond (is_some answer) (not loses) grows) in
      let long : length new + gone answer ≡ length old + length did.more =
      omega (
        arith,
        ap (length {A = T}) did.items,
        length-spliced did.at (gone answer) did.more old did.cut.within,
      ) in
      record {
        some = wide_after grows loses answer 1 (length old) (length new) (length did.more) list.some long did.come
            spare;
        room = omega (arith, long, did.come, one, room);
      }
  list_acted old new (Err e) did blocked list spare room = subst IsList (sym blocked) list

  module _ {L : Type 0} (label_of : T → L) (labelled : Bool) (tree now : List T × ℕ) where
    -- so has a tree whose only node is that leaf
    pub leaf_acted : (act : E) (old new : List T) (r : Result (Option R) E) → (old, 0) ≡ tree → now ≡ (new, 0)
        → IfOk r (IsActed test does grows loses old new)
        → (IsTrue labelled → first_label label_of new ≡ first_label label_of old) → OnErr r (new ≡ old)
        → IfErr r (λ back. back ≡ act)
        → MatchResult r (IsActedIn label_of labelled test does grows loses tree now)
        (λ back. (now ≡ tree) × (back ≡ act))
    leaf_acted act old new (Ok answer) same is did first blocked back =
        record {
          acted = subst (λ (t : List T × ℕ). IsActed test does grows loses tree.0 t.0 answer) (sym is)
              (subst (λ (t : List T × ℕ). IsActed test does grows loses t.0 new answer) same did);
          height = ap (λ (t : List T × ℕ). t.1) is ∙ ap (λ (t : List T × ℕ). t.1) same;
          first = λ l. ap (λ (t : List T × ℕ). first_label label_of t.0) is ∙ first l
              ∙ ap (λ (t : List T × ℕ). first_label label_of t.0) same;
        }
    leaf_acted act old new (Err e) same is did first blocked back =
        (is ∙ ap (λ (es : List T). (es, 0)) blocked ∙ same, back)

    -- and a tree whose first node is that branch
    pub branch_acted : (new : List (Child T L)) (answer : Option R) → now ≡ (items_in new, height_in new)
        → IsDone {E = E} label_of test does grows loses labelled tree new (Ok answer)
        → IsActedIn label_of labelled test does grows loses tree now answer
    branch_acted new answer is done = record {
      acted = subst (λ (t : List T × ℕ). IsActed test does grows loses tree.0 t.0 answer) (sym is) done.done;
      height = ap (λ (t : List T × ℕ). t.1) is ∙ done.height;
      first = λ l. ap (λ (t : List T × ℕ). first_label label_of t.0) is ∙ done.first l;
    }

    pub branch_left : (act : E) (r : Result (Option R) E) (e : E) (new : List (Child T L))
        → now ≡ (items_in new, height_in new)
        → IsDone {R = R} {E = Unit {0}} label_of test does grows loses labelled tree new (Err tt)
        → IsErrAnd r (λ back. back ≡ e) → e ≡ act
        → MatchResult r (IsActedIn label_of labelled test does grows loses tree now)
        (λ back. (now ≡ tree) × (back ≡ act))
    branch_left act (Ok answer) e new is left refused back = absurd refused
    branch_left act (Err again) e new is left refused back =
        (is ∙ (λ i. (left.blocked i, left.height i)), refused ∙ back)
