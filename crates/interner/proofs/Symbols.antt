-- The symbols of a list of values.
use Rattle.std.proofs.Common.{◌≡◌, ℕ, ◌↔◌, Bool, true, false, not, List, [], ◌∷◌, ◌++◌, length, get_or, slice_get}
use Rattle.std.proofs.Common.{◌<◌, map as values_of, Option, Some, None, IsSome, is_some, nat_eq, nat_lt, position}
use Rattle.std.proofs.Common.{if◌then◌else◌}
use Rattle.std.proofs.Common.{refl, sym, ap, ◌∙◌, subst, true≢false, arith}
use Rattle.std.proofs.lemmas.List.Folds.{position_or_len_push}
use Rattle.std.proofs.lemmas.List.Sums.{prefix_len-le-length}
use Rattle.std.proofs.lemmas.List.Quantifiers.{position-Some}
use Rattle.std.proofs.lemmas.Grind.{common_steps}
use Rattle.std.proofs.lemmas.List.{get_or_append_left}
use Rattle.std.proofs.lemmas.Option.{get_or_from_slice_get, same_Some, slice_get-get_or, slice_get-map}
use Rattle.std.proofs.lemmas.Option.{slice_get_within}
use Rattle.std.specs.Option.{option_map}
use Rattle.std.specs.Cmp.{IsEquivalence}
use Rattle.std.specs.List.{list_any, position_or_len}
use Rattle.interner.specs.InternMaps.{IsUnder, KeysAndValues}
use Rattle.interner.specs.Made.{IsFoundOrMade}
use Rattle.interner.specs.Symbols.{symbol_of, with_value, IsInterned}

module _ {T : Type 0} (p : T → Bool) where
  any_by_place : (xs : List T) → list_any p xs ≡ nat_lt (position_or_len p xs) (length xs)
  any_by_place [] = refl
  any_by_place (x ∷ xs) = grind (arith, any_by_place xs)

  -- one passes exactly if one has a place
  pub any_by_position : (xs : List T) → list_any p xs ≡ is_some (position p xs)
  any_by_position xs = grind (arith, any_by_place xs)

  module _ (xs : List T) (y : T) where
    -- what is found stays where it is found
    place_stays : (i : ℕ) → position p xs ≡ Some i → position p (xs ++ y ∷ []) ≡ Some i
    place_stays i is = grind (arith, common_steps, position_or_len_push p xs y, position-Some p xs i y is)

    -- what is found nowhere is found behind the others
    place_of_last : position p xs ≡ None → p y ≡ true → position p (xs ++ y ∷ []) ≡ Some (length xs)
    place_of_last none is =
        grind (arith, common_steps, position_or_len_push p xs y, prefix_len-le-length (λ x. not (p x)) xs)

module _ {T : Type 0} {eq : T → T → Bool} (laws : IsEquivalence eq) where
  -- a symbol stands for the values that are equal to its own
  symbol_of_equals : (values : List T) (value v : T) (s : ℕ) → symbol_of eq values value ≡ Some s
      → (symbol_of eq values v ≡ Some s) ↔ (eq v value ≡ true)
  symbol_of_equals values value v s is =
      let found = position-Some (eq value) values s v is in
      let kept = get_or values s v in (
        λ same. let at = position-Some (eq v) values s v same in
            laws.congr v kept value at.1 ∙ laws.symm kept value ∙ found.1,
        λ equal. (λ j. position (λ x. laws.congr v value x equal j) values) ∙ is,
      )

  module _ (old : List T) (value : T) where
    pub symbol_of_new : symbol_of eq (with_value eq old value) value ≡ Some (position_or_len (eq value) old)
    symbol_of_new = by (list_any (eq value) old) refl
      where
        by : (b : Bool) → list_any (eq value) old ≡ b
            → symbol_of eq (with_value eq old value) value ≡ Some (position_or_len (eq value) old)
        by true is = grind (arith, is, any_by_place (eq value) old)
        by false is = grind (
          arith,
          is,
          any_by_place (eq value) old,
          place_of_last (eq value) old value,
          laws.refl value,
          prefix_len-le-length (λ x. not (eq value x)) old,
        )

    symbols_stay : (v : T) (s : ℕ) → symbol_of eq old v ≡ Some s → symbol_of eq (with_value eq old value) v ≡ Some s
    symbols_stay v s is = by (list_any (eq value) old) refl
      where
        by : (b : Bool) → list_any (eq value) old ≡ b → symbol_of eq (with_value eq old value) v ≡ Some s
        by true any = grind (arith, any, is)
        by false any = grind (arith, any, place_stays (eq v) old value s is)

    stays : (v : T) → IsSome (symbol_of eq old v) → symbol_of eq (with_value eq old value) v ≡ symbol_of eq old v
    stays v some = by (symbol_of eq old v) refl some
      where
        by : (found : Option ℕ) → symbol_of eq old v ≡ found → IsSome found
            → symbol_of eq (with_value eq old value) v ≡ symbol_of eq old v
        by None is some = absurd (true≢false (sym some))
        by (Some s) is some = symbols_stay v s is ∙ sym is

    pub interned : (new : List T) (s : ℕ) → new ≡ with_value eq old value → s ≡ position_or_len (eq value) old
        → IsInterned eq old value new s
    interned new s is at =
        let place = ap (λ xs. symbol_of eq xs value) is ∙ symbol_of_new ∙ ap Some (sym at) in
        record {
          values = is;
          one = λ v. symbol_of_equals new value v s place;
          stays = λ v some. ap (λ xs. symbol_of eq xs v) is ∙ stays v some;
        }

    -- the value of a symbol is there already
    pub known : (s : ℕ) → symbol_of eq old value ≡ Some s → IsInterned eq old value old s
    known s is = interned old s (grind (arith, is, any_by_place (eq value) old)) (grind (arith, is))

-- a test that passes what equals one value
module _ {T : Type 0} {eq : T → T → Bool} (laws : IsEquivalence eq) (pass : T → Bool)
    (equal : (x y : T) → pass x ≡ true → pass y ≡ eq x y) where
  pub any_of_form : (x : T) → pass x ≡ true → (xs : List T) → list_any pass xs ≡ list_any (eq x) xs
  any_of_form x is xs = λ j. list_any (λ y. equal x y is j) xs

  -- the value that passes is there already
  pub found_there : (old : List T) (s : ℕ) → position pass old ≡ Some s → (Made : T → Type 0)
      → IsFoundOrMade eq pass Made old old s
  found_there [] s is Made = absurd (cc)
  found_there (v ∷ vs) s is Made =
      let at = (position-Some pass (v ∷ vs) s v is).1 in
      let x = get_or (v ∷ vs) s v in
      record {
        value = x;
        stands = at;
        interned = known laws (v ∷ vs) x s ((λ j. position (λ y. sym (equal x y at) j) (v ∷ vs)) ∙ is);
        made = λ none. absurd (true≢false (sym (any_by_position pass (v ∷ vs) ∙ ap is_some is) ∙ none));
      }

-- what a caller knows after an `intern`
module _ {T : Type 0} {eq : T → T → Bool} {old new : List T} {value : T} {s : ℕ}
    (met : IsInterned eq old value new s) where
  -- the value stands under its symbol, where no other value is equal to it
  pub stands_at : eq value value ≡ true → ((v : T) → eq value v ≡ true → value ≡ v) → slice_get new s ≡ Some value
  stands_at self same =
      let at = position-Some (eq value) new s value ((met.one value).1 self) in
      slice_get-get_or new s value at.0 ∙ ap Some (sym (same (get_or new s value) at.1))

  -- its symbol is less than the number of the values
  pub symbol_within : eq value value ≡ true → s < length new
  symbol_within self = (position-Some (eq value) new s value ((met.one value).1 self)).0

  -- a value that was there stays under its symbol
  pub stays_at : (k : ℕ) (v : T) → slice_get old k ≡ Some v → slice_get new k ≡ Some v
  stays_at k v is = ap (λ vs. slice_get vs k) met.values ∙ by (list_any (eq value) old)
    where
      by : (there : Bool) → slice_get (if there then old else old ++ value ∷ []) k ≡ Some v
      by true = is
      by false =
          let within = slice_get_within old k v is in
          grind (
            arith,
            common_steps,
            within,
            slice_get-get_or (old ++ value ∷ []) k v,
            get_or_append_left old (value ∷ []) v k within,
            get_or_from_slice_get old k v v is,
          )

  -- the value was there already exactly if its symbol was one
  pub was_there : IsEquivalence eq → list_any (eq value) old ≡ nat_lt s (length old)
  was_there laws =
      let place = ap (λ vs. symbol_of eq vs value) met.values ∙ symbol_of_new laws old value in
      let at : s ≡ position_or_len (eq value) old =
      same_Some s (position_or_len (eq value) old) (sym ((met.one value).1 (laws.refl value)) ∙ place) in
      any_by_place (eq value) old ∙ ap (λ i. nat_lt i (length old)) (sym at)

-- what a caller knows after a `find`
module _ {T : Type 0} (pass : T → Bool) (values : List T) (value : T) where
  -- the value that is found stands under its symbol, where no other one passes
  pub found_at : (s : ℕ) → position pass values ≡ Some s → ((v : T) → pass v ≡ true → value ≡ v)
      → slice_get values s ≡ Some value
  found_at s is alone =
      let at = position-Some pass values s value is in
      slice_get-get_or values s value at.0 ∙ ap Some (sym (alone (get_or values s value) at.1))

  -- a value that is not found goes behind the others
  pub absent_new : {eq : T → T → Bool} {new : List T} {s : ℕ} → IsInterned eq values value new s
      → position pass values ≡ None → ((v : T) → pass v ≡ eq value v) → new ≡ values ++ value ∷ []
  absent_new {eq} met none equal =
      let absent : list_any (eq value) values ≡ false =
      (λ j. list_any (λ v. sym (equal v) j) values) ∙ any_by_position pass values ∙ ap is_some none in
      met.values ∙ ap (λ there. if there then values else values ++ value ∷ []) absent

-- what a caller knows of a value that was found under a key, where each value is that of a function
pub value_at : {K V : Type 0} {pass : K → Bool} {map : KeysAndValues K V} {value : V} (met : IsUnder pass map value)
    (of : K → V) (key : K) → map.values ≡ values_of of map.keys → ((k : K) → pass k ≡ true → key ≡ k) → value ≡ of key
value_at {pass = pass} {map = map} {value = value} met of key each alone =
    let there = ap (option_map of) (found_at pass map.keys key met.symbol met.found alone) in
    let own = sym met.at ∙ ap (λ vs. slice_get vs met.symbol) each ∙ slice_get-map of map.keys met.symbol in
    same_Some value (of key) (own ∙ there)

-- what a caller knows after an `intern_by`: the value stands under its symbol, where no other one passes
pub made_at : {T : Type 0} {eq : T → T → Bool} {pass : T → Bool} {Made : T → Type 0} {old new : List T} {s : ℕ}
    (met : IsFoundOrMade eq pass Made old new s) (value : T) → ((v : T) → pass v ≡ true → value ≡ v)
    → eq value value ≡ true → ((v : T) → eq value v ≡ true → value ≡ v) → slice_get new s ≡ Some value
made_at {eq} {pass} {Made} {old} {new} {s} met value alone self same =
    let is : value ≡ met.value = alone met.value met.stands in
    stands_at (subst (λ v. IsInterned eq old v new s) (sym is) met.interned) self same

-- two symbols are equal exactly if the values are that were interned for them
module _ {T : Type 0} (eq : T → T → Bool) (old mid new : List T) (a b : T) (s t : ℕ)
    (laws : IsEquivalence eq) (first : IsInterned eq old a mid s) (second : IsInterned eq mid b new t) where
  found : symbol_of eq new a ≡ Some s
  found =
      let at = (first.one a).1 (laws.refl a) in
      second.stays a (ap is_some at) ∙ at

  pub equal_symbols : nat_eq s t ≡ eq a b
  equal_symbols = by (eq a b) refl (nat_eq s t) refl
    where
      by : (e : Bool) → eq a b ≡ e → (n : Bool) → nat_eq s t ≡ n → n ≡ e
      by true equal n is = grind (arith, is, found, (second.one a).1 equal)
      by false equal true is =
          let same : s ≡ t = grind (arith, is) in
          absurd (true≢false (sym ((second.one a).0 (found ∙ ap Some same)) ∙ equal))
      by false equal false is = refl
