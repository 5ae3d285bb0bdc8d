-- What the digits of a numeral say of its number.
use Rattle.std.proofs.Common.{◌≡◌, ℕ, ◌^◌, ◌<◌, ◌≤◌, ◌+◌, ◌*◌, List, [], ◌++◌, length, get_or, take, drop}
use Rattle.std.proofs.Common.{zero, suc, append-nil, refl, arith, lit<, lit≤, sym, ap, ◌∙◌, ⊎_elim, add-zero}
use Rattle.std.specs.Char.{digit_value}
use Rattle.std.specs.Int.{IsInRange}
use Rattle.std.specs.Fmt.{decimal}
use Rattle.std.specs.Str.Parse.{digits_value}
use Rattle.std.proofs.lemmas.Bool.Decides.{leb_tells}
use Rattle.std.proofs.lemmas.Int.Digits.{digits_value_more}
use Rattle.std.proofs.lemmas.Str.Parse.{IsNumeralModel, numerals_by_value, tells_by_index, digits_value-take-le}
use Rattle.std.proofs.lemmas.Fmt.{decimal-digits_value, digits_value-decimal, digits_decimal, decimal_digit}
use Rattle.std.proofs.lemmas.Fmt.{decimal_nonempty, first_decimal}
use Rattle.std.proofs.lemmas.List.{drop_at, get_or_append_left, get_or-append-add, get_or-drop, get_or-take}
use Rattle.std.proofs.lemmas.List.{length-take, take-append-drop, take-append-le}
use Rattle.scripts.specs.Number.{BeginsWith, IsNumber}

-- each place has a digit
abbrev pub EachIsDigit : List ℕ → Type 0
EachIsDigit ds = (i : ℕ) → i < length ds → IsInRange 48 57 (get_or ds i 0)

pub by_places : IsNumeralModel EachIsDigit (digits_value 10)
by_places = numerals_by_value EachIsDigit tells_by_index

-- digits with no zero before others write their value
pub is_number : (ds : List ℕ) → EachIsDigit ds → 0 < length ds → (get_or ds 0 0 ≡ 48 → length ds ≡ 1)
    → digits_value 10 ds < 2 ^ 32 → IsNumber ds (digits_value 10 ds)
is_number ds digits some leading small =
    (sym (decimal-digits_value by_places ds digits some leading (omega arith)), small)

-- only zero begins with a zero
decimal_leading : (n : ℕ) → n < 2 ^ 64 → get_or (decimal n) 0 0 ≡ 48 → length (decimal n) ≡ 1
decimal_leading zero h e = rw (decimal_digit 0 (lit< tt)) refl
decimal_leading (suc n) h e = let first = first_decimal (suc n) (omega arith) h in absurd (omega arith)

-- what writes a number is digits of it, with no zero before others
pub record IsNumeralOf (ds : List ℕ) (n : ℕ) : Type 0 where
  pub digits : EachIsDigit ds
  pub some : 0 < length ds
  pub value : digits_value 10 ds ≡ n
  pub leading : get_or ds 0 0 ≡ 48 → length ds ≡ 1

pub numeral_of : (ds : List ℕ) (n : ℕ) → IsNumber ds n → IsNumeralOf ds n
numeral_of ds n h = rw h.0 (record {
  digits = digits_decimal by_places n (omega arith);
  some = decimal_nonempty n (omega arith);
  value = digits_value-decimal by_places n (omega arith);
  leading = decimal_leading n (omega arith);
})

-- the digits up to one more place write no more than a number that is written by all of them
pub so_far : (ds : List ℕ) (n i : ℕ) → IsNumber ds n → i < length ds
    → digits_value 10 (take i ds) * 10 + digit_value (get_or ds i 0) < 2 ^ 32
so_far ds n i number within =
    let numeral = numeral_of ds n number in
    let more = digits_value_more 10 ds i within in
    let least = digits_value-take-le 10 ds (i + 1) (lit≤ tt) in
    omega (arith, more, least, numeral.value, number.1)

-- the digits at the front of a text, as many as there are, write the number that it begins with
pub begins_with : (text : List ℕ) (count : ℕ) → ((k : ℕ) → k < count → IsInRange 48 57 (get_or text k 0))
    → 0 < count → count ≤ length text → (get_or text 0 0 ≡ 48 → count ≡ 1) → digits_value 10 (take count text) < 2 ^ 32
    → ¬ (IsInRange 48 57 (get_or text count 0))
    → BeginsWith text (digits_value 10 (take count text)) (drop count text)
begins_with text count digits some within leading small ends =
    let len : length (take count text) ≡ count = omega (arith, length-take count text) in
    let first : get_or (take count text) 0 0 ≡ get_or text 0 0 = get_or-take count text 0 0 some in
    let number = is_number (take count text) (λ k below. rw (get_or-take count text k 0 (omega arith))
    (digits k (omega arith))) (omega arith) (λ zero_first. rw len (leading (sym first ∙ zero_first))) small in
    record {
      written = sym (take-append-drop count text) ∙ ap (λ ds. ds ++ drop count text) number.0;
      in_range = small;
      ends = λ digit. ends (rw add-zero at (rw (get_or-drop count text 0 0) at digit));
    }

module _ (text rest : List ℕ) (n : ℕ) (begins : BeginsWith text n rest) where
  -- within the digits of the number the text has them
  digit_of : (k : ℕ) → k < length (decimal n) → get_or text k 0 ≡ get_or (decimal n) k 0
  digit_of k within = rw begins.written (get_or_append_left (decimal n) rest 0 k within)

  is_digit : (k : ℕ) → k < length (decimal n) → IsInRange 48 57 (get_or text k 0)
  is_digit k within = rw (digit_of k within) (digits_decimal by_places n (omega (arith, begins.in_range)) k within)

  -- and no digit after them
  no_digit : ¬ (IsInRange 48 57 (get_or text (length (decimal n)) 0))
  no_digit digit =
      let after : get_or text (length (decimal n)) 0 ≡ get_or rest 0 0 =
      rw begins.written (rw add-zero at (get_or-append-add (decimal n) rest 0 0)) in
      begins.ends (rw after at digit)

  -- so it has no more digits at its front
  pub digits_at_most : (count : ℕ) → ((k : ℕ) → k < count → IsInRange 48 57 (get_or text k 0))
      → count ≤ length (decimal n)
  digits_at_most count digits =
      ⊎_elim (λ most. most.1) (λ more. absurd (no_digit (digits _ more.1))) (leb_tells count (length (decimal n)))

  pub begins_nonempty : 0 < length (decimal n)
  begins_nonempty = decimal_nonempty n (omega (arith, begins.in_range))

  pub begins_digit : IsInRange 48 57 (get_or text 0 0)
  begins_digit = is_digit 0 begins_nonempty

  -- the digits up to one more write no more than the number
  pub begins_so_far : (count : ℕ) → ((k : ℕ) → k < count + 1 → IsInRange 48 57 (get_or text k 0))
      → digits_value 10 (take count text) * 10 + digit_value (get_or text count 0) < 2 ^ 32
  begins_so_far count digits =
      let most = digits_at_most (count + 1) digits in
      let front : take count text ≡ take count (decimal n) =
      rw begins.written (take-append-le count (decimal n) rest (omega arith)) in
      rw front (rw (digit_of count (omega arith)) (so_far (decimal n) n count (refl, begins.in_range) (omega arith)))

  -- only zero begins with a zero
  pub begins_leading : get_or text 0 0 ≡ 48 → length (decimal n) ≡ 1
  begins_leading zero_first =
      decimal_leading n (omega (arith, begins.in_range)) (sym (digit_of 0 begins_nonempty) ∙ zero_first)

-- a text begins with one number alone
pub rest_same : (text a b : List ℕ) (m n : ℕ) → BeginsWith text m a → BeginsWith text n b → a ≡ b
rest_same text a b m n first second =
    let more = digits_at_most text b n second (length (decimal m)) (is_digit text a m first) in
    let less = digits_at_most text a m first (length (decimal n)) (is_digit text b n second) in
    let same : length (decimal m) ≡ length (decimal n) = omega arith in
    sym (drop_at (decimal m) a (length (decimal n)) same)
    ∙ ap (drop (length (decimal n))) (sym first.written ∙ second.written)
    ∙ drop_at (decimal n) b (length (decimal n)) refl

-- a number with nothing after it
pub number_alone : (word : List ℕ) (n : ℕ) → IsNumber word n → BeginsWith word n []
number_alone word n number = record {
  written = number.0 ∙ sym (append-nil (decimal n));
  in_range = number.1;
  ends = λ digit. absurd (omega arith);
}
