-- A line can be read in one way alone.
use Rattle.std.proofs.Common.{◌≡◌, ◌≢◌, ℕ, ◌==◌, ◌<◌, ◌^◌, List, [], ◌∷◌, ◌++◌, length, map, Option}
use Rattle.std.proofs.Common.{Some, None, IfNone}
use Rattle.std.proofs.Common.{refl, sym, ap, ◌∙◌, ⊎_elim, arith, decimal, get_or, append_assoc, append-nil}
use Rattle.std.proofs.Common.{length-append}
use Rattle.std.specs.List.{All}
use Rattle.std.proofs.lemmas.Bool.{ne_eqb}
use Rattle.std.proofs.lemmas.Bool.Decides.{eqb_tells}
use Rattle.std.proofs.lemmas.Fmt.{decimal_injective, digits_decimal}
use Rattle.std.proofs.lemmas.List.{get_or_default, map-append, length-map}
use Rattle.std.proofs.lemmas.List.Elements.{All-cons, All-head, All-nil, All-tail}
use Rattle.std.proofs.lemmas.List.Splits.{slice_split_at, slice_split_none}
use Rattle.scripts.specs.Line.{IsLine, Encodes, IsInvalid, AsksForOneThing, fields, fields_if_any, space}
use Rattle.scripts.specs.Number.{BeginsWith, IsNumber}
use Rattle.scripts.specs.Split.{with_rest}
use Rattle.scripts.proofs.Numerals.{by_places, rest_same}

-- the first field of a line and the others
pub first_field : (text word : List ℕ) (rest : Option (List ℕ)) → All (λ byte. byte ≢ space) word
    → text ≡ with_rest space word rest → fields text ≡ word ∷ fields_if_any rest
first_field text word None apart is = rw is (slice_split_none (λ byte. byte == space) word (λ k d within.
    ne_eqb _ space (apart k d within)))
first_field text word (Some rest) apart is = rw is (slice_split_at (λ byte. byte == space) word space rest
    (λ k d within. ne_eqb _ space (apart k d within)) refl)

-- no digit is a space
decimal_apart : (number : ℕ) → number < 2 ^ 32 → All (λ byte. byte ≢ space) (decimal number)
decimal_apart number small k d within =
    let digit = digits_decimal by_places number (omega arith) k within in
    let same = get_or_default (decimal number) k d 0 within in
    λ is. absurd (omega arith)

-- a text that a number begins, with a space or nothing after it
pub number_first : (text : List ℕ) (number : ℕ) (rest : Option (List ℕ)) → number < 2 ^ 32
    → text ≡ with_rest space (decimal number) rest → fields text ≡ decimal number ∷ fields_if_any rest
number_first text number rest small is = first_field text (decimal number) rest (decimal_apart number small) is

-- what comes after a field, with the space before it
after_field : Option (List ℕ) → List ℕ
after_field None = []
after_field (Some rest) = space ∷ rest

field_begins : (text : List ℕ) (number : ℕ) (rest : Option (List ℕ)) → number < 2 ^ 32
    → text ≡ with_rest space (decimal number) rest → BeginsWith text number (after_field rest)
unfolding after_field
field_begins text number None small is = record {
  written = is ∙ sym (append-nil (decimal number));
  in_range = small;
  ends = λ digit. absurd (omega arith);
}
field_begins text number (Some rest) small is = record {
  written = is;
  in_range = small;
  ends = λ digit. absurd (omega arith);
}

-- a text that begins with no number does not begin with a field that is one
pub no_field : (text : List ℕ) → ((number : ℕ) (rest : List ℕ) → ¬ (BeginsWith text number rest)) → (number : ℕ)
    (rest : Option (List ℕ)) → text ≡ with_rest space (decimal number) rest → ¬ (number < 2 ^ 32)
no_field text none number rest is small = none number (after_field rest) (field_begins text number rest small is)

-- nor does one in which another byte than a space comes after the digits
pub no_space : (text after : List ℕ) (found : ℕ) → BeginsWith text found after → 0 < length after
    → get_or after 0 0 ≢ space → (number : ℕ) (rest : Option (List ℕ)) → text ≡ with_rest space (decimal number) rest
    → ¬ (number < 2 ^ 32)
unfolding after_field
no_space text after found begins some apart number rest is small =
    left rest (rest_same text after (after_field rest) found number begins (field_begins text number rest small is))
  where
    left : (rest : Option (List ℕ)) → after ≡ after_field rest → ⊥
    left None e = omega (arith, ap length e)
    left (Some rest) e = apart (ap (λ bytes. get_or bytes 0 0) e)

-- each text has a first field
first_part : (text : List ℕ) → (field : List ℕ) × (rest : Option (List ℕ)) × All (λ byte. byte ≢ space) field
    × (text ≡ with_rest space field rest)
first_part [] = ([], None, All-nil (λ byte. byte ≢ space), refl)
first_part (byte ∷ text) =
    let (field, rest, apart, is) = first_part text in
    ⊎_elim
    (λ same. ([], Some text, All-nil (λ b. b ≢ space), ap (λ b. b ∷ text) same.1))
    (λ other. (byte ∷ field, rest, All-cons (λ b. b ≢ space) byte field other.1 apart, longer field rest is))
    (eqb_tells byte space)
  where
    longer : (field : List ℕ) (rest : Option (List ℕ)) → text ≡ with_rest space field rest
        → byte ∷ text ≡ with_rest space (byte ∷ field) rest
    longer field None is = ap (λ bytes. byte ∷ bytes) is
    longer field (Some rest) is = ap (λ bytes. byte ∷ bytes) is

-- if a field after some numbers is none, the text is no line
no_line : (text first field : List ℕ) (numbers : List ℕ) (others : List (List ℕ))
    → fields text ≡ first ∷ (map decimal numbers ++ field ∷ others) → ((number : ℕ) → ¬ (IsNumber field number))
    → (word operands : List ℕ) → ¬ (IsLine text word operands)
no_line text first field numbers others is none word operands line =
    found numbers operands line.in_range (cc)
  where
    written : first ∷ (map decimal numbers ++ field ∷ others) ≡ word ∷ map decimal operands
    written = sym is ∙ line.written

    found : (m n : List ℕ) → All (λ number. number < 2 ^ 32) n → map decimal m ++ field ∷ others ≡ map decimal n → ⊥
    found [] [] small e = cc
    found [] (b ∷ n) small e = none b (cc, All-head (λ number. number < 2 ^ 32) b n small)
    found (a ∷ m) [] small e = cc
    found (a ∷ m) (b ∷ n) small e = found m n (All-tail (λ number. number < 2 ^ 32) b n small) (cc)

-- a text with a field after three numbers is no line
too_long : (text first field : List ℕ) (numbers : List ℕ) (others : List (List ℕ)) → length numbers ≡ 3
    → fields text ≡ first ∷ (map decimal numbers ++ field ∷ others) → (word operands : List ℕ)
    → ¬ (IsLine text word operands)
too_long text first field numbers others three is word operands line =
    let e : map decimal numbers ++ field ∷ others ≡ map decimal operands = cc in
    omega (
      arith,
      line.few,
      ap length e,
      length-append (map decimal numbers) (field ∷ others),
      length-map numbers decimal,
      length-map operands decimal,
    )

-- if what stands after some numbers begins with no other, or if they are three, the text is no line
module _ (text first after : List ℕ) (numbers : List ℕ)
    (is : fields text ≡ first ∷ (map decimal numbers ++ fields after)) where
  pub no_number : ((number : ℕ) (rest : Option (List ℕ)) → after ≡ with_rest space (decimal number) rest
      → ¬ (number < 2 ^ 32)) → (word operands : List ℕ) → ¬ (IsLine text word operands)
  no_number none =
      let (field, rest, apart, parts) = first_part after in
      no_line text first field numbers (fields_if_any rest) (rw (first_field after field rest apart parts) at is)
      (λ number of. none number rest (parts ∙ ap (λ bytes. with_rest space bytes rest) of.0) of.1)

  pub too_many : length numbers ≡ 3 → (word operands : List ℕ) → ¬ (IsLine text word operands)
  too_many three =
      let (field, rest, apart, parts) = first_part after in
      too_long text first field numbers (fields_if_any rest) three (rw (first_field after field rest apart parts) at is)

-- one more number is read
pub one_more : (text first field : List ℕ) (numbers : List ℕ) (number : ℕ) (others : List (List ℕ))
    → field ≡ decimal number → fields text ≡ first ∷ (map decimal numbers ++ field ∷ others)
    → fields text ≡ first ∷ (map decimal (numbers ++ number ∷ []) ++ others)
one_more text first field numbers number others is e =
    let grown : map decimal (numbers ++ number ∷ []) ++ others ≡ map decimal numbers ++ decimal number ∷ others
    = rw (map-append decimal numbers (number ∷ []))
    (append_assoc (map decimal numbers) (decimal number ∷ []) others) in
    rw grown (rw is at e)

numbers_same : (m n : List ℕ) → All (λ number. number < 2 ^ 32) m → All (λ number. number < 2 ^ 32) n
    → map decimal m ≡ map decimal n → m ≡ n
numbers_same [] [] h k e = refl
numbers_same [] (b ∷ n) h k e = cc
numbers_same (a ∷ m) [] h k e = cc
numbers_same (a ∷ m) (b ∷ n) h k e =
    let small = All-head (λ number. number < 2 ^ 32) a m h in
    let small_too = All-head (λ number. number < 2 ^ 32) b n k in
    let digits : decimal a ≡ decimal b = cc in
    let first = decimal_injective a b (omega arith) (omega arith) digits in
    let others : map decimal m ≡ map decimal n = cc in
    let later = numbers_same m n (All-tail (λ number. number < 2 ^ 32) a m h)
    (All-tail (λ number. number < 2 ^ 32) b n k) others in
    cc

-- a text is the line of one word and one list of numbers
IsLine_same : (text v w m n : List ℕ) → IsLine text v m → IsLine text w n → (v ≡ w) × (m ≡ n)
IsLine_same text v w m n a b =
    let e : v ∷ map decimal m ≡ w ∷ map decimal n = sym a.written ∙ b.written in
    let words : v ≡ w = cc in
    let numbers : map decimal m ≡ map decimal n = cc in
    (words, numbers_same m n a.in_range b.in_range numbers)

-- if nothing is written by the word and the numbers of a line, the line is invalid
pub invalid : {A : Type 0} (language : A → List ℕ × List ℕ) (found : Option A) (text word numbers : List ℕ)
    → IsLine text word numbers → IfNone found ((asked : A) → ¬ (Encodes language word numbers asked))
    → IfNone found (IsInvalid language text)
invalid language (Some asked) text word numbers line none = tt
invalid language None text word numbers line none = λ asked parses.
    none asked (IsLine_same text word (language asked).0 numbers (language asked).1 line parses)

-- if what is asked is written by its word and its numbers alone, a line asks for one thing at most
pub asks_for_one_thing : {A : Type 0} (language : A → List ℕ × List ℕ) → ((one other : A)
    → (language one).0 ≡ (language other).0 → (language one).1 ≡ (language other).1 → one ≡ other)
    → AsksForOneThing language
asks_for_one_thing language same line one other parses parses_too =
    let (word, numbers) = IsLine_same line _ _ _ _ parses parses_too in same one other word numbers
