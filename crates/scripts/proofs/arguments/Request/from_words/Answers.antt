use Rattle.std.proofs.Common.{map, sym, ◌≡◌, ◌≢◌, ℕ, ◌≤◌, ◌<◌, List, [], ◌∷◌, length}
use Rattle.std.proofs.Common.{get_or, ap, arith, ◌∙◌, codes, decimal}
use Rattle.std.proofs.lemmas.Fmt.{decimal_injective}
use Rattle.scripts.specs.Number.{IsNumber}
use Rattle.scripts.specs.Arguments.{Asks}
use Rattle.scripts.specs.declared.arguments.Request.{Request}
use Rattle.scripts.specs.declared.arguments.Request.TheVariants.{Core, Table}
use Rattle.scripts.proofs.arguments.Request.from_words.Goals as goal

-- the first two words, by their places
map-pair : {X : Type 0} (f : X → List ℕ) (xs : List X) (x y : X) → 2 ≤ length xs → x ≡ get_or xs 0 x
    → y ≡ get_or xs 1 y → (others : List (List ℕ)) × (map f xs ≡ f x ∷ f y ∷ others)
map-pair f [] x y two first second = absurd (omega arith)
map-pair f (a ∷ []) x y two first second = absurd (omega arith)
map-pair f (a ∷ b ∷ more) x y two first second =
    let e : x ≡ a = first in
    let h : y ≡ b = second in
    let both : map f (a ∷ b ∷ more) ≡ f x ∷ f y ∷ map f more = cc in
    (map f more, both)

-- two words, the second a number, are one word and one number alone
asked_kind : (words others more : List (List ℕ)) (kind text bytes asked : List ℕ) (size n : ℕ)
    → words ≡ kind ∷ text ∷ others → bytes ≡ text → IsNumber bytes size → words ≡ asked ∷ decimal
    n ∷ more → n ≤ 1000 → (kind ≡ asked) × (size ≡ n)
asked_kind words others more kind text bytes asked size n are same is asks small =
    let kinds : kind ≡ asked = cc in
    let texts : decimal size ≡ decimal n = cc in
    (kinds, decimal_injective size n (omega arith) (omega arith) texts)

core_is_no_table : codes "core" ≢ codes "table"
core_is_no_table e = let lengths = ap length e in omega (arith, lengths)

-- a number of owners that no core may have asks for nothing
no_core : (words others : List (List ℕ)) (kind text bytes : List ℕ) (size : ℕ)
    → words ≡ kind ∷ text ∷ others → kind ≡ codes "core" → bytes ≡ text → IsNumber bytes size →
    (1 ≤ size → 1000 < size) → (request : Request) → ¬ (Asks words request)
no_core words others kind text bytes size are core same is out (Core owners limit) asks =
    let found = asked_kind words others asks.0 kind text bytes _ size owners are same is asks.1 asks.3 in
    let some : 1 ≤ owners = asks.2 in
    let few : owners ≤ 1000 = asks.3 in
    omega (arith, found.1)
no_core words others kind text bytes size are core same is out (Table slots) asks =
    let found = asked_kind words others [] kind text bytes _ size slots are same is asks.0 asks.1 in
    core_is_no_table (sym core ∙ found.0)

-- a number of slots that no table may have asks for nothing
no_table : (words others : List (List ℕ)) (kind text bytes : List ℕ) (size : ℕ)
    → words ≡ kind ∷ text ∷ others → kind ≡ codes "table" → bytes ≡ text → IsNumber bytes size →
    1000 < size → (request : Request) → ¬ (Asks words request)
no_table words others kind text bytes size are table same is out (Core owners limit) asks =
    let found = asked_kind words others asks.0 kind text bytes _ size owners are same is asks.1 asks.3 in
    core_is_no_table (sym found.0 ∙ table)
no_table words others kind text bytes size are table same is out (Table slots) asks =
    let found = asked_kind words others [] kind text bytes _ size slots are same is asks.0 asks.1 in
    omega (arith, found.1)

pub returns-in_default-as_str-clause-wrong : goal.returns-in_default-as_str-clause-wrong
returns-in_default-as_str-clause-wrong g c =
    let are = map-pair g.S.AsStr.text c.args.words.now c.kind-item.result c.size-item.result
    c.in-len2-up.len_at_least c.kind-item.is c.size-item.is in
    no_core _ _ _ _ _ _ are.1 (sym c.as_str-2.ensures ∙ c.in-core.is)
    (c.as_bytes.ensures.value ∙ c.as_str.ensures) c.in_ok-size.ensures.number (λ some. omega arith)

pub returns-in_default-as_str-2-clause-wrong : goal.returns-in_default-as_str-2-clause-wrong
returns-in_default-as_str-2-clause-wrong g c =
    let are = map-pair g.S.AsStr.text c.args.words.now c.kind-item.result c.size-item.result
    c.in-len2-up.len_at_least c.kind-item.is c.size-item.is in
    no_core _ _ _ _ _ _ are.1 (sym c.as_str-2.ensures ∙ c.in-core.is)
    (c.as_bytes.ensures.value ∙ c.as_str.ensures) c.in_ok-size.ensures.number (λ some. omega arith)

pub returns-in_default-as_str-4-clause-wrong : goal.returns-in_default-as_str-4-clause-wrong
returns-in_default-as_str-4-clause-wrong g c =
    let are = map-pair g.S.AsStr.text c.args.words.now c.kind-item.result c.size-item.result
    c.in-len2-up.len_at_least c.kind-item.is c.size-item.is in
    no_table _ _ _ _ _ _ are.1 (sym c.as_str-2.ensures ∙ c.in-table.is)
    (c.as_bytes.ensures.value ∙ c.as_str.ensures) c.in_ok-size.ensures.number c.if-size-le-MOST_SLOTS.false
