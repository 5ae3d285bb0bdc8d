-- How deep the lists and objects of a text are nested.
use Rattle.std.specs.Prelude.{◌≡◌, ℕ, ◌+◌, ◌-◌, ◌<◌, List, [], ◌∷◌, None, max}
use Rattle.json.specs.Lex.{tokens}
use Rattle.json.specs.Token.{Token, begin_array, begin_object, end_array, end_object}
use Rattle.serde_json.specs.Read.{read}
use Rattle.uses.specs.declared.shared_json.text.ParseError.{ParseError}
use Rattle.uses.specs.declared.shared_json.text.ParseError.TheVariants.{Memory, Syntax, TooDeep}

-- the number of open lists and objects after a token
abbrev pub open_after : ℕ → Token → ℕ
open_after n begin_array = n + 1
open_after n begin_object = n + 1
open_after n end_array = n - 1
open_after n end_object = n - 1
open_after n other = n

-- the greatest number that is open at once, if that many are open already
abbrev pub most_open : ℕ → List Token → ℕ
most_open n [] = n
most_open n (t ∷ ts) = max n (most_open (open_after n t) ts)

-- what is wrong with the text
abbrev pub Refuses : ℕ → List ℕ → ParseError → Type 0
Refuses levels text TooDeep = levels < most_open 0 (tokens text)
Refuses levels text (Syntax fault) = read text ≡ None
Refuses levels text (Memory refused) = Unit {0}
