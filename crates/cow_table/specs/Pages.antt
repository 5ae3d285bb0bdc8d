-- A list in pages: what the pages hold together, and how long each of them is.
use Rattle.std.specs.Prelude.{◌≡◌, ℕ, ◌<◌, ◌≤◌, List, [], ◌∷◌, length, vec_len}
use Rattle.std.specs.List.{flat_map}
use Rattle.std.specs.Vec.{vec_items}
use Rattle.std.specs.declared.vec.Vec.{Vec}

-- the items of all pages, one page after another
abbrev pub items_of : {T A : Type 0} → List (Vec T A) → List T
items_of = flat_map vec_items

-- each page has `page_len` items, but for the last, which has at least one and no more than that
abbrev pub IsPaged : {T A : Type 0} → ℕ → List (Vec T A) → Type 0
IsPaged page_len [] = Unit {0}
IsPaged page_len (last ∷ []) = (0 < vec_len last) × (vec_len last ≤ page_len)
IsPaged page_len (page ∷ next ∷ pages) = (vec_len page ≡ page_len) × IsPaged page_len (next ∷ pages)

-- the pages of a list of `len` items
pub record ArePages {T A : Type 0} (page_len len : ℕ) (pages : List (Vec T A)) : Type 0 where
  pub count : len ≡ length (items_of pages)
  pub cut : IsPaged page_len pages
