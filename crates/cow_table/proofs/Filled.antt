-- Pages that are not empty.
use Rattle.std.proofs.Common.{◌≡◌, ℕ, ◌<◌, ◌≤◌, List, [], ◌∷◌, length, ap, arith, length-append}
use Rattle.std.specs.Vec.{vec_items}
use Rattle.std.specs.declared.vec.Vec.{Vec}
use Rattle.cow_table.specs.Pages.{items_of, IsPaged}

module _ {T A : Type 0} (n : ℕ) where
  -- there are no more pages than items
  most_pages : (pages : List (Vec T A)) → IsPaged n pages → 0 < n → length pages ≤ length (items_of pages)
  most_pages [] paged positive = omega arith
  most_pages (last ∷ []) paged positive =
      omega (arith, paged.0, last.ok.0, length-append (vec_items last) (items_of {A = A} []))
  most_pages (page ∷ next ∷ pages) paged positive =
      omega (
        arith,
        most_pages (next ∷ pages) paged.1 positive,
        paged.0,
        page.ok.0,
        length-append (vec_items page) (items_of (next ∷ pages)),
      )

  pub page_has_item : (pages : List (Vec T A)) (p : ℕ) (all : List T) → p < length pages → items_of pages ≡ all
      → IsPaged n pages → 0 < n → p < length all
  page_has_item pages p all there is paged positive = omega (arith, most_pages pages paged positive, ap length is)
