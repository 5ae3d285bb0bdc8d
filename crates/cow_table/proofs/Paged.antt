-- Pages that come one after another, and pages in the place of others.
use Rattle.std.proofs.Common.{◌≡◌, ◌∙◌, ℕ, zero, suc, ◌<◌, ◌≤◌, List, [], ◌∷◌, ◌++◌, get_or, set, arith, vec_len}
use Rattle.std.proofs.lemmas.List.Elements.{All-tail}
use Rattle.std.specs.List.{All}
use Rattle.std.specs.declared.vec.Vec.{Vec}
use Rattle.cow_table.specs.Pages.{IsPaged}

module _ {T A : Type 0} (n : ℕ) where
  -- after full pages there may come one more
  pub IsPaged-push : (pages : List (Vec T A)) (page : Vec T A) → All (λ p. vec_len p ≡ n) pages
      → 0 < vec_len page → vec_len page ≤ n → IsPaged n (pages ++ page ∷ [])
  IsPaged-push [] page full some most = (some, most)
  IsPaged-push (first ∷ []) page full some most = (full 0 first (omega arith), (some, most))
  IsPaged-push (first ∷ second ∷ pages) page full some most = (
    full 0 first (omega arith),
    IsPaged-push (second ∷ pages) page (All-tail (λ p. vec_len p ≡ n) first (second ∷ pages) full) some most,
  )

  -- a page may stand in the place of one that is as long
  pub IsPaged-set : (pages : List (Vec T A)) (q : ℕ) (d page : Vec T A)
      → vec_len page ≡ vec_len (get_or pages q d) → IsPaged n pages → IsPaged n (set pages q page)
  IsPaged-set [] q d page same paged = tt
  IsPaged-set (last ∷ []) zero d page same paged = (omega arith, omega arith)
  IsPaged-set (last ∷ []) (suc q) d page same paged = paged
  IsPaged-set (page ∷ next ∷ pages) zero d new same paged = (same ∙ paged.0, paged.1)
  IsPaged-set (page ∷ next ∷ pages) (suc zero) d new same paged =
      (paged.0, IsPaged-set (next ∷ pages) zero d new same paged.1)
  IsPaged-set (page ∷ next ∷ pages) (suc (suc q)) d new same paged =
      (paged.0, IsPaged-set (next ∷ pages) (suc q) d new same paged.1)
