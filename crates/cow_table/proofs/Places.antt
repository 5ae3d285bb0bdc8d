-- Where an item lies in its pages, and what a write there leaves.
use Rattle.std.proofs.Common.{◌≡◌, ℕ, zero, suc, ◌+◌, ◌-◌, ◌*◌, ◌/◌, ◌%◌, ◌<◌, List, [], ◌∷◌, ◌++◌, length, get_or, set}
use Rattle.std.proofs.Common.{refl, sym, ap, ◌∙◌, subst, arith, vec_len, length-append}
use Rattle.std.proofs.Math.Nat.{suc-mul, add-sub_cancel_left}
use Rattle.std.proofs.lemmas.List.{length-set, get_or_append_left, get_or-append_right, set-append_left}
use Rattle.std.proofs.lemmas.List.{set-append_right}
use Rattle.std.proofs.lemmas.Nat.{div-add-mod', mod_below}
use Rattle.std.specs.Vec.{vec_items}
use Rattle.std.specs.declared.vec.Vec.{Vec}
use Rattle.cow_table.specs.Pages.{items_of, IsPaged}
use Rattle.cow_table.proofs.Paged.{IsPaged-set}

module _ {T A : Type 0} where
  -- item i lies on page q at place r
  record Lies (pages : List (Vec T A)) (q r i : ℕ) : Type 0 where
    there : q < length pages
    within : (d : Vec T A) → r < vec_len (get_or pages q d)
    reads : (d : Vec T A) (x : T) → get_or (items_of pages) i x ≡ get_or (vec_items (get_or pages q d)) r x
    writes : (d page : Vec T A) (x : T) → vec_items page ≡ set (vec_items (get_or pages q d)) r x
        → items_of (set pages q page) ≡ set (items_of pages) i x

  Lies-first : (page : Vec T A) (pages : List (Vec T A)) (r : ℕ) → r < vec_len page → Lies (page ∷ pages) 0 r r
  Lies-first page pages r within =
      let inside : r < length (vec_items page) = omega (arith, page.ok.0) in
      record {
        there = omega arith;
        within = λ d. within;
        reads = λ d x. get_or_append_left (vec_items page) (items_of pages) x r inside;
        writes = λ d new x is.
            ap (λ items. items ++ items_of pages) is
            ∙ sym (set-append_left (vec_items page) (items_of pages) r x inside);
      }

  Lies-later : (page : Vec T A) (pages : List (Vec T A)) (n q r i : ℕ) → vec_len page ≡ n → Lies pages q r i
      → Lies (page ∷ pages) (suc q) r (n + i)
  Lies-later page pages n q r i full lies =
      let long : length (vec_items page) ≡ n = sym page.ok.0 ∙ full in
      let back : n + i - n ≡ i = add-sub_cancel_left n i in
      record {
        there = omega (arith, lies.there);
        within = lies.within;
        reads = λ d x.
            get_or-append_right (vec_items page) (items_of pages) n (n + i) x long (omega arith)
            ∙ ap (λ k. get_or (items_of pages) k x) back
            ∙ lies.reads d x;
        writes = λ d new x is.
            ap (λ items. vec_items page ++ items) (lies.writes d new x is ∙ ap (λ k. set (items_of pages) k x)
            (sym back))
            ∙ sym (set-append_right (vec_items page) (items_of pages) n (n + i) x long (omega arith));
      }

  length-from : (page : Vec T A) (pages : List (Vec T A))
      → length (items_of (page ∷ pages)) ≡ vec_len page + length (items_of pages)
  length-from page pages =
      length-append (vec_items page) (items_of pages) ∙ ap (λ n. n + length (items_of pages)) (sym page.ok.0)

  Lies-at : (n : ℕ) (pages : List (Vec T A)) (q r i : ℕ) → IsPaged n pages → r < n → q * n + r ≡ i
      → i < length (items_of pages) → Lies pages q r i
  Lies-at n [] q r i paged small is inside = absurd (omega (arith, inside))
  Lies-at n (last ∷ []) zero r i paged small is inside =
      let same : r ≡ i = omega arith in
      subst (λ k. Lies (last ∷ []) 0 r k) same (Lies-first last [] r (omega (arith, length-from last [])))
  Lies-at n (last ∷ []) (suc q) r i paged small is inside =
      absurd (omega (arith, length-from last [], suc-mul q n))
  Lies-at n (page ∷ next ∷ pages) zero r i paged small is inside =
      let same : r ≡ i = omega arith in
      subst (λ k. Lies (page ∷ next ∷ pages) 0 r k) same (Lies-first page (next ∷ pages) r (omega arith))
  Lies-at n (page ∷ next ∷ pages) (suc q) r i paged small is inside =
      let rest : List (Vec T A) = next ∷ pages in
      let same : n + (q * n + r) ≡ i = omega (arith, suc-mul q n) in
      let there : q * n + r < length (items_of rest) = omega (arith, length-from page rest) in
      let later = Lies-at n rest q r (q * n + r) paged.1 small refl there in
      subst (λ k. Lies (page ∷ rest) (suc q) r k) same (Lies-later page rest n q r (q * n + r) paged.0 later)

-- Item i of a list in pages: p and r are the page and the place that the code computes.
module _ {T A : Type 0} (n : ℕ) (pages : List (Vec T A)) (i p r : ℕ) (page_is : p ≡ i / n)
    (place_is : r ≡ i % n)
    (positive : 0 < n) (paged : IsPaged n pages) (inside : i < length (items_of pages)) where
  at : Lies pages p r i
  at =
      let lies = Lies-at n pages (i / n) (i % n) i paged (mod_below i n positive) (div-add-mod' i n) inside in
      rw (page_is, place_is) lies

  pub page_there : p < length pages
  page_there = at.there

  pub item_read : (page : Vec T A) → page ≡ get_or pages p page → (x : T) (all : List T)
      → x ≡ get_or (vec_items page) r x → items_of pages ≡ all → x ≡ get_or all i x
  item_read page page_read x all read is =
      read ∙ ap (λ v. get_or (vec_items v) r x) page_read ∙ sym (at.reads page x) ∙ ap (λ xs. get_or xs i x) is

  module _ (page : Vec T A) (items : vec_items page ≡ vec_items (get_or pages p page)) where
    as_long : vec_len page ≡ vec_len (get_or pages p page)
    as_long = page.ok.0 ∙ ap length items ∙ sym (get_or pages p page).ok.0

    pub place_there : r < vec_len page
    place_there = omega (arith, at.within page, as_long)

    -- what is left of a write to the page
    module _ (x : T) (new : Vec T A) (left : List (Vec T A))
        (written : vec_items new ≡ set (vec_items page) r x) (left_is : left ≡ set pages p new) where
      pub item_written : (all : List T) → items_of pages ≡ all → items_of left ≡ set all i x
      item_written all is =
          ap items_of left_is
          ∙ at.writes page new x (written ∙ ap (λ xs. set xs r x) items)
          ∙ ap (λ xs. set xs i x) is

      pub still_paged : IsPaged n left
      still_paged =
          let same : vec_len new ≡ vec_len page =
          new.ok.0 ∙ ap length written ∙ length-set (vec_items page) r x ∙ sym page.ok.0 in
          rw left_is (IsPaged-set n pages p page new (same ∙ as_long) paged)

      pub as_many : length (items_of left) ≡ length (items_of pages)
      as_many = ap length (item_written (items_of pages) refl) ∙ length-set (items_of pages) i x

pub ruleset reading = (page_there, place_there, item_read)

pub ruleset writing = (page_there, place_there, item_written, still_paged, as_many)
