-- What the tally of a log keeps however the log goes on.
use Rattle.std.proofs.Common.{◌≡◌, ℕ, Bool, true, false, if◌then◌else◌, List, [], ◌∷◌, ◌++◌, refl, Contains}
use Rattle.std.proofs.lemmas.List.Elements.{Contains-append_right}
use Rattle.counting_word.specs.WordSteps.{reads, asks, raises_from, reads_for_drop, lowers, reads_for_unique, marks}
use Rattle.counting_word.specs.Logs.{EntryKind, atomic, static_handle, static_birth, Entry}
use Rattle.counting_word.specs.Tallies.{dropping, ended, Standing, Tally, counted, has_exactly, one_more, goes_to}
use Rattle.counting_word.specs.Tallies.{after_read, after_kind, tally_after, tally_from}

pub tally-append : (p : Tally) (xs ys : List Entry) → tally_from p (xs ++ ys) ≡ tally_from (tally_from p xs) ys
tally-append p [] ys = refl
tally-append p (x ∷ xs) ys = tally-append (tally_after p x) xs ys

-- what a birth, a count that is found, a step of a drop and a mark leave true
module _ (P : Tally → Type 0) (by_birth : (p : Tally) → P p → P (one_more p))
    (by_count : (p : Tally) (x : ℕ × ℕ) → P p → P (record p { found = x ∷ p.found }))
    (by_drop : (p : Tally) (h : ℕ) (s : Standing) → P p → P (goes_to p h s))
    (by_mark : (p : Tally) → P p → P (record p { mark = true })) where
  by_read : (p : Tally) (h : ℕ) → P p → P (after_read p h)
  by_read p h is = at p.mark where
    at : (m : Bool) → P (if m then one_more p else record p { found = (h, counted p) ∷ p.found })
    at true = by_birth p is
    at false = by_count p (h, counted p) is

  by_entry : (p : Tally) (h : ℕ) (k : EntryKind) → P p → P (after_kind p h k)
  by_entry p h (atomic reads) is = by_read p h is
  by_entry p h (atomic asks) is = is
  by_entry p h (atomic (raises_from seen)) is = at (has_exactly seen p) where
    at : (b : Bool) → P (if b then one_more p else after_read p h)
    at true = by_birth p is
    at false = by_read p h is
  by_entry p h (atomic reads_for_drop) is = by_drop p h (if p.mark then ended else dropping) is
  by_entry p h (atomic lowers) is = by_drop p h ended is
  by_entry p h (atomic reads_for_unique) is = is
  by_entry p h (atomic marks) is = by_mark p is
  by_entry p h static_handle is = by_birth p is
  by_entry p h static_birth is = by_mark p is

  kept : (p : Tally) (log : List Entry) → P p → P (tally_from p log)
  kept p [] is = is
  kept p (e ∷ es) is = kept (tally_after p e) es (by_entry p e.handle e.kind is)

-- a mark stays
pub mark-kept : (p : Tally) (log : List Entry) → p.mark ≡ true → (tally_from p log).mark ≡ true
mark-kept =
    kept (λ p. p.mark ≡ true) (λ p is. is) (λ p x is. is) (λ p h s is. is) (λ p is. refl)

-- what a read found stays found
pub found-kept : (p : Tally) (log : List Entry) (x : ℕ × ℕ) → Contains p.found x
    → Contains (tally_from p log).found x
found-kept p log x = kept (λ q. Contains q.found x) (λ q is. is)
    (λ q y is. Contains-append_right (y ∷ []) q.found x is) (λ q h s is. is) (λ q is. is) p log
