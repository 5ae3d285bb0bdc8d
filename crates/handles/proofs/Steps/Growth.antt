-- What an entry makes of the handles of a tally, and whose passes are then out.
use Rattle.std.proofs.Common.{map, get_or, set}
use Rattle.handles.proofs.Steps.Shared.{Right, nothing, a_handle, atomic}
use Rattle.handles.proofs.Steps.Shared.{made, Tally, lives, dropping}
use Rattle.handles.proofs.Steps.Shared.{ended, is_living, is_dropping, tally_after}
use Rattle.handles.proofs.Steps.Shared.{raises_from}
use Rattle.handles.proofs.Steps.Shared.{has_exactly}
use Rattle.handles.proofs.Steps.Shared.{one_more, after_read, tally_right, counted}
use Rattle.handles.proofs.Steps.Shared.{suc, zero, ◌≡◌, ℕ, Bool, true, false, if◌then◌else◌}
use Rattle.handles.proofs.Steps.Shared.{List, [], ◌∷◌, ◌++◌, refl, sym, ap}
use Rattle.handles.proofs.Steps.Shared.{true≢false}
use Rattle.counting_word.specs.Tallies.{Standing}

-- how the passes of the two rows are out
abbrev pub living_out : Tally → List Bool
living_out p = map is_living p.handles

abbrev pub dropping_out : Tally → List Bool
dropping_out p = map is_dropping p.handles

-- a pass is out by the standing of its handle
pub out-is : (is : Standing → Bool) → is ended ≡ false → (hs : List Standing) (k : ℕ)
    → get_or (map is hs) k false ≡ is (get_or hs k ended)
out-is is none [] k = sym none
out-is is none (x ∷ hs) zero = refl
out-is is none (x ∷ hs) (suc k) = out-is is none hs k

pub only_living : (t : Standing) → is_living t ≡ true → t ≡ lives
only_living lives e = refl
only_living dropping e = absurd (true≢false (sym e))
only_living ended e = absurd (true≢false (sym e))

pub only_dropping : (t : Standing) → is_dropping t ≡ true → t ≡ dropping
only_dropping lives e = absurd (true≢false (sym e))
only_dropping dropping e = refl
only_dropping ended e = absurd (true≢false (sym e))

-- a place that is so already
pub set-so : (outs : List Bool) (k : ℕ) → get_or outs k false ≡ false → set outs k false ≡ outs
set-so [] k e = refl
set-so (b ∷ outs) zero e = ap (λ (z : Bool). z ∷ outs) (sym e)
set-so (b ∷ outs) (suc k) e = ap (λ (l : List Bool). b ∷ l) (set-so outs k e)

-- an entry by which a handle may be born
abbrev pub Grows : Right → Tally → Tally → Type 0
Grows nothing p q = q.handles ≡ p.handles
Grows a_handle p q = q.handles ≡ p.handles ++ lives ∷ []
Grows r p q = ⊥

pub grows-read : (p : Tally) (h : ℕ) → Grows (if p.mark then a_handle else nothing) p (after_read p h)
grows-read p h = at p.mark where
  at : (m : Bool) → Grows (if m then a_handle else nothing) p
      (if m then one_more p else record p { found = (h, counted p) ∷ p.found })
  at true = refl
  at false = refl

pub grows-raise : (p : Tally) (h seen : ℕ)
    → Grows (tally_right p (atomic (raises_from seen))) p (tally_after p (made h (raises_from seen)))
grows-raise p h seen = at (has_exactly seen p) where
  at : (b : Bool) → Grows (if b then a_handle else (if p.mark then a_handle else nothing)) p
      (if b then one_more p else after_read p h)
  at true = refl
  at false = grows-read p h
