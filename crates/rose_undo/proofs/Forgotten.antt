-- A list whose beginning went to its end, and then went.
use Rattle.std.proofs.Common.{◌≡◌, ℕ, ◌+◌, ◌-◌, ◌<◌, List, ◌++◌, length, take, drop, ap, arith}
use Rattle.std.proofs.lemmas.List.{length-drop, take_at}

module _ {X : Type 0} (kept : ℕ) (xs : List X) where
  pub forgotten : (gone : ℕ) → kept + gone ≡ length xs
      → take kept (drop gone xs ++ take gone xs) ≡ drop (length xs - kept) xs
  forgotten gone is =
      let left : length xs - kept ≡ gone = omega arith in
      rw left (take_at (drop gone xs) (take gone xs) kept (omega (arith, length-drop gone xs)))

  pub all_kept : length xs < kept → drop (length xs - kept) xs ≡ xs
  all_kept few = let none : length xs - kept ≡ 0 = omega arith in ap (λ n. drop n xs) none

pub ruleset forgetting = (forgotten, all_kept)
