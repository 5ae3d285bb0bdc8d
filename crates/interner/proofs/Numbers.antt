-- Values with their numbers, from one number on.
use Rattle.std.proofs.Common.{◌≡◌, ℕ, ◌+◌, ◌-◌, ◌<◌, List, [], ◌∷◌, length, get_or, drop, ◌∙◌, arith, refl}
use Rattle.std.proofs.lemmas.List.{at_drop_more, length-drop}
use Rattle.std.specs.List.{enumerate_from}

pub length-enumerate_from : {T : Type 0} (n : ℕ) (xs : List T) → length (enumerate_from n xs) ≡ length xs
length-enumerate_from n [] = refl
length-enumerate_from n (x ∷ xs) = grind (arith, length-enumerate_from (n + 1) xs)

pub numbered_left : {T : Type 0} (xs : List T) (n : ℕ) → length (enumerate_from n (drop n xs)) ≡ length xs - n
numbered_left xs n = length-enumerate_from n (drop n xs) ∙ length-drop n xs

pub numbered_next : {T : Type 0} (xs : List T) (n : ℕ) (d : T) → n < length xs
    → enumerate_from n (drop n xs) ≡ (n, get_or xs n d) ∷ enumerate_from (n + 1) (drop (n + 1) xs)
numbered_next xs n d below = at_drop_more (enumerate_from n) xs n d below

pub ruleset numbers = (numbered_left, numbered_next)
