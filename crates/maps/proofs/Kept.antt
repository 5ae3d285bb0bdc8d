-- The keys of the entries of which a test said `true`.
use Rattle.std.proofs.Common.{Bool, true, false, List, [], ◌∷◌, ap, refl, subst, sym}
use denote.Param.Always.{always_mut, mut_by, mut_next}
use denote.Ref.{Bor}
use Rattle.std.specs.Prelude.{◌≡◌, Result, Ok, Err, OnErr, OnOk}
use Rattle.std.specs.Fn.{Called, CalledAt, Mut}
use Rattle.std.specs.List.{items_where_true}
use Rattle.std.specs.List.Retain.{IsFiltered, ReturnsInTurn}
use Rattle.std.specs.declared.cmp.Ordering.{Ordering}
use Rattle.maps.specs.Changes.{AskedOf}
use Rattle.maps.specs.Maps.{IsRising}
use Rattle.maps.specs.Places.{AreAbove}
use Rattle.maps.proofs.Order.{Rises, from, to}

module _ {K V : Type 0} (cmp : K → K → Ordering) where
  -- a key below all is below those that stay
  above_where : (k : K) (bs : List Bool) (es : List (K × V)) → AreAbove (cmp k) es
      → AreAbove (cmp k) (items_where_true bs es)
  above_where k [] es a = tt
  above_where k (b ∷ bs) [] a = tt
  above_where k (true ∷ bs) (e ∷ es) a = (a.0, above_where k bs es a.1)
  above_where k (false ∷ bs) (e ∷ es) a = above_where k bs es a.1

  rises_where : (bs : List Bool) (es : List (K × V)) → Rises cmp es → Rises cmp (items_where_true bs es)
  rises_where [] es s = tt
  rises_where (b ∷ bs) [] s = tt
  rises_where (true ∷ bs) (e ∷ es) s = (above_where e.0 bs es s.0, rises_where bs es s.1)
  rises_where (false ∷ bs) (e ∷ es) s = rises_where bs es s.1

  -- the keys that stay rise still
  rising_kept : {P : Type 0} (R : P → K × V → Bool → P → Type 0) (p : P) (es kept : List (K × V))
      → IsFiltered R p es kept → IsRising cmp es → IsRising cmp kept
  rising_kept R p es kept is s =
      subst (IsRising cmp) (sym is.4) (from cmp (items_where_true is.0 es) (rises_where is.0 es (to cmp es s)))

  -- also if the map is refused and keeps its entries
  pub rising_retained : {P A E : Type 0} (R : P → K × V → Bool → P → Type 0) (p : P) (old new : List (K × V))
      → (r : Result A E) → OnOk r (IsFiltered R p old new) → OnErr r (new ≡ old) → IsRising cmp old
      → IsRising cmp new
  rising_retained R p old new (Ok done) is same s = rising_kept R p old new is s
  rising_retained R p old new (Err error) is same s = subst (IsRising cmp) (sym same) s

-- what stays by a test that asks another test, stays by the other
module _ {P Q X : Type 0} (R : P → X → Bool → P → Type 0) (S : Q → X → Bool → Q → Type 0) (of : P → Q)
    (asks : (p : P) (x : X) (b : Bool) (q : P) → R p x b q → S (of p) x b (of q)) where
  asked_in_turn : (p q : P) (bs : List Bool) (xs : List X) → ReturnsInTurn R p bs xs q
      → ReturnsInTurn S (of p) bs xs (of q)
  asked_in_turn p q [] xs says = ap of says
  asked_in_turn p q (b ∷ bs) [] says = says
  asked_in_turn p q (b ∷ bs) (x ∷ xs) says =
      (of says.0, asks p x b says.0 says.1, asked_in_turn says.0 q bs xs says.2)

  pub filtered_asked : (p : P) (xs ys : List X) → IsFiltered R p xs ys → IsFiltered S (of p) xs ys
  filtered_asked p xs ys is = (is.0, of is.1, is.2, asked_in_turn p is.1 is.0 xs is.3, is.4)

-- a closure over entries, that asks a test of keys and values
module _ {P F K V : Type 0} (h : Mut P (Bor (K × V) × Unit {0}) Bool) (g : Mut F (Bor K × (Bor V × Unit {0})) Bool)
    (of : P → F)
    (asks : (p : P) (a : Bor (K × V) × Unit {0}) (b : Bool) (q : P) → Called h p a b q
    → AskedOf g (of p) a.0.now b (of q)) where
  pub callable_asking : (p : P) → ((q : P) (a : Bor (K × V) × Unit {0}) → always_mut g (of q) → h.pre q a)
      → always_mut g (of p) → always_mut h p
  callable_asking p may =
      mut_by h (λ q. always_mut g (of q)) may
      (λ q a b r is call. mut_next g _ _ _ _ _ (asks q a b r call).called refl is) p

  pub filtered_asking : (p : P) (xs ys : List (K × V)) → IsFiltered (CalledAt h) p xs ys
      → IsFiltered (AskedOf g) (of p) xs ys
  filtered_asking =
      filtered_asked (CalledAt h) (AskedOf g) of
      (λ p x b q call. subst (λ e. AskedOf g (of p) e b (of q)) call.shows (asks p (call.shown, tt) b q call.called))
