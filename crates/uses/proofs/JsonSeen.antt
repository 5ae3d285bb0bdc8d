-- The members that a map stands for.
use Rattle.std.proofs.Common.{◌≡◌, ◌∙◌, ap, append_assoc, append-nil, map, nat_cmp, refl, rules, subst, sym}
use Rattle.std.proofs.Common.{List, [], ◌∷◌, ◌++◌, Greater, Less, BTreeMap, String, Global, string_bytes, string_cmp}
use Rattle.std.proofs.lemmas.Map.Made.{keys_of-map_values}
use Rattle.std.specs.Cmp.Lexicographic.{slice_cmp}
use Rattle.std.specs.List.{AllByRecursion}
use Rattle.std.specs.List.Sorted.{IsStrictlySortedBy}
use Rattle.std.specs.Map.{keys_of}
use Rattle.std.specs.String.{string_cmp_total}
use Rattle.maps.specs.Maps.{IsRising, with_entries}
use Rattle.maps.specs.Places.{AreAbove}
use Rattle.maps.proofs.Order.{Rises, above_back, from, to, turned_back}
use Rattle.maps.proofs.Rising.{with_rising}
use Rattle.serde_json.specs.Data.{Data, Members, member, no_members, object, put}
use Rattle.serde_json.specs.View as plain
use Rattle.serde_json.specs.declared.value.Value as plain_value
use Rattle.serde_json.proofs.Views.{members_view-insert_entry, view-Object}
use Rattle.uses.specs.Json.{members_view, view}
use Rattle.uses.specs.declared.shared_json.Value.{Value, the_lemmas}
use Rattle.uses.specs.declared.shared_json.Value as value

abbrev Entry : Type 0
Entry = String Global × Value

pub view-Map : (es : List Entry) → view (value.Map es) ≡ object (members_view es)
view-Map es = search (rules, the_lemmas)

-- the members ms, with each of these entries put in, from the first to the last
abbrev pub puts : List Entry → Members → Members
puts [] ms = ms
puts (e ∷ es) ms = puts es (put (string_bytes e.0) (view e.1) ms)

-- an entry above those before it goes last
put_last : (done : List Entry) (e : Entry) (more : List Entry) → Rises string_cmp (done ++ e ∷ more)
    → put (string_bytes e.0) (view e.1) (members_view done) ≡ members_view (done ++ e ∷ [])
put_last [] e more s = refl
put_last (first ∷ done) e more s =
    let below = (above_back (string_cmp first.0) done (e ∷ more) s.0).0 in
    let above : slice_cmp nat_cmp (string_bytes e.0) (string_bytes first.0) ≡ Greater =
    turned_back string_cmp_total first.0 e.0 below in
    rw above (ap (member (string_bytes first.0) (view first.1)) (put_last done e more s.1))

puts_behind : (done more : List Entry) → Rises string_cmp (done ++ more)
    → puts more (members_view done) ≡ members_view (done ++ more)
puts_behind done [] s = ap members_view (sym (append-nil done))
puts_behind done (e ∷ more) s =
    let next = append_assoc done (e ∷ []) more in
    ap (puts more) (put_last done e more s)
    ∙ puts_behind (done ++ e ∷ []) more (subst (Rises string_cmp) (sym next) s) ∙ ap members_view next

pub puts_rising : (es : List Entry) → IsRising string_cmp es → puts es no_members ≡ members_view es
puts_rising es rising = puts_behind [] es (to string_cmp es rising)

-- what a loop that puts in each entry has to know
pub ruleset puts_in = (puts_rising, members_view-insert_entry, view-Object, view-Map)

above : (name : String Global) (es : List Entry) → AllByRecursion (λ key. string_cmp name key ≡ Less) (keys_of es)
    → AreAbove (string_cmp name) es
above name [] h = tt
above name (e ∷ es) h = (h.0, above name es h.1)

rises : (es : List Entry) → IsStrictlySortedBy string_cmp (keys_of es) → Rises string_cmp es
unfolding IsStrictlySortedBy
rises [] sorted = tt
rises (e ∷ es) sorted = (above e.0 es sorted.0, rises es sorted.1)

-- a map of entries that rise stands for the object with these
pub map_made : (es m : List Entry) (o : BTreeMap (String Global) plain_value.Value)
    → IsStrictlySortedBy string_cmp (keys_of o.entries)
    → map {B = String Global × Data} (λ e. (e.0, view e.1)) es ≡ map (λ e. (e.0, plain.view e.1)) o.entries
    → m ≡ with_entries string_cmp es [] → view (value.Map m) ≡ plain.view (plain_value.Object o)
map_made es m o sorted same is =
    let keys : keys_of es ≡ keys_of o.entries =
    sym (keys_of-map_values view es) ∙ ap keys_of same ∙ keys_of-map_values plain.view o.entries in
    let rising = from string_cmp es (rises es (subst (IsStrictlySortedBy string_cmp) (sym keys) sorted)) in
    let made = ap members_view (is ∙ with_rising string_cmp string_cmp_total [] es rising) in
    view-Map m ∙ ap object (made ∙ ap plain.members_of same) ∙ sym (view-Object o)
