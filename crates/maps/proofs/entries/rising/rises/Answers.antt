use Rattle.std.proofs.Common.{◌≡◌, ◌+◌, suc, true, arith, get_or, rules, subst, sym, tests}
use Rattle.std.proofs.lemmas.List.Sorted.{answers_always}
use Rattle.std.specs.Ordering.{is_lt}
use Rattle.maps.proofs.Rising.{rising_each}
use Rattle.maps.proofs.entries.rising.rises.Goals as goal

pub returns : goal.returns
returns g c =
    let cmp = g.K.Ord.cmp in
    let es = c.args.items.now in
    let lt = λ (x : g.row.K.Denot × g.row.V.Denot) (y : g.row.K.Denot × g.row.V.Denot). is_lt (cmp x.0 y.0) in
    let answer = c.is_sorted_by.ensures.cases lt (answers_always _ _ _ (λ f a r f' k. search (rules, tests))) in
    λ is. let each = rw is at answer in
    rising_each cmp g.met.K.Ord.total es (λ k d within.
    let next : k + 1 ≡ suc k = omega arith in
    subst (λ n. is_lt (cmp (get_or es k d).0 (get_or es n d).0) ≡ true) next
    (sym (each k d (omega (arith, within)))))
