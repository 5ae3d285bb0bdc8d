-- The pages that are lent have the items of the old ones, and the page that is lent is one of them.
use Rattle.std.proofs.Common.{◌≡◌, ◌∙◌, ap, arith, rules, refl, get_or, set, Vec, Global}
use Rattle.std.proofs.lemmas.List.{get_or_read}
use Rattle.std.proofs.lemmas.Result.{IfOk-weaker, on_err_weaker}
use Rattle.std.specs.Vec.{vec_items, with_item}
use Rattle.cow_table.proofs.Lent.{lent_items, set-read}
use Rattle.cow_table.proofs.table.own_page.Goals as goal

pub returns : goal.returns
returns g c =
    let p = c.args.page in
    let old = c.args.pages.now in
    let lent = c.in_ok-pages.pages.now in
    let page = c.index_mut.result.now in
    let outer = c.make_mut.follows in
    let inner = c.make_mut-2.follows in
    let same = lent_items _ (λ x y e. e) old lent c.in_ok-pages.ensures.value in
    let read : page ≡ get_or (vec_items old) p page =
    c.index_mut.ensures.value ∙ ap (λ pages. get_or pages p page) same in
    let left = λ (w : Vec g.row.T.Denot Global).
    ap vec_items (outer.holds (with_item lent p w) (search rules)) ∙ ap (λ pages. set pages p w) same in
    let put = λ (v w : Vec g.row.T.Denot Global) (is : v ≡ w).
    left v ∙ ap (λ new. set (vec_items old) p new) is in
    let at_err = λ (kept : inner.lender-at-none ≡ page).
    put inner.lender-at-none page kept ∙ set-read (vec_items old) p page read in
    let items = λ (own : _) (is : _).
    lent_items _ c.requires.copies page own.now is
    ∙ ap vec_items (get_or_read (vec_items old) p page (omega (arith, old.ok.0)) read own.now) in (
      (
        refl,
        λ w ok. put (inner.lender w)
            w (inner.holds w ok),
        on_err_weaker c.make_mut-2.result at_err inner.holds-at-none,
      ),
      record { writes_back = tt; items = IfOk-weaker c.make_mut-2.result _ _ items c.make_mut-2.ensures.value },
    )
