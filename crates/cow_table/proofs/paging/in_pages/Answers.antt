-- A page is full if items are left after it, so all pages before the last are.
use Rattle.std.proofs.Common.{arith, ◌≡◌, min, vec_len}
use Rattle.std.proofs.lemmas.Grind.{common_steps}
use Rattle.std.proofs.lemmas.List.Concat.{flat_map-append}
use Rattle.std.proofs.lemmas.List.Elements.{All-push}
use Rattle.std.specs.Vec.Iter.{into_iter_len}
use Rattle.cow_table.proofs.Paged.{IsPaged-push}
use Rattle.cow_table.proofs.paging.in_pages.Goals as goal

pub pages-preserved : goal.pages-preserved
pages-preserved g c =
    let n = c.args.page_len in
    let pages = c.pages.pages.items in
    let page = c.in_ok-page.page in
    let full = c.pages.invariant.2 (omega arith) in
    let long : vec_len page ≡ min n (into_iter_len c.pages.rest) = c.in_ok-page.ensures.len in (
      grind (arith, common_steps, flat_map-append),
      rw c.in_ok-push.ensures.items (IsPaged-push n pages page full (omega arith) (omega arith)),
      λ some. rw c.in_ok-push.ensures.items (All-push (λ p. vec_len p ≡ n)
          pages page full (grind (arith, common_steps))),
    )
