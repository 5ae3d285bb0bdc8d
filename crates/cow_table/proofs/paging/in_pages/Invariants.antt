use Rattle.std.proofs.Common.{◌≡◌, ◌<◌, ◌++◌, vec_len}
use Rattle.std.specs.List.{All}
use Rattle.std.specs.Vec.Iter.{into_iter_items, into_iter_len}
use Rattle.cow_table.specs.Pages.{items_of, IsPaged}
use Rattle.cow_table.proofs.paging.in_pages.Given as goal

abbrev pub invariant-pages : goal.invariant-pages
invariant-pages g l =
    (items_of l.pages.items ++ into_iter_items l.rest ≡ l.fn.items.items)
    × IsPaged l.page_len l.pages.items
    × (0 < into_iter_len l.rest → All (λ page. vec_len page ≡ l.page_len) l.pages.items)

abbrev pub decreases-pages : goal.decreases-pages
decreases-pages g l = into_iter_len l.rest
