use Rattle.std.proofs.Common.{◌≡◌, ℕ, ◌<◌, [], ◌∷◌, length, ap, sym, subst, refl, ◌∙◌, rules, arith}
use Rattle.std.specs.Prelude.{Some}
use Rattle.std.proofs.lemmas.List.{nil_from_length}
use Rattle.rose_undo.specs.Modified.{ChangesValue}
use Rattle.rose_undo.specs.Roses.{branch}
use Rattle.rose_undo.proofs.Branches.{root_branch}
use Rattle.rose_undo.proofs.Modified.{at_below, changed_below, changed_here, leads_within}
use Rattle.rose_undo.proofs.rose.Rose.+modify.Given as given
use Rattle.rose_undo.proofs.rose.Rose.+modify.Goals as goal
use Rattle.rose_undo.proofs.rose.Rose.+modify.Goals.{write-In-Some}

pub write-change-requires : goal.write-change-requires
write-change-requires g t c =
    let none : c.args.path.now ≡ [] = nil_from_length c.args.path.now (search rules) in
    let node = c.args.node.now in
    let found = ap Some (root_branch node.header node.items ∙ sym (ap (λ n. n.header) c.node.view_is)) in
    c.requires.callable c.node.inside.header (rw none found) _ refl

-- the path leads to a child
child : (g : given.Over) (t : ℕ) (c : write-In-Some g t) → (c.args.path.now ≡ c.in-Some.index.now ∷ c.in-Some.rest.now)
    × (c.in-Some.index.now < length c.args.node.now.items)
child g t c =
    let parts : c.args.path.now ≡ c.in-Some.index.now ∷ c.in-Some.rest.now = search rules in
    let node = c.args.node.now in
    (parts, leads_within node.header node.items c.in-Some.index.now c.in-Some.rest.now (rw parts at c.requires.there))

pub write-bounds-slice_mut-index : goal.write-bounds-slice_mut-index
write-bounds-slice_mut-index g t c =
    let at = child g t (goal.at.write-bounds-slice_mut-index g t c).In-Some in rw c.slice_mut.ensures.value at.1

pub write-offset_bounds-slice_mut-index : goal.write-offset_bounds-slice_mut-index
write-offset_bounds-slice_mut-index g t c =
    let at = child g t (goal.at.write-offset_bounds-slice_mut-index g t c).In-Some in
    omega (arith, at.1, ap length c.slice_mut.ensures.value, c.slice_mut.type_inv.1)

pub write-modify_there-requires : goal.write-modify_there-requires
write-modify_there-requires g t c κs within =
    let at = child g t (goal.at.write-modify_there-requires g t c).In-Some in
    let node = c.args.node.now in
    let below = at_below node.header node.items c.in-Some.index.now c.in-Some.rest.now c.index-slice_mut-index.result
    at.1 in
    let is = c.slice_mut.ensures.value in (
      omega (arith, c.decreases, ap length at.0),
      (
        within.0,
        (
          within.1.0,
          (
            within.1.1,
            (
              c.requires.copies,
              (
                rw is (rw (at.0, below) at c.requires.there),
                rw is (rw (at.0, below) at c.requires.callable),
              ),
            ),
          ),
        ),
      ),
    )

pub write-returns-in-None-clause-changed : goal.write-returns-in-None-clause-changed
write-returns-in-None-clause-changed g t c =
    let none : c.args.path.now ≡ [] = nil_from_length c.args.path.now (search rules) in
    let inside = c.node.inside in
    let new = c.change.new.arg2 in
    rw none (subst (λ n. ChangesValue g.F.FnOnce c.args.change [] (branch n.header n.items)
    (branch new inside.items.items) c.change.result) c.node.view_is
    (changed_here inside.header inside.items.items g.F.FnOnce c.args.change new c.change.result
    (record { shown = _; shows = refl; left = _; met = c.change.ensures; leaves = refl })))

pub write-returns-in-Some-clause-changed : goal.write-returns-in-Some-clause-changed
write-returns-in-Some-clause-changed g t c =
    let at = child g t (goal.at.write-returns-in-Some-clause-changed g t c).In-Some in
    let is = c.slice_mut.ensures.value in
    rw (at.0, ← is) (changed_below c.args.node.now.header c.slice_mut.result.now g.F.FnOnce c.args.change
    c.in-Some.index.now c.in-Some.rest.now c.index-slice_mut-index.result c.modify_there.new.self
    c.modify_there.result (rw is at.1) c.modify_there.ensures.changed)
