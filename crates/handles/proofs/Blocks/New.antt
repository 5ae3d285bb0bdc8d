-- How a block that nobody shares becomes a counted one, and how its log begins. Assumes `Logic`.
use Rattle.std.proofs.Common.{◌≡◌, List, map, ℕ, true, false, [], ◌∷◌, ◌+◌, ◌%◌, ◌≤◌, arith, refl, sym, ap}
use Rattle.std.proofs.Common.{true≢false}
use seplogic.Ra.Ura.{Ura}
use lib.Dec.{lit<}
use base.Fraction.{full_share}
use base.FractionLaws.{Counts-all}
use base.Logic.{ex, via, ent, emp}
use base.Fml.{Lft, Incl-trans, Share, Fml, fsep, fex, flft, flent, finv}
use contract.BorrowLft.{meet_⊑_left, meet_⊑_right}
use types.Logic.{Logic, sem}
use types.Kit.{use0, show, ‵, ◌⊛◌, some as exists, later, ◌$◌, ◌∵◌, !, qed, move, keep, use1, use2, split, split3}
use types.Kit.{join, Item, mean, fsplit, fsplit3, fjoin, fjoin3, fpick, fpack, pick, await, updating, now, done}
use types.Growing.{latest_new}
use types.Owned.{basic}
use base.Growing.{latest}
use Rattle.counting_word.specs.Logs.{Entry}
use Rattle.counting_word.specs.Tallies.{Standing, lives, tally_of, is_living, is_dropping, Keeps}
use Rattle.handles.specs.Inside.Rows.{pass, row}
use Rattle.handles.proofs.Blocks.Rows.{row_new, row_begins, row_waits}
use types.Tokens.{lft_new, lft_end, bor_new}
use types.RcWeak.{part, rest, part_in, cut}
use denote.RattleType.{RattleType}
use denote.RawPtr.{Ptr, block_of, count_of as offset_of}
use denote.Struct.Lending.{Lends}
use Rattle.std_alloc.proofs.ArcSteps.{Settles}
use Rattle.counting_word.specs.CountingWord.{mark_bit, marked_word}
use Rattle.counting_word.proofs.Words.{stands-one}
use Rattle.handles.specs.Inside.Blocks.{BlockId, rows, noted_as, title, marked, logs, bare_block, sole_handle}
use Rattle.handles.specs.Inside.Blocks.{HeldRow, StandsWithin, Names, Stage, living, counted, kept_log}
use Rattle.handles.specs.Inside.Blocks.{unshared_block, held_and_block, stamp, shown, block_rule}
use Rattle.handles.specs.Inside.Marked.{born_static}
use Rattle.handles.proofs.Scripts.{same, fpair, ffact, fdead_twice}
use Rattle.handles.proofs.Steps.Words.{stands-unmarked, marked-stands}
use Rattle.handles.proofs.Steps.Shared.{at_stage, block_at, counted_stake, makes_one}

-- the word of a new block stands for its one handle
new-stands : (limit : ℕ) → 1 ≤ limit → StandsWithin limit 1 false 1
new-stands limit some = let within : 1 % mark_bit ≤ limit = omega (arith, some) in
    (stands-unmarked 1 1 0 1 stands-one, λ _. within)

-- the word of a new block with the mark, from whose pool every handle is made
new_mark-stands : (limit : ℕ) → StandsWithin limit (marked_word 1) true 0
new_mark-stands limit = marked-stands limit (marked_word 1)
    0 (record { same_mark = refl; counts_live = λ none. absurd (true≢false none); covers_drops = λ _. omega arith })

-- a block at p that holds x, with these names of its log and passes, and its handle with this number
module _ (R : RattleType) (p : Ptr) (x : (HeldRow R).Denot) (η : BlockId) (n : ℕ) where
  -- the handle, under these names of the sharing
  abbrev pub Held : Names → Fml
  Held i = counted (held_and_block R p x) (stamp p) x.limit.count (block_of p) (offset_of p + 0) η i n (shown R p x)

  -- and that its block is marked
  abbrev pub Held_marked : Names → Fml
  Held_marked i = fsep (marked i) (Held i)

  -- the only handle, whose block has the word w
  abbrev pub Sole : ℕ → List Entry → Fml
  Sole w log = fsep (unshared_block R p x η w log) (pass η.living n full_share)

  -- What the sharing begins with: what is shown, a handle's part, the other parts, the lender, and the mark's token.
  abbrev Begun : Names → Fml
  Begun i = fsep (shown R p x (i.shared ∷ [])) (fsep (part 64 i.shared) (fsep (rest 64 i.shared 1)
      (fsep (flent (i.shared ∷ []) (held_and_block R p x)) (flft (i.unmarked ∷ []) full_share))))

  module _ {M : Type 1} {𝓤 : Ura M} (𝓛 : Logic 𝓤) (l : Lft) (lends : Lends 𝓛 (held_and_block R p x) (shown R p x) l)
    where
      -- the names are made, and the content is lent
      sharing_begins : Settles 𝓛 (held_and_block R p x) (fex Names Begun) l
      sharing_begins μ q inc = qed 𝓛 (‵ (held_and_block R p x) ∷ ‵ (flft μ q) ∷ []) ∵ updating ! $
          lft_new ! tt (λ m. lft_new ! tt (λ a. let i : Names = record { shared = a; unmarked = m } in
          use1 𝓛 (‵ (rest 64 a 1) ⊛ ‵ (part 64 a)) (cut 64 𝓛 a 0 full_share (lit< tt) (Counts-all 64)) $ split ! $
          move ! (3 ∷ []) $ bor_new ! tt (a ∷ []) $ move ! (3 ∷ []) $ fpick ! (λ e. fpick ! (λ c.
          -- [the part; the borrow; the lender; the parts; the mark's token; the token]
          move ! (0 ∷ 5 ∷ []) $ join ! $ move ! (1 ∷ 0 ∷ []) $
          use2 𝓛 (later (‵ (shown R p x (a ∷ [])) ⊛ ‵ (flft (a ∷ []) e) ⊛ ‵ (flft μ q)))
          (lends (a ∷ []) ((a ∷ [], e) ∷ (μ, q) ∷ []) (Incl-trans (meet_⊑_right (a ∷ []) μ) inc)
          (meet_⊑_left (a ∷ []) μ)) $ await ! tt $ split3 ! $ move ! (1 ∷ []) $
          use1 𝓛 (‵ (part 64 a)) (part_in 64 𝓛 a e c) $
          -- [the part; what is shown; the token; the lender; the parts; the mark's token]
          fpair ! 3 5 $ fpair ! 4 0 $ fpair ! 1 0 $ fpair ! 1 0 $ fpack ! Names Begun i $ now ! $ done !))))

      -- the rule of a block is made when it is shared
      pub becomes_counted : Settles 𝓛 (fex (List Entry) (Sole 1)) (fex Names Held) l
      becomes_counted μ q inc =
          qed 𝓛 (‵ (fex (List Entry) (Sole 1)) ∷ ‵ (flft μ q) ∷ []) ∵ updating ! $
          fpick ! (λ log. fsplit ! $ fsplit3 ! $ fsplit ! $ move ! (1 ∷ []) $
          fpack ! (List Entry) (noted_as x.limit.count η 1) log $ fpair ! 1 0 $ move ! (1 ∷ 4 ∷ []) $
          use2 𝓛 (later (‵ (fex Names Begun) ⊛ ‵ (flft μ q))) (sharing_begins μ q inc) $ await ! tt $ split ! $
          fpick ! (λ i. fsplit3 ! $ move ! (2 ∷ []) $ fsplit3 ! $
          -- [the parts; the lender; the mark's token; what is shown; the part; the token; the word; the kept; the pass]
          fpair ! 1 7 $ fpair ! 0 2 $ fpair ! 1 0 $
          ffact ! (StandsWithin x.limit.count 1 false 1) (new-stands x.limit.count x.limit.in_range.0) $
          fjoin ! $ fpair ! 4 0 $ fpack ! Stage (at_stage (block_at R p x η n i)) (living false 1 1) $
          use1 𝓛 (later (‵ (finv (block_rule R p x η i)))) (𝓛.invs.inv_new (block_rule R p x η i)) $ await ! tt $
          -- [the rule; what is shown; the part; the token; the pass]
          move ! (2 ∷ []) $ use1 𝓛 (‵ (title i)) (counted_stake 𝓛 i) $
          fpair ! 0 4 $ move ! (0 ∷ 1 ∷ 2 ∷ []) $ fjoin3 ! $ fpack ! Names Held i $ now ! $ done !))

      -- with the mark, its lifetime is over and the handle is made from the pool
      pub becomes_known : (log : List Entry) → Settles 𝓛 (Sole (marked_word 1) log) (fex Names Held_marked) l
      becomes_known log μ q inc =
          qed 𝓛 (‵ (Sole (marked_word 1) log) ∷ ‵ (flft μ q) ∷ []) ∵ updating ! $ fsplit ! $ fsplit3 ! $
          move ! (1 ∷ 4 ∷ []) $
          use2 𝓛 (later (‵ (fex Names Begun) ⊛ ‵ (flft μ q))) (sharing_begins μ q inc) $ await ! tt $ split ! $
          fpick ! (λ i. fsplit3 ! $ move ! (1 ∷ []) $ fpick ! (λ e. fpick ! (λ c.
          fpack ! Share (λ e. flft (i.shared ∷ []) e) e $ move ! (2 ∷ []) $ fsplit3 ! $
          -- [the parts; the lender; the mark's token; the pool; what is shown; the token; the word; the kept; the pass]
          fpair ! 3 7 $ move ! (3 ∷ []) $ lft_end ! tt $ fdead_twice ! $ fpair ! 2 0 $ fpair ! 2 0 $
          -- [what is beside the word; the mark; the lender; what is shown; the token; the word; the pass]
          move ! (5 ∷ 0 ∷ []) $ use2 𝓛 (‵ (fsep (block_rule R p x η i) (title i)))
          (makes_one 𝓛 (block_at R p x η n i) (marked_word 1) 0 log (new_mark-stands x.limit.count)) $ fsplit ! $
          use1 𝓛 (later (‵ (finv (block_rule R p x η i)))) (𝓛.invs.inv_new (block_rule R p x η i)) $ await ! tt $
          -- [the rule; the title; the mark; the lender; what is shown; the token; the pass]
          fpair ! 1 6 $ move ! (0 ∷ 1 ∷ 4 ∷ []) $ fjoin3 ! $ fpair ! 1 0 $ fpack ! Names Held_marked i $
          now ! $ keep ! (0 ∷ 2 ∷ []) $ done !)))

module _ (R : RattleType) {M : Type 1} {𝓤 : Ura M} (𝓛 : Logic 𝓤) (p : Ptr)
    (x : (HeldRow R).Denot) where
  open 𝓛 use {H}

  -- some row of no passes
  abbrev a_row : Item 𝓤
  a_row = exists (λ (γ : ℕ). ‵ (row γ []))

  new_row : ent 𝓤 (emp 𝓤) (H.⇛ (mean 𝓛 a_row))
  new_row = via 𝓤 _ (row_new 𝓛 0) (basic 𝓛 _)

  -- a log that begins so has one handle, which lives
  begins_log : (w : ℕ) (log : List Entry) → (tally_of log).handles ≡ lives ∷ [] → Keeps x.limit.count log w
      → ent 𝓤 (sem 𝓛 (bare_block R p x w)) (H.⇛ (ex 𝓤 (λ (η : BlockId). sem 𝓛 (Sole R p x η 0 w log))))
  begins_log w log one left = qed 𝓛 (‵ (bare_block R p x w) ∷ []) ∵ updating ! $ fsplit ! $
      use0 𝓛 (later (exists (λ (η : ℕ). ‵ (latest logs full_share η (kept_log log)))))
      (via 𝓤 _ (latest_new logs 𝓛 (kept_log log)) (basic 𝓛 _)) $ await ! tt $ pick ! (λ η.
      use0 𝓛 (later a_row) new_row $ await ! tt $ pick ! (λ δ.
      use1 𝓛 (‵ (row δ (false ∷ []))) (row_waits 𝓛 δ []) $
      use0 𝓛 (later a_row) new_row $ await ! tt $ pick ! (λ γ.
      let id : BlockId = record { log = η; living = γ; dropping = δ } in
      use1 𝓛 (‵ (fsep (row γ (true ∷ [])) (pass γ 0 full_share))) (row_begins 𝓛 γ []) $ fsplit ! $
      -- [the row of handles; the pass; the row of drops; the log; the word; what is beside it]
      fpair ! 0 2 $ use1 𝓛 (‵ (rows id (tally_of log))) (same 𝓛 (ap (λ (hs : List Standing).
      fsep (row γ (map is_living hs)) (row δ (map is_dropping hs))) (sym one))) $
      ffact ! (Keeps x.limit.count log w) left $ fjoin ! $
      fpair ! 2 0 $ fpair ! 2 0 $ fpair ! 0 2 $ fjoin ! $ now ! $
      show ! (λ (η : BlockId). sem 𝓛 (Sole R p x η 0 w log)) id $ done !)))

  -- a new block that is marked: its log is the birth of a static block
  pub begins_marked : ent 𝓤 (sem 𝓛 (bare_block R p x (marked_word 1)))
      (H.⇛ (ex 𝓤 (λ (η : BlockId). sem 𝓛 (Sole R p x η 0 (marked_word 1) born_static))))
  begins_marked = begins_log (marked_word 1) born_static refl
      (record { runs = ((refl, refl), tt); leaves = refl })

  -- a new block's handle is the only one
  pub begins_sole : ent 𝓤 (sem 𝓛 (bare_block R p x 1))
      (H.⇛ (ex 𝓤 (λ (η : BlockId). sem 𝓛 (sole_handle R p x η 0 []))))
  begins_sole = begins_log 1 [] refl (record { runs = tt; leaves = refl })
