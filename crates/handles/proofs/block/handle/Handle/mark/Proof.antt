-- `mark` sets bit 63 of the word.
use Rattle.handles.proofs.Walks.{ℕ, [], ◌∷◌, refl, lit<, via, Fml, ◌$◌, !, by, keep, and_then, fact, RattleType, param}
use Rattle.handles.proofs.Walks.{fm, so, also, asks_new, logs, mark_bit, word_and_logged, word_and_logged-Good}
use Rattle.handles.proofs.Walks.{block_at, and_logged, big_lit, snd∗, word_at, made, SharedBlock, by_shared, asks_word}
use Rattle.handles.proofs.Walks.{returns_found, no_more, agg, returns_logged}
use Rattle.atomic_table.proofs.Calls.{ors}
use Rattle.counting_word.specs.WordSteps as step
use Rattle.handles.proofs.Steps.Marks.{marks, after_mark}
use Rattle.handles.specs.contracts.block.handle.Handle.mark.{clauses}
use Rattle.handles.specs.contracts.block.handle.Handle.mark.Key.{name as #self}
use Rattle.handles.proofs.block.handle.Handle.mark.Statement.{statement}
use Rattle.handles.proofs.block.handle.Handle.mark.Code as code

pub mark_spec : {M : Type 1} → statement M
mark_spec 𝓤 𝓛 𝓜 𝓡 wired T L = let R : RattleType = param 0 T in
    by_shared T 𝓛 𝓜 𝓡 (clauses T 𝓛 𝓜.mem 𝓡.returns) (λ κs a gh. snd∗ 𝓤 (fact 𝓤 _) (fact 𝓤 _)) #self code.function
    (code.unfolded 𝓤 𝓛.H 𝓜 𝓡 wired (T, tt)) refl (λ Post v. refl)
    (λ κs qs p x sole η n log b o gh Post ends l inb i e. let s : SharedBlock = block_at R p x η n i in
    let aft : ℕ → Fml = and_logged s [] (made n step.marks) (after_mark s e) in asks_new ! (via 𝓤 _ (marks 𝓛 s e)
    (ors 𝓛 𝓜 𝓡 (code.calls-core::raw_atomic::fetch_or 𝓡.env wired) (word_at p) mark_bit (lit< tt) aft)) $
    asks_word l ! (fm 𝓛 𝓜 𝓡) aft refl refl (λ Δ last. and_then ! (big_lit ! (lit< tt)) last) (λ w fits.
    logs R p x η n ! tt i e [] step.marks w (λ now adds.
    returns_found l ! refl (agg ! (no_more !)) (tt, tt) (word_and_logged-Good w fits) $ returns_logged η w ! fits now $
    keep ! (1 ∷ 2 ∷ 0 ∷ []) $
    by ! (ends (word_and_logged w) (w, record { id = η; log = now }) (also 𝓤 refl (so 𝓤 adds))))))
