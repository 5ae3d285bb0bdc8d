-- `word` is one load of the word, which only asks.
use Rattle.handles.proofs.Walks.{ℕ, [], ◌∷◌, refl, via, Fml, ◌$◌, !, by, keep, fact, RattleType, param, fm, so, also}
use Rattle.handles.proofs.Walks.{asks_new, logs, word_and_logged, word_and_logged-Good, block_at, and_logged, asks}
use Rattle.handles.proofs.Walks.{a_share, snd∗, word_at, made, SharedBlock, by_shared, asks_word, returns_found}
use Rattle.handles.proofs.Walks.{no_more, agg, returns_logged}
use Rattle.atomic_table.proofs.Calls.{loads}
use Rattle.counting_word.specs.WordSteps as step
use Rattle.handles.specs.contracts.block.handle.Handle.word.{clauses}
use Rattle.handles.specs.contracts.block.handle.Handle.word.Key.{name as #self}
use Rattle.handles.proofs.block.handle.Handle.word.Statement.{statement}
use Rattle.handles.proofs.block.handle.Handle.word.Code as code

pub word_spec : {M : Type 1} → statement M
word_spec 𝓤 𝓛 𝓜 𝓡 wired T L = let R : RattleType = param 0 T in
    by_shared T 𝓛 𝓜 𝓡 (clauses T 𝓛 𝓜.mem 𝓡.returns) (λ κs a gh. snd∗ 𝓤 (fact 𝓤 _) (fact 𝓤 _)) #self code.function
    (code.unfolded 𝓤 𝓛.H 𝓜 𝓡 wired (T, tt)) refl (λ Post v. refl)
    (λ κs qs p x sole η n log b o gh Post ends l inb i e. let s : SharedBlock = block_at R p x η n i in
    let aft : ℕ → Fml = and_logged s [] (made n step.asks) (λ _ _. a_share s e) in asks_new ! (via 𝓤 _ (asks 𝓛 s e)
    (loads 𝓛 𝓜 𝓡 (code.calls-core::raw_atomic::load 𝓡.env wired) (word_at p) aft)) $
    asks_word l ! (fm 𝓛 𝓜 𝓡) aft refl refl (λ Δ last. last) (λ w fits.
    logs R p x η n ! tt i e [] step.asks w (λ now adds.
    returns_found l ! refl (agg ! (no_more !)) (tt, tt) (word_and_logged-Good w fits) $ returns_logged η w ! fits now $
    keep ! (1 ∷ 2 ∷ 0 ∷ []) $
    by ! (ends (word_and_logged w) (w, record { id = η; log = now }) (also 𝓤 refl (so 𝓤 adds))))))
