-- `read` is one load of the word.
use Rattle.handles.proofs.Walks.{ℕ, [], ◌∷◌, refl, via, Fml, ◌$◌, !, by, keep, fact, RattleType, param, fm, Right}
use Rattle.handles.proofs.Walks.{word_and_permit, one_word-Good, word_and_permit-Good, permit_at, so, also, asks_new}
use Rattle.handles.proofs.Walks.{reports, reads, after_read, right_by_read, block_at, and_logged, snd∗, word_at}
use Rattle.handles.proofs.Walks.{SharedBlock, made, newest, read-NoBlock, by_shared, asks_word, returns_found, sym, ap}
use Rattle.handles.proofs.Walks.{no_more, and_then, get, is, agg, at_block, one_word, returns_permit}
use Rattle.atomic_table.proofs.Calls.{loads}
use Rattle.counting_word.specs.WordSteps as step
use Rattle.handles.specs.contracts.block.handle.Handle.read.{clauses}
use Rattle.handles.specs.contracts.block.handle.Handle.read.Key.{name as #self}
use Rattle.handles.proofs.block.handle.Handle.read.Statement.{statement}
use Rattle.handles.proofs.block.handle.Handle.read.Code as code

pub read_spec : {M : Type 1} → statement M
read_spec 𝓤 𝓛 𝓜 𝓡 wired T L = let R : RattleType = param 0 T in
    by_shared T 𝓛 𝓜 𝓡 (clauses T 𝓛 𝓜.mem 𝓡.returns) (λ κs a gh. snd∗ 𝓤 (fact 𝓤 _) (fact 𝓤 _)) #self code.function
    (code.unfolded 𝓤 𝓛.H 𝓜 𝓡 wired (T, tt)) refl (λ Post v. refl)
    (λ κs qs p x sole η n log b o gh Post ends l inb i e. let s : SharedBlock = block_at R p x η n i in
    let aft : ℕ → Fml = and_logged s [] (made n step.reads) (after_read s e) in asks_new ! (via 𝓤 _ (reads 𝓛 s e)
    (loads 𝓛 𝓜 𝓡 (code.calls-core::raw_atomic::load 𝓡.env wired) (word_at p) aft)) $
    asks_word l ! (fm 𝓛 𝓜 𝓡) aft refl refl (λ Δ last. last) (λ w fits. let r : Right = right_by_read w in
    reports R p x η n ! tt inb i e r (read-NoBlock w) [] step.reads w (λ within now adds. let m : ℕ = newest now in
    returns_found l ! refl (is ! (agg ! (and_then ! (get ! refl) (no_more !))) (ap one_word (sym (at_block p inb))))
    (one_word-Good p) (word_and_permit-Good w fits p) $ returns_permit R p x η m ! w fits r now $
    keep ! (1 ∷ 2 ∷ 0 ∷ []) $ by ! (ends (word_and_permit w p) (w, permit_at R p x r η m now)
    (also 𝓤 refl (also 𝓤 refl (also 𝓤 within (also 𝓤 refl (also 𝓤 refl (also 𝓤 refl (so 𝓤 adds)))))))))))
