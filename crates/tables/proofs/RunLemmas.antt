-- Whole runs.
use Rattle.std.proofs.Common.{List, [], ◌∷◌, ◌++◌, subst, refl}
use Rattle.commands.specs.declared.Reply.{Reply}
use Rattle.commands.specs.Runs.{IsAmong, Means, Run}

module _ {C X : Type 0} (meaning : C → Means X) where
  -- a run goes on by one command
  pub run_more : (commands : List C) (old : X) (replies : List Reply) (mid new : X) (command : C) (reply : Reply)
      → Run meaning commands old replies mid → IsAmong (meaning command mid)
      reply new → Run meaning (commands ++ command ∷ []) old (replies ++ reply ∷ []) new
  run_more [] old [] mid new command reply run step = (
    new,
    subst (λ m. IsAmong (meaning command m) reply new)
        run step,
    refl,
  )
  run_more (c ∷ cs) old (r ∷ rs)
      mid new command reply run step = (run.0, run.1, run_more cs run.0 rs mid new command reply run.2 step)
  run_more [] old (r ∷ rs) mid new command reply run step = absurd run
  run_more (c ∷ cs) old [] mid new command reply run step = absurd run
