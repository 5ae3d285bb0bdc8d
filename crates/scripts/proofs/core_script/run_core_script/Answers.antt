use Rattle.scripts.proofs.Showing.{core_prints, core_stopped}
use Rattle.scripts.proofs.core_script.run_core_script.Goals as goal

pub returns-in_default-clause-wrote : goal.returns-in_default-clause-wrote
returns-in_default-clause-wrote g c = core_stopped _ _ c.requires.limit _ _ _ tt

pub returns-clause-wrote : goal.returns-clause-wrote
returns-clause-wrote g c = core_prints (λ runner. runner.core)
    _ _ _ _ _ _ _ _ c.in-Ok.ensures.opened c.answer_lines.ensures.wrote
