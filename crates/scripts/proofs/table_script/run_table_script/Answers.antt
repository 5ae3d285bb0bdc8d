use Rattle.scripts.specs.declared.fault.Fault.TheVariants.{Memory}
use Rattle.scripts.proofs.Runs.{stopped_by}
use Rattle.scripts.proofs.Showing.{table_prints, table_stopped}
use Rattle.scripts.proofs.table_script.run_table_script.Goals as goal

pub returns-in_err-table-clause-wrote : goal.returns-in_err-table-clause-wrote
returns-in_err-table-clause-wrote g c = table_stopped _ _ _ _ (stopped_by Memory tt _ c.from_residual.ensures.1)

pub returns-clause-wrote : goal.returns-clause-wrote
returns-clause-wrote g c = table_prints (λ runner. g.T.NumberTable.slots_of runner.table)
    _ _ _ _ _ _ _ c.in_ok-table.ensures c.answer_lines.ensures.wrote
