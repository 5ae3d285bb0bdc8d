use Rattle.std.proofs.Common.{◌≡◌}
use Rattle.test_calls.proofs.threads.count_threads.churn.Given as goal

abbrev pub invariant-loop : goal.invariant-loop
invariant-loop g l = l.pass.count ≡ l.count
