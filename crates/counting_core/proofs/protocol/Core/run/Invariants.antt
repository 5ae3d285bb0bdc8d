use Rattle.counting_core.proofs.Names.{◌≡◌, ◌≤◌, length, take, vec_len, vec_capacity, ContinuesAll}
use Rattle.counting_core.proofs.protocol.Core.run.Given as goal

abbrev pub invariant-loop-step : goal.invariant-loop-step
invariant-loop-step g l = record {
  ran : ContinuesAll l.fn.self (take l.step-index l.steps) l.answers.items l.self;
  made : vec_len l.answers ≡ l.step-index;
  room : length l.steps ≤ vec_capacity l.answers;
}
