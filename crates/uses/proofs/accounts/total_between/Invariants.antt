use Rattle.std.proofs.Common.{◌≡◌, ◌+◌}
use Rattle.uses.specs.Bank.{total}
use Rattle.uses.proofs.accounts.total_between.Given as goal

-- the sum so far and the rest are the whole
abbrev pub invariant-loop-account : goal.invariant-loop-account
invariant-loop-account l = l.sum + total l.account-iterator ≡ total l.initial.account-iterator
