use Rattle.std.proofs.Common.{◌≡◌, [], ◌++◌, List, ℕ}
use Rattle.std.specs.Io.KnownBytes.{Appends}
use Rattle.scripts.proofs.output.write_whole.Given as goal

-- what is written, and what is left to write
abbrev pub invariant-loop : goal.invariant-loop
invariant-loop g l = record {
  begun : (done : List ℕ) × (l.bytes ≡ done ++ l.rest) × Appends (g.W.Write.contents l.initial.output)
      (g.W.Write.contents l.output) done;
  untouched : l.bytes ≡ [] → l.output ≡ l.initial.output;
}
