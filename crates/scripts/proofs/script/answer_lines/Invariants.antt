use Rattle.std.proofs.Common.{ℕ, ◌+◌, ◌≤◌, List, length}
use Rattle.std.specs.Io.KnownBytes.{Appends}
use Rattle.scripts.proofs.Runs.{SoFar}
use Rattle.scripts.proofs.script.answer_lines.Given as goal

abbrev pub invariant-loop-line : goal.invariant-loop-line
invariant-loop-line g l = record {
  so_far : (written : List ℕ)
      × SoFar g.I.Interpreter.answers g.I.Interpreter.is_faulty l.initial.interpreter l.script l.number
      written l.part.items l.interpreter l.rest
      × Appends (g.W.Write.contents l.initial.output) (g.W.Write.contents l.output) written;
  in_range : l.number + length l.rest ≤ length l.script;
}

abbrev pub decreases-loop-line : goal.decreases-loop-line
decreases-loop-line g l = length l.rest
