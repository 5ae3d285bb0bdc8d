-- The answers to the lines of a core's script: words, and a number after them, if there is one.
use Rattle.std.specs.Prelude.{ℕ, true, false, List, Option, Some, None, codes}
use Rattle.counting_core.specs.declared.step.Answer.{Answer}
use Rattle.counting_core.specs.declared.step.Answer.TheVariants.{Born, Full, Pending, Quit, Ended, GivenUp, Marked, Is}
use Rattle.counting_core.specs.declared.step.Answer.TheVariants.{Alone, Sole, Shared, Done, Value, Memory, Barred}

abbrev pub printed_answer : Answer ℕ → List ℕ × Option ℕ
printed_answer (Born handle) = (codes "born ", Some handle)
printed_answer Full = (codes "full", None)
printed_answer Pending = (codes "pending", None)
printed_answer Quit = (codes "quit", None)
printed_answer Ended = (codes "ended", None)
printed_answer (GivenUp value) = (codes "given up ", Some value)
printed_answer Marked = (codes "marked", None)
printed_answer (Is true) = (codes "is true", None)
printed_answer (Is false) = (codes "is false", None)
printed_answer Alone = (codes "alone", None)
printed_answer Sole = (codes "sole", None)
printed_answer Shared = (codes "shared", None)
printed_answer Done = (codes "done", None)
printed_answer (Value value) = (codes "value ", Some value)
printed_answer Memory = (codes "memory", None)
printed_answer Barred = (codes "barred", None)
