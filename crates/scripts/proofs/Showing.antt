-- A run over runners shows as a run over traces of their cores, or over the slots of their tables.
use Rattle.std.proofs.Common.{◌≡◌, ℕ, List, [], None, Some, Option, IfSome, ap, inl, inr, refl, subst, replicate}
use Rattle.std.proofs.Common.{arith}
use Rattle.std.proofs.Common.{◌∷◌, ◌<◌}
use Rattle.std.proofs.KnownBytes.{Appends-nil}
use Rattle.counting_word.specs.CountingWord.{IsLimit}
use Rattle.counting_core.specs.Represents.{CoreState, Represents}
use Rattle.counting_core.specs.Trace.{Open, Then}
use Rattle.commands.specs.declared.Reply.{Reply}
use Rattle.commands.specs.Runs.{IsAmong}
use Rattle.commands.specs.TableModel.{Slots, if_filled}
use Rattle.scripts.specs.Fault.{Outcome, PrintsUpTo}
use Rattle.scripts.specs.Line.{IsInvalid}
use Rattle.scripts.specs.Written.{Wrote}
use Rattle.scripts.proofs.Runs.{IsStopped, prints_shown, stopped_at_once}
use Rattle.scripts.specs.Arguments.{AskLimit, Asks}
use Rattle.scripts.specs.CoreScript.{CoreAnswers, TraceAnswers, PrintsLegalTrace}
use Rattle.scripts.specs.Program.{PrintsAsAsked, DidAsAsked}
use Rattle.scripts.specs.StepLine.{step_line}
use Rattle.scripts.specs.TableAnswer.{printed_reply, printed_slot}
use Rattle.scripts.specs.TableLine.{table_line}
use Rattle.scripts.specs.TableScript.{TableAnswers, PrintsModelTable}
use Rattle.scripts.specs.declared.arguments.Request.{Request}
use Rattle.scripts.specs.declared.arguments.Request.TheVariants.{Core, Table}

-- a core that starts as a new one prints a legal trace
pub core_prints : {S : Type 0} (core : S → CoreState ℕ) (owners limit : ℕ) (script : List ℕ) (outcome : Outcome)
    (old new : S) (held holds : Option (List ℕ)) → Represents (core old) (Open 5 owners limit)
    → Wrote (λ text. PrintsUpTo (λ old line text new. CoreAnswers (core old) line text (core new))
    (IsInvalid step_line) old script outcome text new) held holds
    → Wrote (PrintsLegalTrace owners limit script outcome) held holds
core_prints core owners limit script outcome old new held holds opened (text, prints, appended) =
    let (trace, prints', represents) = prints_shown _ TraceAnswers (IsInvalid step_line)
    (λ s trace. Represents (core s) trace)
    (λ old new trace line text represents (step, parses, answer, continues, text_is).
    (Then trace step answer, (step, parses, answer, refl, text_is), continues trace represents))
    script outcome text old new (Open 5 owners limit) opened prints in
    (text, record { trace = trace; legal = represents.legal; prints = prints' }, appended)

-- a table that starts empty prints what its model does
pub table_prints : {S : Type 0} (table : S → Slots ℕ) (slots : ℕ) (script : List ℕ) (outcome : Outcome)
    (old new : S) (held holds : Option (List ℕ)) → table old ≡ replicate slots None
    → Wrote (λ text. PrintsUpTo (λ old line text new. TableAnswers (table old) line text (table new))
    (IsInvalid table_line) old script outcome text new) held holds
    → Wrote (PrintsModelTable slots script outcome) held holds
table_prints table slots script outcome old new held holds empty (text, prints, appended) =
    let (left, prints', shown) = prints_shown _ TableAnswers (IsInvalid table_line) (λ s left. table s ≡ left)
    (λ old new left line text shown answered.
    (table new, subst (λ now. TableAnswers now line text (table new)) shown answered, refl))
    script outcome text old new (replicate slots None) empty prints in
    (text, record { left = left; prints = prints' }, appended)

-- a slot with nothing to read is answered by the reply of a command that reads it
pub missing_shown : (slots : Slots ℕ) (slot : Option (Option ℕ)) (reply : Reply)
    → IsAmong (if_filled slots slot (λ _. [])) reply slots → printed_reply reply ≡ printed_slot slot
missing_shown slots None reply (inl among) = ap printed_reply among.0
missing_shown slots None reply (inr none) = absurd none
missing_shown slots (Some None) reply (inl among) = ap printed_reply among.0
missing_shown slots (Some None) reply (inr none) = absurd none
missing_shown slots (Some (Some value)) reply none = absurd none

-- a limit that is asked for is one that a block may have
asked_limit : (words : List (List ℕ)) (limit : ℕ) → AskLimit words limit → IsLimit limit
asked_limit [] limit is = let greatest : limit ≡ 9223372036854775807 = is in (omega arith, omega arith)
asked_limit (word ∷ []) limit asks = let small : limit < 4294967296 = asks.0.1 in (asks.1, omega arith)
asked_limit (word ∷ other ∷ words) limit asks = absurd asks

-- if nothing was run, nothing was printed
pub core_stopped : (owners limit : ℕ) → IsLimit limit → (script : List ℕ) (outcome : Outcome)
    (held : Option (List ℕ)) → IsStopped outcome → Wrote (PrintsLegalTrace owners limit script outcome) held held
core_stopped owners limit is_limit script outcome held stop = (
  [],
  record { trace = Open 5 owners limit; legal = is_limit; prints = stopped_at_once _ _ _ _ outcome stop },
  Appends-nil held,
)

pub table_stopped : (slots : ℕ) (script : List ℕ) (outcome : Outcome) (held : Option (List ℕ))
    → IsStopped outcome → Wrote (PrintsModelTable slots script outcome) held held
table_stopped slots script outcome held stop = (
  [],
  record { left = replicate slots None; prints = stopped_at_once _ _ _ _ outcome stop },
  Appends-nil held,
)

pub did_nothing : (words : List (List ℕ)) (input : Option (List ℕ)) (request : Request) → Asks words request
    → (outcome : Outcome) (held : Option (List ℕ)) → IsStopped outcome → DidAsAsked words input outcome held held
did_nothing words input request asks outcome held stop = record {
  request = request;
  asks = asks;
  wrote = nothing input;
}
  where
    printed : (request : Request) → Asks words request → (script : List ℕ)
        → Wrote (PrintsAsAsked request script outcome) held held
    printed (Core owners limit) asks script =
        core_stopped owners limit (asked_limit asks.0 limit asks.4) script outcome held stop
    printed (Table slots) asks script = table_stopped slots script outcome held stop

    nothing : (input : Option (List ℕ))
        → IfSome input (λ script. Wrote (PrintsAsAsked request script outcome) held held)
    nothing (Some script) = printed request asks script
    nothing None = tt
