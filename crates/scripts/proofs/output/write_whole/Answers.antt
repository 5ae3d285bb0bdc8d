use Rattle.std.proofs.Common.{◌≡◌, ◌≢◌, ◌++◌, ◌-◌, length, take, drop, ap, ◌∙◌, sym}
use Rattle.std.proofs.Common.{append_assoc, arith, length-append}
use Rattle.std.proofs.KnownBytes.{Appends-trans}
use Rattle.std.proofs.lemmas.Bool.{eqb-false}
use Rattle.std.proofs.lemmas.List.{take-append-drop, take_all, length-drop}
use Rattle.scripts.proofs.output.write_whole.Goals as goal

pub loop-preserved : goal.loop-preserved
loop-preserved g c =
    let (done, split, written) = c.loop.invariant.begun in
    let rest = c.loop.rest.now in
    let count = c.in-Ok.count in
    let all : take (length rest - count) (drop count rest) ≡ drop count rest = take_all _ (drop count rest)
    (omega (arith, length-drop count rest)) in
    let parts : rest ≡ take count rest ++ take (length rest - count) (drop count rest)
    = sym (take-append-drop count rest) ∙ ap (λ t. take count rest ++ t) (sym all) in
    let some : length rest ≢ 0 = eqb-false (length rest) 0 (sym c.is_empty.ensures ∙ c.if-is_empty.false) in
    record {
      begun = (
        done ++ take count rest,
        split ∙ ap (λ t. done ++ t)
            parts ∙ sym (append_assoc done _ _),
        Appends-trans _ _ _ done (take count rest)
            written c.in-Ok.ensures.bytes,
      );
      untouched = λ none. absurd (some (omega (arith, ap length (sym split ∙ none), length-append done rest)));
    }
