use Rattle.std.proofs.Common.{◌≡◌, ◌⊎◌, inl, inr, Option, Some, None, Ok, Err, IfSome, subst, sym}
use Rattle.std.specs.Option.{ok_or}
use Rattle.scripts.specs.declared.fault.Fault.{Fault}
use Rattle.scripts.specs.declared.fault.Fault.TheVariants.{Input, Memory}
use Rattle.scripts.proofs.Runs.{IsStopped, stopped_by}
use Rattle.scripts.specs.declared.arguments.Request.{Request}
use Rattle.scripts.proofs.Showing.{did_nothing}
use Rattle.scripts.proofs.program.do_as_asked.Goals as goal

-- what is known of the request that was found
of_found : (P : Request → Type 0) (found : Option Request) (request : Request) (fault : Fault)
    → Ok request ≡ ok_or found fault → IfSome found P → P request
of_found P (Some other) request fault same is = let e : request ≡ other = cc in subst P (sym e) is
of_found P None request fault same is = absurd (cc)

read_stop : (fault : Fault) → (fault ≡ Input) ⊎ (fault ≡ Memory) → IsStopped (Err fault)
read_stop fault (inl is) = subst (λ f. IsStopped (Err f)) (sym is) tt
read_stop fault (inr is) = subst (λ f. IsStopped (Err f)) (sym is) tt

pub returns-in_err-script-clause-wrote : goal.returns-in_err-script-clause-wrote
returns-in_err-script-clause-wrote g c =
    let asked = of_found _ c.from_words.result c.in_ok-request.request _ c.in_ok-request.ensures.value
    c.from_words.ensures.asked in
    inr (did_nothing _ _ _ asked _ _ (stopped_by _ (read_stop _ c.in_err-script.ensures.fault) _
    c.from_residual-in_err-script.ensures.1))
