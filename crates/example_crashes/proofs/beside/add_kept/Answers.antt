use Rattle.std.proofs.Common.{◌∙◌, sym, subst, IfSome}
use Rattle.example_crashes.specs.theory.Raised.{HasRaised}
use Rattle.example_crashes.proofs.Handles.{pushed}
use Rattle.example_crashes.proofs.beside.add_kept.Goals as goal

pub returns-in-Some : goal.returns-in-Some
returns-in-Some g c = λ so tree key times one all. pushed (HasRaised tree key times) _ _ _ _ (sym c.is_ok.ensures.value ∙ so) c.push.ensures.items all (subst (λ o. IfSome o (HasRaised tree key times)) c.in-Some.is one)
