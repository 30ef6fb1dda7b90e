-- Runs: one step after another.
use Rattle.std.specs.Prelude.{List, [], ◌∷◌, ◌++◌}
use Rattle.sled_model.specs.Maps.{Maps}
use Rattle.sled_model.specs.Transition.{Configuration, Transition}
use Rattle.sled_model.specs.declared.outcome.Step.{Step}
use Rattle.sled_model.specs.declared.outcome.Outcome.{Outcome}

-- The steps were done in order, each with its outcome as R says, and these maps were added, those of each step in order
pub data RunsBy (R : Configuration → Step → Outcome → Configuration → List Maps → Type 0) : Configuration → List Step → List Outcome → Configuration → List Maps → Type 0 where
  NoSteps : {s : Configuration} → RunsBy R s [] [] s []
  OneMore : {a m b : Configuration} {step : Step} {steps : List Step} {outcome : Outcome} {outcomes : List Outcome} {added maps : List Maps}
      → R a step outcome m added → RunsBy R m steps outcomes b maps → RunsBy R a (step ∷ steps) (outcome ∷ outcomes) b (added ++ maps)

-- A run of the machine: the maps are those after each decided call, in order
abbrev pub Runs : Configuration → List Step → List Outcome → Configuration → List Maps → Type 0
Runs = RunsBy Transition
