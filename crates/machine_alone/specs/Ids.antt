-- The ids that steps give.
use Rattle.std.specs.Prelude.{ℕ, ◌<◌, ◌≤◌, List, [], ◌∷◌, ◌++◌}
use Rattle.sled_model.specs.declared.call.Whole.{Whole}
use Rattle.sled_model.specs.declared.call.Whole.TheVariants.{GenerateId}
use Rattle.sled_model.specs.declared.outcome.Step.{Step}
use Rattle.sled_model.specs.declared.outcome.Step.TheVariants as step
use Rattle.sled_model.specs.declared.outcome.Outcome.{Outcome}
use Rattle.sled_model.specs.declared.outcome.Outcome.TheVariants.{Decided}
use Rattle.sled_model.specs.declared.reply.Reply.{Reply}
use Rattle.sled_model.specs.declared.reply.Reply.TheVariants.{Number}

-- the id that a decided whole call gave, if it gave one
abbrev pub id_of_whole : Whole → Reply → List ℕ
id_of_whole GenerateId (Number id) = id ∷ []
id_of_whole whole reply = []

-- the id that a step gave, if it gave one
abbrev pub id_of : Step → Outcome → List ℕ
id_of (step.Whole whole) (Decided reply) = id_of_whole whole reply
id_of s o = []

-- the ids that steps gave, in their order
abbrev pub ids_of : List Step → List Outcome → List ℕ
ids_of [] outcomes = []
ids_of (s ∷ steps) [] = []
ids_of (s ∷ steps) (o ∷ outcomes) = id_of s o ++ ids_of steps outcomes

-- each of these numbers is above those before it; they are above the one and at most the other
abbrev pub RiseBetween : ℕ → List ℕ → ℕ → Type 0
RiseBetween low [] high = low ≤ high
RiseBetween low (id ∷ ids) high = (low < id) × RiseBetween id ids high
