-- What a step makes of the map of a tree, by the events that come to it.
use Rattle.std.specs.Prelude.{◌≡◌, ◌≤◌, Bool, true, false, List, Some}
use Rattle.std.specs.Str.{bytes_eq}
use Rattle.sled_nodes.specs.Order.{Key}
use Rattle.sled_model.specs.Maps.{Maps}
use Rattle.sled_model.specs.State.{State, NamedTree}
use Rattle.sled_model.specs.Transition.{Configuration, transition_as}
use Rattle.sled_model.specs.declared.call.Whole.TheVariants.{DropTree}
use Rattle.sled_model.specs.declared.outcome.Step.{Step}
use Rattle.sled_model.specs.declared.outcome.Step.TheVariants as step
use Rattle.sled_model.specs.declared.outcome.Outcome.{Outcome}
use Rattle.sled_model.specs.declared.outcome.Outcome.TheVariants.{Decided}
use Rattle.sled_queues.specs.Events.{Turn}
use Rattle.sled_queues.specs.Copies.{after_events, came_to}
use Rattle.sled_queues.specs.Turns.{turns_of}

-- each tree has a number that was given, and no two have the same
pub record AreNumbered (s : State) : Type 0 where
  pub given : (name : Key) (t : NamedTree) → s.trees name ≡ Some t → t.number ≤ s.trees_given
  pub apart : (a b : Key) (t u : NamedTree) → s.trees a ≡ Some t → s.trees b ≡ Some u → t.number ≡ u.number → a ≡ b

-- the step drops the tree of this name, if there is one
abbrev pub drops : Key → Step → Outcome → Bool
drops name (step.Whole (DropTree dropped)) (Decided reply) = bytes_eq name dropped
drops name s o = false

-- the name has the same tree still, and its map is what these events made of it
pub record IsTreeAfter (name : Key) (t : NamedTree) (turns : List Turn) (new : State) : Type 0 where
  pub tree : NamedTree
  pub there : new.trees name ≡ Some tree
  pub number : tree.number ≡ t.number
  pub map : tree.map ≡ after_events (came_to t.number turns) t.map

-- The trees are numbered still; and if the database is open after it, each that is not dropped has the map that the events which came to
-- it made
pub record TellsTrees (old : State) (s : Step) (o : Outcome) (turns : List Turn) (new : State) : Type 0 where
  pub numbered : AreNumbered new
  pub maps : new.is_open ≡ true → (name : Key) (t : NamedTree) → old.trees name ≡ Some t → drops name s o ≡ false → IsTreeAfter name t turns new

abbrev pub TreesLaw : Type 0
TreesLaw = (old : Configuration) (s : Step) (o : Outcome) (new : Configuration) (maps : List Maps) (t : transition_as old s o new maps)
    → AreNumbered old.state → TellsTrees old.state s o (turns_of old s o new maps t) new.state
