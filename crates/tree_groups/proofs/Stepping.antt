-- A step of a write, from what its action does at the pages as they are.
use Rattle.std.proofs.Common.{◌≡◌, ℕ, ◌+◌, ◌<◌, Bool, Option, Some, subst}
use Rattle.sled_store.specs.State.{nodes_of}
use Rattle.sled_store.specs.Store.{Store, now}
use Rattle.sled_model.specs.Maps.{Merge as Operator}
use Rattle.sled_model.specs.Refusal.{turns_limit}
use Rattle.tree_laws.specs.Forest.{Tree, Forest}
use Rattle.tree_laws.specs.Snapshot.{snapshot_of, HasForest}
use Rattle.tree_laws.specs.Stages.{owned}
use Rattle.tree_laws.proofs.Reading.{one_law}
use Rattle.sled_tree.specs.Course.{Course, course_of}
use Rattle.sled_tree.specs.Follows.{Follows}
use Rattle.sled_tree.specs.StageAction.{ActsAtMostOnce, leaks_no_page_as}
use Rattle.sled_tree.specs.Stages.{Knows}
use Rattle.sled_tree.specs.theory.StageAction.{StageActionBy, Only}
use Rattle.sled_tree.specs.declared.flight.InFlight.{InFlight}
use Rattle.sled_tree.specs.declared.flight.Sequel.{Sequel}
use Rattle.tree_groups.specs.Steps.{WriteStep, goes_on_from}

-- the forest after the action is the only one, and so the action leaves no page behind
pub one_step : (operator : Option Operator) (c : Course) (a b : Store) (f : InFlight) (n : Sequel) (numbers : Tree → Option ℕ) (given : ℕ → Bool) (w : Forest)
    → HasForest (snapshot_of a numbers given) w → numbers c.tree.name ≡ Some c.tree.number → Knows (snapshot_of a numbers given) w c f.stage
    → f.turns < turns_limit → ActsAtMostOnce a b → StageActionBy (Only operator) c a f.stage n b → Follows (course_of f) a f.stage n b → WriteStep a f n b
one_step operator c a b f n numbers given w is named knows room acts step follows = record {
  room = room;
  follows = follows;
  acts = acts;
  leaves = λ v formed.
      let r = step.is numbers given w is named knows in
      subst (λ (z : Forest). leaks_no_page_as n (owned f.stage) (now a) (now b) z) (one_law (nodes_of (now b)) (now b).roots r.0 v r.1.is.formed formed) r.3;
}

-- a call that goes on, and that is as it was but for its stage and one turn more
pub turned : (f g : InFlight) → g.job ≡ f.job → g.aim ≡ f.aim → g.turns ≡ f.turns + 1 → g ≡ goes_on_from g.stage f
turned f g job aim turns = λ i. record { job = job i; aim = aim i; stage = g.stage; turns = turns i }
