-- What holds of the calls in flight between two steps.
use Rattle.std.specs.Prelude.{◌≡◌, ℕ, ◌≤◌}
use Rattle.sled_store.specs.In.{In}
use Rattle.sled_model.specs.State.{IsOnKey}
use Rattle.sled_model.specs.declared.TheConstants.{MAX_LOOPS}
use Rattle.tree_laws.specs.Forest.{Forest}
use Rattle.tree_laws.specs.Snapshot.{Snapshot, HasForest}
use Rattle.tree_laws.specs.Stages.{owned}
use Rattle.sled_tree.specs.Course.{course_of, IsAimed}
use Rattle.sled_tree.specs.Stages.{Knows}
use Rattle.sled_tree.specs.declared.flight.InFlight.{InFlight}
use Rattle.tree_laws.specs.declared.flight.Stage.TheVariants.{Root}

-- What a call in flight knows of the pages is true at this moment, a call on a key aims at it, and a call has no more turns than it
-- may have. Without a turn a call on a key has yet to begin
pub record IsKnown (m : Snapshot) (f : InFlight) : Type 0 where
  pub is : (w : Forest) → HasForest m w → Knows m w (course_of f) f.stage
  pub aimed : IsAimed (course_of f)
  pub fits : f.turns ≤ MAX_LOOPS
  pub begins : IsOnKey f.job.call → f.turns ≡ 0 → f.stage ≡ Root

-- no page is the two calls' own
pub record AreApart (f g : InFlight) : Type 0 where
  pub off : (q : ℕ) → In q (owned f.stage) → In q (owned g.stage) → ⊥
