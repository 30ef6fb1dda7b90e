-- The maps that a crash may leave, and how a step changes the list of them.
use Rattle.std.specs.Prelude.{◌≡◌, false, List, [], ◌∷◌, ◌++◌, map}
use Rattle.sled_store.specs.Store.{Store, now}
use Rattle.sled_store.specs.Crash.{crash_states}
use Rattle.sled_model.specs.Maps.{Maps}
use Rattle.sled_model.specs.declared.call.Whole.{Whole}
use Rattle.sled_model.specs.declared.call.Whole.TheVariants.{Flush}
use Rattle.sled_model.specs.declared.outcome.Step.{Step}
use Rattle.sled_model.specs.declared.outcome.Step.TheVariants as step
use Rattle.sled_model.specs.declared.outcome.Outcome.{Outcome}
use Rattle.sled_model.specs.declared.outcome.Outcome.TheVariants.{Decided}
use Rattle.tree_laws.specs.Contents.{trees_of}
use Rattle.tree_laws.specs.Crashes.{StutterEquivalent, AddsCrashStates, Flushes}

-- these are the maps after each state that a crash may leave, the shortest beginning first, equal neighbours taken once
pub record AreCrashMaps (s : Store) (maps : List Maps) : Type 0 where
  pub is : StutterEquivalent (map trees_of (crash_states s)) maps

-- The list of maps after a step: it goes on by those that the step added, at its end. A flush that is decided makes all durable, and leaves
-- the maps now alone
abbrev pub crash_maps_after : Step → Outcome → List Maps → Maps → List Maps → List Maps
crash_maps_after (step.Whole Flush) (Decided reply) added after kept = after ∷ []
crash_maps_after s o added after kept = kept ++ added

-- What is no step of a machine, and adds states that a crash may leave, makes the list of maps go on by its own
abbrev pub ExtendedLaw : Type 0
ExtendedLaw = (added : List Maps) (a b : Store) → AddsCrashStates added a b → (kept : List Maps) → AreCrashMaps a kept → AreCrashMaps b (kept ++ added)

-- .. and a flush outside every group leaves the maps now alone
abbrev pub FlushedLaw : Type 0
FlushedLaw = (a b : Store) → Flushes a b → (now a).in_group ≡ false → AreCrashMaps b (trees_of (now a) ∷ [])
