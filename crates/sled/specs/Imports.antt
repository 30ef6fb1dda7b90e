-- The outcome of an import of collections, and its steps.
use Rattle.std.specs.Prelude.{◌≡◌, ◌≢◌, ◌⊎◌, ℕ, List, [], ◌∷◌, Option, Some, None}
use Rattle.sled_nodes.specs.Order.{Key}
use Rattle.sled_store.specs.Store.{Store}
use Rattle.sled_nodes.specs.declared.error.Error.{Error}
use Rattle.sled_model.specs.Maps.{Maps, Merge}
use Rattle.sled_model.specs.Collections.{Content}
use Rattle.sled_model.specs.Imports.{Part, OpensName, Puts, tree_at, Imports, Stop, HasAt, overwrites_as, StopsAtPart}
use Rattle.sled_model.specs.State.{CallInFlight}
use Rattle.sled_model.specs.Refusal.{must_refuse_of, cause_of_import, may_refuse_as}
use Rattle.sled_model.specs.declared.call.Call.TheVariants.{Insert}
use Rattle.sled_model.specs.declared.reply.Reply.{Reply}
use Rattle.tree_reads.specs.Walk.{once}
use Rattle.sled.specs.Values.{DbValue, state_of, db_state}
use Rattle.sled.specs.Reads.{RefusesReading, GivesUpGet}
use Rattle.sled.specs.Direct.{LeavesAll, PointDecided, PointRefused, effects_until}
use Rattle.sled.specs.Opens.{OpensBySteps, OpenRefusedBySteps}

-- an import changes the pages, the queues and the list of trees
abbrev pub grows_trees : {P M : Type 0} → DbValue P M → DbValue P M → Type 0
grows_trees old new = new ≡ record old { pages = new.pages; queues = new.queues; trees = new.trees; trees_given = new.trees_given }

module _ {P M : Type 0} (store : P → Store) (meant : M → Merge) where
  -- An import of these collections was decided, in whatever machine the database is
  pub record ImportDecided (old : DbValue P M) (all : List Content) (new : DbValue P M) : Type 0 where
    pub maps : List Maps
    pub decides : (slots : ℕ → Option CallInFlight) (slots_given : ℕ) → Imports (state_of store meant old slots slots_given) all (state_of store meant new slots slots_given) maps
    pub acts : effects_until None (store old.pages) (store new.pages)
    pub leaves : LeavesAll store maps None old new
    pub same : grows_trees old new

  abbrev pub part_by_steps_as : DbValue P M → Part → DbValue P M → Type 0
  part_by_steps_as old (OpensName name) new = OpensBySteps store name old new
  part_by_steps_as old (Puts name key value) new = (reply : Reply) × PointDecided store meant old (tree_at (db_state store meant old) name) (Insert key value) reply new

  -- a part was done by the steps of an opening or of an insert
  pub record PartBySteps (old : DbValue P M) (part : Part) (new : DbValue P M) : Type 0 where
    pub is : part_by_steps_as old part new

  -- it could not be read whether a pair's key is present, and nothing changed
  pub record PairUnread (old : DbValue P M) (name key : Key) (e : Error) (new : DbValue P M) : Type 0 where
    pub refuses : RefusesReading store meant old (tree_at (db_state store meant old) name) once e
    pub gives_up : GivesUpGet store meant old (tree_at (db_state store meant old) name) key e
    pub same : new ≡ old

  -- the key is absent, and the insert was refused
  pub record PairUnput (old : DbValue P M) (name key value : Key) (e : Error) (new : DbValue P M) : Type 0 where
    pub absent : HasAt (db_state store meant old) name key None
    pub refused : PointRefused store meant old (tree_at (db_state store meant old) name) (Insert key value) e new

  abbrev pub part_refused_by_steps_as : DbValue P M → Part → Error → DbValue P M → Type 0
  part_refused_by_steps_as old (OpensName name) e new = OpenRefusedBySteps store name old e new
  part_refused_by_steps_as old (Puts name key value) e new = (overwrites_as (db_state store meant old) name key e × (new ≡ old)) ⊎ (PairUnread old name key e new ⊎ PairUnput old name key value e new)

  -- .. or it was refused: at one of these steps, or, of a pair, also before them: as its key was looked for, or since it is present
  pub record PartRefusedBySteps (old : DbValue P M) (part : Part) (e : Error) (new : DbValue P M) : Type 0 where
    pub is : part_refused_by_steps_as old part e new

-- Parts were done one after the other, each by its steps
pub data ImportsBySteps {P M : Type 0} (store : P → Store) (meant : M → Merge) : DbValue P M → List Part → DbValue P M → Type 0 where
  ImportsNone : {db : DbValue P M} → ImportsBySteps store meant db [] db
  ImportsMore : {old mid new : DbValue P M} {part : Part} {parts : List Part} → PartBySteps store meant old part mid → ImportsBySteps store meant mid parts new → ImportsBySteps store meant old (part ∷ parts) new

module _ {P M : Type 0} (store : P → Store) (meant : M → Merge) where
  -- An import stopped at one part, of which both the state and the steps speak: those before it led to `mid` and added these maps,
  -- and it was refused there and left the state as it was
  pub record ImportStops (old : DbValue P M) (all : List Content) (e : Error) (new : DbValue P M) (maps : List Maps) : Type 0 where
    pub stop : Stop
    pub mid : DbValue P M
    pub state : (slots : ℕ → Option CallInFlight) (slots_given : ℕ) → StopsAtPart (state_of store meant old slots slots_given) (store old.pages) (store new.pages) all stop e (state_of store meant mid slots slots_given) maps
    pub stays : (slots : ℕ → Option CallInFlight) (slots_given : ℕ) → state_of store meant new slots slots_given ≡ state_of store meant mid slots slots_given
    pub did : ImportsBySteps store meant old stop.done mid
    pub refused : PartRefusedBySteps store meant mid stop.next e new

  -- An import was refused: before its first part, and then it did nothing, or at a part
  pub record ImportRefused (old : DbValue P M) (all : List Content) (e : Error) (new : DbValue P M) : Type 0 where
    pub maps : List Maps
    pub refuses : (may_refuse_as (must_refuse_of (db_state store meant old) []) (cause_of_import all) e × (new ≡ old) × (maps ≡ [])) ⊎ ImportStops old all e new maps
    pub acts : effects_until (Some e) (store old.pages) (store new.pages)
    pub leaves : LeavesAll store maps None old new
    pub same : grows_trees old new
    -- by a test, and then it did nothing
    pub tested : must_refuse_of (db_state store meant old) [] ≢ None → new ≡ old
