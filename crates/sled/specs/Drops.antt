-- Dropping a tree.
use Rattle.std.specs.Prelude.{◌≡◌, ◌≢◌, ℕ, suc, ◌+◌, ◌≤◌, Bool, true, false, not, nat_eq, filter, List, [], ◌∷◌, ◌++◌, length, get_or, map, Option, Some, None}
use Rattle.std.specs.List.{IsDistinct, concat}
use Rattle.sled_store.specs.In.{In}
use Rattle.sled_nodes.specs.Order.{Key}
use Rattle.sled_store.specs.Update.{put_name}
use Rattle.sled_nodes.specs.Node.{without}
use Rattle.sled_store.specs.State.{RootBecomes, PageBecomes}
use Rattle.sled_store.specs.Store.{Store, now}
use Rattle.sled_nodes.specs.declared.error.Error.{Error}
use Rattle.sled_nodes.specs.declared.error.Error.TheVariants.{Unsupported, Io, NoMemory, Closed}
use Rattle.sled_nodes.specs.declared.texts.TheConstants.{CORE_STRUCTURES}
use Rattle.sled_model.specs.Maps.{Merge}
use Rattle.sled_model.specs.State.{NamedTree, CallInFlight, maps_of, default_name}
use Rattle.sled_model.specs.Refusal.{must_refuse_of}
use Rattle.tree_laws.specs.Forest.{Forest, place}
use Rattle.tree_laws.specs.Crashes.{AddsCrashStates}
use Rattle.tree_laws.specs.Snapshot.{Snapshot, HasForest}
use Rattle.sled_tree.specs.Known.{IsKnown}
use Rattle.sled_tree.specs.declared.flight.InFlight.{InFlight}
use Rattle.tree_pages.specs.Drops.{IsBeginning}
use Rattle.sled.specs.Values.{DbValue, db_state, state_of, snapshot_of_db}
use Rattle.sled.specs.Sound.{IsDb}
use Rattle.sled.specs.Flights.{IsStepRefused, KeepsTreePages}
use Rattle.sled.specs.Direct.{LeavesAll}

-- The root of the name goes, which decides, and then pages do that were in the chains of the tree, each once: level by level from the
-- leaves up, and of each level a beginning of its chain. Faults may be counted, and nothing else of the store changes. If a
-- level ends early is not said, since a refusal there is not returned
pub record RemovesTree (name : Key) (m : Snapshot) (old new : Store) : Type 0 where
  pub levels : List (List ℕ)
  pub begins : (w : Forest) → HasForest m w → (h : ℕ) → IsBeginning (get_or levels h []) (w.chain (place name h))
  pub each : (w : Forest) → HasForest m w → (p : ℕ) → In p (concat levels) → (h : ℕ) × In p (w.chain (place name h))
  pub once : IsDistinct nat_eq (concat levels)
  pub faults : ℕ
  pub counts : old.faults ≤ faults
  pub is : new ≡ record old { recent = old.recent ++ RootBecomes name None ∷ map (λ p. PageBecomes p None) (concat levels); actions = old.actions + suc (length (concat levels)); faults = faults }

module _ {P M : Type 0} (store : P → Store) (meant : M → Merge) (old : DbValue P M) (name : Key) where
  -- There is a tree of this name, and it goes, with its number and its operator
  pub record DropsNamed (new : DbValue P M) : Type 0 where
    pub tree : NamedTree
    pub there : (db_state store meant old).trees name ≡ Some tree
    -- the name has no tree, and all else is as before
    pub state : (slots : ℕ → Option CallInFlight) (slots_given : ℕ) → state_of store meant new slots slots_given ≡ record (state_of store meant old slots slots_given) { trees = put_name (db_state store meant old).trees name None }
    pub same : new ≡ record old { pages = new.pages; trees = without name old.trees; operators = filter (λ o. not (nat_eq o.0 tree.number)) old.operators }
    pub removes : RemovesTree name (snapshot_of_db store old) (store old.pages) (store new.pages)
    -- what a crash may leave grows by the maps without the tree
    pub extends : AddsCrashStates (maps_of (db_state store meant new) ∷ []) (store old.pages) (store new.pages)
    -- what every call in flight knows stays true, and no page of another tree is lost
    pub others : (h : InFlight) → IsKnown (snapshot_of_db store old) h → IsKnown (snapshot_of_db store new) h
    pub loses : KeepsTreePages (Some name) (snapshot_of_db store old) (snapshot_of_db store new)
    pub sound : IsDb store old → IsDb store new

  abbrev pub drops_as : Bool → DbValue P M → Type 0
  drops_as true new = DropsNamed new
  drops_as false new = ((db_state store meant old).trees name ≡ None) × (new ≡ old)

  -- The database was open, and the name is not the default tree's. There was a tree of the name and it was dropped, or there was none and
  -- nothing was done
  pub record DropsTree (dropped : Bool) (new : DbValue P M) : Type 0 where
    pub free : must_refuse_of (db_state store meant old) [] ≡ None
    pub off : name ≢ default_name
    pub is : drops_as dropped new

  -- a tree of this name might be dropped
  pub record MightDrop : Type 0 where
    pub free : must_refuse_of (db_state store meant old) [] ≡ None
    pub off : name ≢ default_name
    pub tree : NamedTree
    pub there : (db_state store meant old).trees name ≡ Some tree

  -- of the pages after it
  abbrev pub refuses_drop_as : Error → P → Type 0
  refuses_drop_as Closed q = ((now (store old.pages)).in_group ≡ true) × (q ≡ old.pages)
  refuses_drop_as (Unsupported text) q = (must_refuse_of (db_state store meant old) [] ≡ None) × (text.now ≡ CORE_STRUCTURES.now) × (name ≡ default_name) × (q ≡ old.pages)
  refuses_drop_as NoMemory q = MightDrop × (store q ≡ store old.pages)
  refuses_drop_as (Io fault) q = MightDrop × IsStepRefused (Io fault) (store old.pages) (store q)
  refuses_drop_as e q = ⊥

  -- The database is closed; or the name is the default tree's; or the store refuses, or memory is wanting, before the root goes. Nothing
  -- changes, but that a fault may be counted
  pub record RefusesDrop (e : Error) (new : DbValue P M) : Type 0 where
    pub is : refuses_drop_as e new.pages
    pub same : new ≡ record old { pages = new.pages }
    pub state : (slots : ℕ → Option CallInFlight) (slots_given : ℕ) → state_of store meant new slots slots_given ≡ state_of store meant old slots slots_given
    pub leaves : LeavesAll store [] None old new
