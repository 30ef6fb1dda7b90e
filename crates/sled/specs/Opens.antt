-- What opening a database does.
use Rattle.std.specs.Prelude.{◌≡◌, ℕ, ◌+◌, ◌*◌, ◌≤◌, ◌⊎◌, true, false, List, [], ◌∷◌, length, Option, Some, None, is_some, if◌then◌else◌}
use Rattle.std.specs.FinMap.Entries.{is_sorted}
use Rattle.std.specs.Str.{bytes_eq}
use Rattle.std.specs.declared.ops.Bound.TheVariants.{Included}
use Rattle.sled_nodes.specs.Order.{Key, key_cmp}
use Rattle.sled_store.specs.Store.{Store, now, after_action, Allocates, IsRefused, AreGiven}
use Rattle.sled_store.specs.State.{State, RootBecomes}
use Rattle.sled_nodes.specs.declared.node.Node.{Node}
use Rattle.sled_nodes.specs.declared.node.Data.TheVariants as kind
use Rattle.sled_store.specs.Crash.{crash_states}
use Rattle.sled_store.specs.Faults.{IsFault}
use Rattle.sled_nodes.specs.declared.error.Error.{Error}
use Rattle.sled_model.specs.Maps.{Map, Maps}
use Rattle.sled_model.specs.State.{default_name}
use Rattle.tree_laws.specs.Contents.{trees_of}
use Rattle.tree_laws.specs.Crashes.{IsValid, AddsCrashStates, Flushes}
use Rattle.tree_laws.specs.Paths.{IsClean}
use Rattle.sled.specs.Values.{DbValue, numbers_of}
use Rattle.sled_queues.specs.Queues.{Becomes, no_queues}

abbrev pub or_empty : Option Map → Option Map
or_empty None = Some []
or_empty (Some m) = Some m

-- these maps, and an empty tree of this name if there is none
abbrev pub with_tree : Key → Maps → Maps
with_tree name maps t = if bytes_eq t name then or_empty (maps t) else maps t

abbrev pub with_default : Maps → Maps
with_default = with_tree default_name

-- the maps that are added: none if there is a tree of this name, and else those with the empty one
abbrev pub planted : Key → Maps → List Maps
planted name maps = if is_some (maps name) then [] else (with_tree name maps ∷ [])

-- a leaf without pairs that covers every key
abbrev pub empty_page : Node
empty_page = record { lo = []; hi = []; next = None; merging = false; merging_child = None; content = kind.Leaf [] }

-- one page was made, an empty leaf
pub record MakesLeaf (old new : Store) : Type 0 where
  pub pid : ℕ
  pub version : ℕ
  pub is : Allocates empty_page pid version old new
  pub given : AreGiven new

-- a tree of this name was made, by two actions: an empty leaf, and then it is the name's root
pub record MakesTree (name : Key) (old new : Store) : Type 0 where
  pub middle : Store
  pub leaf : MakesLeaf old middle
  pub is : new ≡ after_action (RootBecomes name (Some leaf.pid)) middle

-- one of the two was refused, or there was no memory; and after the first a page is left that no tree has
pub record StopsMaking (old : Store) (e : Error) (new : Store) : Type 0 where
  pub last : Store
  pub did : (last ≡ old) ⊎ MakesLeaf old last
  pub refused : IsRefused e last new

-- numbers from n + 1 on, in the order of the names
abbrev pub numbered : ℕ → List Key → List (Key × ℕ)
numbered n [] = []
numbered n (name ∷ names) = (name, n + 1) ∷ numbered (n + 1) names

-- if there was no tree of this name an empty one was made, by two actions; and else no action was done
pub record GrowsByTree (name : Key) (old new : Store) : Type 0 where
  pub extends : AddsCrashStates (planted name (trees_of (now old))) old new
  pub actions : new.actions ≡ old.actions + 2 * length (planted name (trees_of (now old)))

-- the maps are those of before and none was added, or the tree is made
abbrev pub GrowsAtMost : Key → Store → Store → Type 0
GrowsAtMost name old new =
    (AddsCrashStates [] old new × (trees_of (now new) ≡ trees_of (now old)))
    ⊎ (AddsCrashStates (planted name (trees_of (now old))) old new × (trees_of (now new) ≡ with_tree name (trees_of (now old))))

-- The store can be opened. It has the maps of before, with or without an empty tree of this name
pub record CanBeOpened (name : Key) (old new : Store) : Type 0 where
  pub grows : GrowsAtMost name old new
  pub fits : new.actions ≤ old.actions + 2 * length (planted name (trees_of (now old)))
  pub well : IsValid (now new)
  pub no_group : (now new).in_group ≡ false
  pub mark : new.mark ≡ old.mark
  pub recovered : new.recovered ≡ old.recovered
  pub readable : new.is_readable ≡ old.is_readable

-- refused for a fault, which is counted, or for want of memory; and the store can be opened again
pub record RefusesTree (name : Key) (old : Store) (e : Error) (new : Store) : Type 0 where
  pub cause : IsFault old.faults new.faults e
  pub again : CanBeOpened name old new

-- opening is refused, and at most the empty default tree is new
abbrev pub RefusesOpen : Store → Error → Store → Type 0
RefusesOpen = RefusesTree default_name

-- the tree is one page, and nothing is to be repaired on the way to any key
abbrev pub IsOnePage : State → Key → Type 0
IsOnePage s name = (page : ℕ) × ((key : Key) → IsClean s name (Included key) (page ∷ []))

-- The database of this name over the store
pub record Opens {P M : Type 0} (store : P → Store) (before : Store) (called : Key) (d : DbValue P M) : Type 0 where
  -- the default tree is made if there is none, and then all is flushed
  pub middle : Store
  pub grows : GrowsByTree default_name before middle
  pub flushes : Flushes middle (store d.pages)
  -- a crash can leave the state now alone
  pub left : crash_states (store d.pages) ≡ now (store d.pages) ∷ []
  -- every tree has its map of before
  pub maps : trees_of (now (store d.pages)) ≡ with_default (trees_of (now before))
  -- a default tree that was made is one page
  pub fresh : trees_of (now before) default_name ≡ None → IsOnePage (now (store d.pages)) default_name
  -- the trees are numbered from 1 in the order of their names
  pub names : List Key
  pub numbers : d.trees ≡ numbered 0 names
  pub ascends : is_sorted key_cmp d.trees ≡ true
  pub each : (t : Key) → is_some (numbers_of d.trees t) ≡ is_some (trees_of (now (store d.pages)) t)
  pub given : d.trees_given ≡ length d.trees
  -- the ids up to the mark count as given, no tree has an operator, there is no subscriber, no group is open, and no fault was met
  pub ids : d.greatest_id ≡ before.mark
  pub operators : d.operators ≡ []
  pub queues : Becomes no_queues 0 d.queues
  pub no_group : (now (store d.pages)).in_group ≡ false
  pub name : d.name ≡ called
  pub mark : (store d.pages).mark ≡ before.mark
  pub recovered : (store d.pages).recovered ≡ before.recovered
  pub readable : (store d.pages).is_readable ≡ before.is_readable
  pub faults : (store d.pages).faults ≡ before.faults

-- A name that is known was opened without an action, and a new one by those two
pub record OpensBySteps {P M : Type 0} (store : P → Store) (name : Key) (old new : DbValue P M) : Type 0 where
  pub known : (number : ℕ) → numbers_of old.trees name ≡ Some number → new ≡ old
  pub made : numbers_of old.trees name ≡ None → MakesTree name (store old.pages) (store new.pages)

-- .. or it was refused: it did nothing, or the name is new and one of the two was refused
pub record OpenRefusedBySteps {P M : Type 0} (store : P → Store) (name : Key) (old : DbValue P M) (e : Error) (new : DbValue P M) : Type 0 where
  pub is : (new ≡ old) ⊎ ((numbers_of old.trees name ≡ None) × StopsMaking (store old.pages) e (store new.pages))
