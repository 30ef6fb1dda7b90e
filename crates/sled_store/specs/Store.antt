-- What a store of pages means, and what its calls do to that.
use Rattle.std.specs.Prelude.{◌≡◌, ℕ, ◌+◌, ◌<◌, ◌^◌, Bool, true, false, List, [], ◌∷◌, ◌++◌, Option, Some, None, Result, Ok, Err, option_map}
use Rattle.std.specs.FinMap.Entries.{find, is_sorted}
use Rattle.sled_nodes.specs.Order.{Key, key_cmp}
use Rattle.sled_store.specs.Update.{put_at}
use Rattle.sled_store.specs.State.{State, Action, PageBecomes, RootBecomes, after_all}
use Rattle.sled_nodes.specs.declared.error.Error.{Error}
use Rattle.sled_nodes.specs.declared.error.Error.TheVariants.{Io, NoMemory}
use Rattle.sled_nodes.specs.declared.node.Node.{Node}
use Rattle.sled_store.specs.declared.page.View.{View}
use Rattle.sled_store.specs.declared.page.Page.{Page}

pub record Store : Type 0 where
  -- the state at the last flush, and the changing actions since, the first of them first
  pub base : State
  pub recent : List Action
  -- how many changing actions there ever were, and how often a call was refused for a fault
  pub actions : ℕ
  pub faults : ℕ
  -- which pages can be read
  pub is_readable : ℕ → Bool
  -- the ids up to here are set aside
  pub mark : ℕ
  -- whether it was made from what an earlier store left
  pub recovered : Bool
  -- the page numbers and the versions that it ever gave
  pub pids : ℕ → Bool
  pub versions : ℕ → Bool

-- the state now
abbrev pub now : Store → State
now s = after_all s.recent s.base

-- the store after one more changing action
abbrev pub after_action : Action → Store → Store
after_action a s = record s { recent = s.recent ++ a ∷ []; actions = s.actions + 1 }

-- the store after a flush
abbrev pub after_flush : Store → Store
after_flush s = record s { base = now s; recent = [] }

-- one more action, which gave a version that was never given before
pub record ActsAt (a : Action) (version : ℕ) (old new : Store) : Type 0 where
  pub fresh : old.versions version ≡ false
  pub is : new ≡ record (after_action a old) { versions = put_at old.versions version true }

-- a new page. Its number is above 0, and neither the number nor the version was ever given before
pub record Allocates (node : Node) (pid version : ℕ) (old new : Store) : Type 0 where
  pub positive : 0 < pid
  pub fresh_pid : old.pids pid ≡ false
  pub fresh : old.versions version ≡ false
  pub is : new ≡ record (after_action (PageBecomes pid (Some (record { version = version; node = node }))) old) { pids = put_at old.pids pid true; versions = put_at old.versions version true }

-- nothing changes, but that a fault is counted
abbrev pub only_faults : Error → Store → Store → Type 0
only_faults (Io fault) old new = new ≡ record old { faults = old.faults + 1 }
only_faults e old new = new ≡ old

abbrev pub is_refused_as : Error → Store → Store → Type 0
is_refused_as NoMemory old new = only_faults NoMemory old new
is_refused_as (Io fault) old new = only_faults (Io fault) old new
is_refused_as _ old new = ⊥

-- a refused call changes nothing, but that a fault is counted
pub record IsRefused (e : Error) (old new : Store) : Type 0 where
  pub is : is_refused_as e old new

abbrev pub is_read_refused_as : ℕ → Store → Error → Type 0
is_read_refused_as pid s NoMemory = Unit {0}
is_read_refused_as pid s (Io fault) = s.is_readable pid ≡ false
is_read_refused_as pid s _ = ⊥

-- a read is refused for want of memory, or for a fault if the page is not readable
pub record IsReadRefused (pid : ℕ) (s : Store) (e : Error) : Type 0 where
  pub is : is_read_refused_as pid s e

-- some page is not readable
abbrev pub HasUnreadable : Store → Type 0
HasUnreadable s = (pid : ℕ) × (s.is_readable pid ≡ false)

-- a read of some page is refused: for want of memory, or for a fault if some page is not readable
abbrev pub refuses_read_as : Store → Error → Type 0
refuses_read_as s NoMemory = Unit {0}
refuses_read_as s (Io fault) = HasUnreadable s
refuses_read_as s e = ⊥

-- a page as it is read
abbrev pub view_of : ℕ → Option Page → Option View
view_of pid page = option_map (λ p. record { pid = pid; version = p.version; node = p.node }) page

-- the version of a page now, if there is the page
abbrev pub version_now : Store → ℕ → Option ℕ
version_now s pid = option_map (λ p. p.version) ((now s).pages pid)

abbrev pub changes_as : (Node → Node) → ℕ → ℕ → Store → Store → Result ℕ (Option ℕ) → Type 0
changes_as change pid version old new (Ok given) =
    (node : Node) × ((now old).pages pid ≡ Some (record { version = version; node = node }))
    × ActsAt (PageBecomes pid (Some (record { version = given; node = change node }))) given old new
changes_as change pid version old new (Err present) =
    (new ≡ old) × (present ≡ version_now old pid) × ((present ≡ Some version) → ⊥)

-- A page's node is changed if the page has the version, and has a new version then. Else
-- the answer is the version that it has, and nothing changes
pub record Changes (change : Node → Node) (pid version : ℕ) (old new : Store) (answer : Result ℕ (Option ℕ)) : Type 0 where
  pub is : changes_as change pid version old new answer

abbrev pub frees_as : ℕ → ℕ → Store → Store → Result (Unit {0}) (Option ℕ) → Type 0
frees_as pid version old new (Ok done) = (version_now old pid ≡ Some version) × (new ≡ after_action (PageBecomes pid None) old)
frees_as pid version old new (Err present) = (new ≡ old) × (present ≡ version_now old pid) × ((present ≡ Some version) → ⊥)

-- a page is taken out if it has the version
pub record Frees (pid version : ℕ) (old new : Store) (answer : Result (Unit {0}) (Option ℕ)) : Type 0 where
  pub is : frees_as pid version old new answer

abbrev pub swaps_as : Key → Option ℕ → Option ℕ → Store → Store → Result (Unit {0}) (Option ℕ) → Type 0
swaps_as name expected proposed old new (Ok done) =
    ((now old).roots name ≡ expected) × (new ≡ after_action (RootBecomes name proposed) old)
swaps_as name expected proposed old new (Err present) =
    (new ≡ old) × (present ≡ (now old).roots name) × (present ≡ expected → ⊥)

-- a name's root becomes the proposed one if it is the expected one
pub record SwapsRoot (name : Key) (expected proposed : Option ℕ) (old new : Store) (answer : Result (Unit {0}) (Option ℕ)) : Type 0 where
  pub is : swaps_as name expected proposed old new answer

-- all roots, by ascending names
pub record IsRoots (s : State) (roots : List (Key × ℕ)) : Type 0 where
  pub ascends : is_sorted key_cmp roots ≡ true
  pub is : (name : Key) → s.roots name ≡ find key_cmp name roots

-- each page now has a version that was given, and a number that was given and fits 64 bits
pub record AreGiven (s : Store) : Type 0 where
  pub pid : (p : ℕ) (page : Page) → (now s).pages p ≡ Some page → s.pids p ≡ true
  pub version : (p : ℕ) (page : Page) → (now s).pages p ≡ Some page → s.versions page.version ≡ true
  pub numbered : (p : ℕ) (page : Page) → (now s).pages p ≡ Some page → p < 2 ^ 64
