-- What one page action of a call in flight does.
use Rattle.std.specs.Prelude.{◌≡◌, ℕ, ◌⊎◌, Bool, true, List, [], Some, None}
use Rattle.sled_store.specs.In.{In}
use Rattle.sled_store.specs.State.{State, Action}
use Rattle.sled_store.specs.Store.{Store, after_action, now}
use Rattle.sled_store.specs.declared.page.Page.{Page}
use Rattle.tree_laws.specs.Forest.{Forest, Place}
use Rattle.tree_laws.specs.Stages.{owned}
use Rattle.sled_tree.specs.declared.flight.Sequel.{Sequel}
use Rattle.sled_tree.specs.declared.flight.Sequel.TheVariants.{Go, Decided, Refused}

-- one changing action, and what it gave; nothing else of the store changes
pub record ActsOnce (old new : Store) : Type 0 where
  pub action : Action
  pub pids : ℕ → Bool
  pub versions : ℕ → Bool
  pub is : new ≡ record (after_action action old) { pids = pids; versions = versions }
  -- a number or a version that was given stays given
  pub pids_stay : (p : ℕ) → old.pids p ≡ true → pids p ≡ true
  pub versions_stay : (v : ℕ) → old.versions v ≡ true → versions v ≡ true
  -- no group begins or ends
  pub no_group : (now new).in_group ≡ (now old).in_group

-- nothing, or one changing action
abbrev pub ActsAtMostOnce : Store → Store → Type 0
ActsAtMostOnce old new = (new ≡ old) ⊎ ActsOnce old new

-- No page is left behind: what was the call's own still is, or was freed, or is in a tree; and a page that was made, or that its
-- parent is to merge no more, is the call's own
pub record LeaksNoPage (mine own : List ℕ) (old new : State) (v : Forest) : Type 0 where
  pub kept : (q : ℕ) → In q mine → In q own ⊎ ((new.pages q ≡ None) ⊎ ((x : Place) × In q (v.chain x)))
  pub made : (q : ℕ) → old.pages q ≡ None → (new.pages q ≡ None) ⊎ In q own
  pub merged : (p c : ℕ) (g h : Page) → old.pages p ≡ Some g → g.node.merging_child ≡ Some c → new.pages p ≡ Some h → (h.node.merging_child ≡ Some c) ⊎ In c own

-- .. but for what a refused call leaves
abbrev pub leaks_no_page_as : Sequel → List ℕ → State → State → Forest → Type 0
leaks_no_page_as (Go stage) mine old new v = LeaksNoPage mine (owned stage) old new v
leaks_no_page_as (Decided reply) mine old new v = LeaksNoPage mine [] old new v
leaks_no_page_as (Refused e) mine old new v = Unit {0}
