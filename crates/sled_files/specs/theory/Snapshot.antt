-- What a store is now, as changes that make it of nothing.
use Rattle.std.specs.Prelude.{◌≡◌, ◌+◌, ℕ, nat_lt, false, List, length, map, Option, Some, None, if◌then◌else◌}
use Rattle.std.specs.FinMap.Entries.{find}
use Rattle.std.specs.List.{All}
use Rattle.sled_nodes.specs.Order.{Key, key_cmp}
use Rattle.sled_store.specs.declared.page.Page.{Page}
use Rattle.sled_store.specs.State.{State}
use Rattle.sled_store.specs.Store.{Store, now, IsRoots}
use Rattle.sled_bytes.specs.declared.change.Change.{Change}
use Rattle.sled_bytes.specs.declared.change.Change.TheVariants.{Given}
use Rattle.sled_bytes.specs.Spelling.{change_bytes}
use Rattle.sled_files.specs.Change.{Durable, nothing_yet, changed, changed_all, AreOfStore}
use Rattle.sled_files.specs.Pending.{Spells}
use Rattle.sled_files.specs.Snapshot.{IsPages, given_as, rooted_as, changes_length}
use Rattle.sled_files.specs.theory.Spelled.{WereGiven}

-- the bytes are those of changes that make this of nothing, and the numbers in them were given in a store
pub record Makes (s : Store) (bytes : List ℕ) (d : Durable) : Type 0 where
  pub changes : List Change
  pub spells : Spells bytes changes
  pub makes : changed_all changes nothing_yet ≡ d
  pub given : All (WereGiven s) changes

-- the bytes are those of changes of a store, which make this of nothing
pub record MakesAnew (bytes : List ℕ) (d : Durable) : Type 0 where
  pub changes : List Change
  pub spells : Spells bytes changes
  pub makes : changed_all changes nothing_yet ≡ d
  pub made : AreOfStore changes d

-- with a page, if there is one
abbrev pub with_page : ℕ → Option Page → Durable → Durable
with_page pid None d = d
with_page pid (Some page) d = changed (Given pid page.version page.node) d

-- these pages and roots, and nothing else
abbrev pub only : (ℕ → Option Page) → (Key → Option ℕ) → Durable
only pages roots = record nothing_yet { state = record { pages = pages; roots = roots; in_group = false } }

-- the pages of a state that have a number below this one
abbrev pub pages_below : State → ℕ → Durable
pages_below s upto = only (λ p. if nat_lt p upto then s.pages p else None) (λ _. None)

-- all its pages, and these roots
abbrev pub pages_rooted : State → List (Key × ℕ) → Durable
pages_rooted s roots = only s.pages (λ name. find key_cmp name roots)

-- what a file has of a store as it is now, with this mark and these limits, once no group is open
abbrev pub durable_now : Store → ℕ → ℕ → ℕ → Durable
durable_now s mark pids versions = record { state = record (now s) { in_group = false }; mark = mark; pids = pids; versions = versions }

-- how many bytes give a page, if there is one
abbrev pub page_length : ℕ → Option Page → ℕ
page_length pid None = 0
page_length pid (Some page) = length (change_bytes (given_as (pid, page)))

-- so many bytes give all pages
pub record GivesPages (s : State) (long : ℕ) : Type 0 where
  pub pages : List (ℕ × Page)
  pub are : IsPages s pages
  pub is : long ≡ changes_length (map given_as pages)

-- what sets all roots makes bytes longer
pub record SetsRoots (s : State) (before after : ℕ) : Type 0 where
  pub roots : List (Key × ℕ)
  pub are : IsRoots s roots
  pub is : after ≡ before + changes_length (map rooted_as roots)
