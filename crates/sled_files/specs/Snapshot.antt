-- How long a snapshot of a store is.
use Rattle.std.specs.Prelude.{◌≡◌, ℕ, true, List, [], ◌∷◌, ◌++◌, map, length, Some}
use Rattle.std.specs.List.{flat_map}
use Rattle.std.specs.Ordering.{nat_cmp}
use Rattle.std.specs.FinMap.Entries.{find, is_sorted}
use Rattle.sled_nodes.specs.Order.{Key}
use Rattle.sled_store.specs.declared.page.Page.{Page}
use Rattle.sled_store.specs.State.{State}
use Rattle.sled_store.specs.Store.{IsRoots}
use Rattle.sled_bytes.specs.declared.change.Change.{Change}
use Rattle.sled_bytes.specs.declared.change.Change.TheVariants.{Given, Rooted, Marked, Limited}
use Rattle.sled_bytes.specs.Spelling.{change_bytes}
use Rattle.sled_files.specs.Lasting.{Limits}

-- all pages, by ascending numbers
pub record IsPages (s : State) (pages : List (ℕ × Page)) : Type 0 where
  pub ascends : is_sorted nat_cmp pages ≡ true
  pub is : (pid : ℕ) → s.pages pid ≡ find nat_cmp pid pages

-- the change that gives a page, and the one that sets a root
abbrev pub given_as : ℕ × Page → Change
given_as e = Given e.0 e.1.version e.1.node

abbrev pub rooted_as : Key × ℕ → Change
rooted_as e = Rooted e.0 (Some e.1)

-- how many bytes changes take
abbrev pub changes_length : List Change → ℕ
changes_length changes = length (flat_map change_bytes changes)

-- A snapshot gives each page once, sets each root once, and the mark and the limits: so long it is
pub record IsSnapshot (s : State) (mark : ℕ) (limits : Limits) (long : ℕ) : Type 0 where
  pub pages : List (ℕ × Page)
  pub all_pages : IsPages s pages
  pub roots : List (Key × ℕ)
  pub all_roots : IsRoots s roots
  pub is : long ≡ changes_length (map given_as pages ++ map rooted_as roots ++ Marked mark ∷ Limited limits.pids limits.versions ∷ [])
