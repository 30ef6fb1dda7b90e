-- A list of all that was ever done to a store, and its result.
use Rattle.std.specs.Prelude.{◌≡◌, ℕ, ◌+◌, ◌<◌, ◌≤◌, ◌^◌, Bool, true, false, ◌&&◌, nat_le, nat_lt, List, Some, None, length, map, take}
use Rattle.std.specs.List.{list_all}
use Rattle.sled_store.specs.State.{State, Action, PageBecomes, RootBecomes, GroupBegins, GroupEnds, after_all}
use Rattle.sled_pages.specs.Memory.{empty_store}
use Rattle.example_stores.specs.declared.log_pages.Logged.{Logged}
use Rattle.example_stores.specs.declared.log_pages.Logged.TheVariants.{PageBecame, RootBecame, GroupBegan, GroupEnded}

abbrev pub action_of : Logged → Action
action_of (PageBecame pid page) = PageBecomes pid page
action_of (RootBecame name root) = RootBecomes name root
action_of GroupBegan = GroupBegins
action_of GroupEnded = GroupEnds

abbrev pub actions_of : List Logged → List Action
actions_of log = map action_of log

-- what an empty store is after all of it
abbrev pub state_after : List Logged → State
state_after log = after_all (actions_of log) empty_store.base

-- the numbers from 1 to the last one
abbrev pub up_to : ℕ → ℕ → Bool
up_to last p = nat_lt 0 p && nat_le p last

-- the numbers below the next one
abbrev pub below : ℕ → ℕ → Bool
below next v = nat_lt v next

-- a page that it puts somewhere has a number and a version that were given
abbrev pub is_given : ℕ → ℕ → Logged → Bool
is_given last next (PageBecame pid (Some page)) = up_to last pid && below next page.version
is_given last next (PageBecame pid None) = true
is_given last next (RootBecame name root) = true
is_given last next GroupBegan = true
is_given last next GroupEnded = true

-- What holds of a list: so much of it is flushed, and ends outside every group, and all in it has numbers and versions that were
-- given, which fit 64 bits
pub record IsLog (log : List Logged) (flushed last next : ℕ) : Type 0 where
  pub within : flushed ≤ length log
  pub sealed : (state_after (take flushed log)).in_group ≡ false
  pub given : list_all (is_given last next) log ≡ true
  pub numbered : last < 2 ^ 64

-- at most `keep` of what is not flushed, and the most after which no group is open
pub record KeepsMost (keep flushed : ℕ) (log : List Logged) (kept : ℕ) : Type 0 where
  pub at_most : kept ≤ keep
  pub within : flushed + kept ≤ length log
  pub sealed : (state_after (take (flushed + kept) log)).in_group ≡ false
  pub most : (j : ℕ) → kept < j → j ≤ keep → flushed + j ≤ length log → (state_after (take (flushed + j) log)).in_group ≡ true
