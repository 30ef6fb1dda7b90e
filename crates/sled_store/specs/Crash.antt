-- What a crash may leave of a store.
use Rattle.std.specs.Prelude.{◌≡◌, ℕ, ◌<◌, ◌≤◌, true, false, List, [], ◌∷◌, length, take, if◌then◌else◌}
use Rattle.sled_store.specs.In.{In}
use Rattle.sled_store.specs.State.{State, Action, after, after_all}
use Rattle.sled_store.specs.Store.{Store}

-- the state after each beginning of the actions that ends outside every group, the shortest beginning first
abbrev pub left_from : State → List Action → List State
left_from s [] = if s.in_group then [] else (s ∷ [])
left_from s (a ∷ rest) = if s.in_group then left_from (after a s) rest else (s ∷ left_from (after a s) rest)

-- the states that a crash may leave, the one at the last flush first
abbrev pub crash_states : Store → List State
crash_states s = left_from s.base s.recent

-- a crash may leave this state
pub record IsCrashState (s : Store) (left : State) : Type 0 where
  pub is : In left (crash_states s)

-- A crash that keeps at most this many actions leaves the longest allowed beginning of them as the base, and no action since.
-- Its faults are counted anew, every page can be read, and it is a recovered store
pub record Crashes (keep : ℕ) (old new : Store) : Type 0 where
  pub kept : ℕ
  pub at_most : kept ≤ keep
  pub within : kept ≤ length old.recent
  pub sealed : (after_all (take kept old.recent) old.base).in_group ≡ false
  pub most : (j : ℕ) → kept < j → j ≤ keep → j ≤ length old.recent → (after_all (take j old.recent) old.base).in_group ≡ true
  pub is : new ≡ record old { base = after_all (take kept old.recent) old.base; recent = []; faults = 0; is_readable = λ _. true; recovered = true }
