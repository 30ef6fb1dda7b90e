-- What callers made of a number, and what a crash may leave of it, on the way to what is promised.
use Rattle.std.specs.Prelude.{◌≡◌, ℕ, Bool, true, false, [], ◌∷◌}
use Rattle.sled_nodes.specs.Order.{Key}
use Rattle.sled_store.specs.State.{State}
use Rattle.sled_store.specs.Store.{Store}
use Rattle.sled_store.specs.Crash.{IsCrashState}
use Rattle.sled_model.specs.declared.reply.Reply.{Reply}
use Rattle.sled_model.specs.declared.tree.Tree.{Tree}
use Rattle.tree_laws.specs.Contents.{trees_of}
use Rattle.machine_shared.specs.History.{maps_from}
use Rattle.machine_shared.specs.Made.{WholeMade}
use Rattle.machine_shared.specs.Sound.{IsOpen, maps_now}
use Rattle.machine_shared.specs.Values.{CallerValue, StateValue}
use Rattle.machine_shared.specs.Wholes.{Flush}
use Rattle.example_shared.specs.Raising.{OnlyRaises, StandsBetween, StandsHigher, swaps_of}
use Rattle.example_crashes.specs.Crashing.{number_under}
use Rattle.example_crashes.specs.Stopping.{is_left}
use Rattle.example_crashes.specs.declared.way.Stopped.{Stopped}
use Rattle.example_crashes.specs.declared.way.Stopped.TheVariants.{Unshared, Unraised, Uncrashed, Unfound}

-- a crash of the store may leave this number there
pub record MayLeave (s : Store) (tree key : Key) (n : ℕ) : Type 0 where
  pub left : State
  pub may : IsCrashState s left
  pub is : n ≡ number_under (trees_of left) tree key

-- At a crash the store is as before, or all is durable in it, and this number alone may be left
pub record LeavesNumber (flushes : Bool) (old new : Store) (tree key : Key) (n : ℕ) : Type 0 where
  pub same : flushes ≡ false → new ≡ old
  pub one : flushes ≡ true → (m : ℕ) → MayLeave new tree key m → m ≡ n

-- a caller made nothing but parts of raises, of which so many succeeded
pub record HasRaised (tree : Tree) (key : Key) (times : ℕ) (c : CallerValue) : Type 0 where
  pub only : OnlyRaises tree key c
  pub count : swaps_of tree.name key c ≡ times

-- The database of a state is open. The number is by so much higher than it was when the database was shared, and what a crash may leave
-- lies between the two
pub record IsRaised {P M : Type 0} (store : P → Store) (tree : Tree) (key : Key) (by : ℕ) (s : StateValue P M) : Type 0 where
  pub opens : IsOpen store s.machine
  pub stands : StandsHigher store tree key by s
  pub safe : (left : State) → IsCrashState (store s.machine.db.pages) left
      → StandsBetween tree key (number_under (maps_from s.opening.contents) tree.name key) (number_under (maps_now store s.machine) tree.name key) (trees_of left)

-- pages that are handed back once all raises were made can be opened
abbrev pub is_raised : {L M : Type 0} → Stopped L M → Type 0
is_raised (Unshared db e) = ⊥
is_raised (Unraised left) = ⊥
is_raised (Uncrashed db e) = Unit {0}
is_raised (Unfound left) = is_left left
