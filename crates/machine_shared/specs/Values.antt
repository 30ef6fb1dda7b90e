-- What contracts see of a state, of its callers, and of a database that is shared.
use Rattle.std.specs.Prelude.{ℕ, Bool, List}
use Rattle.sled_model.specs.Collections.{Content}
use Rattle.machine_alone.specs.Values.{MachineValue}
use Rattle.machine_shared.specs.Made.{MadeValue, EntryValue}
use Rattle.machine_shared.specs.Scans.{ScansValue}

-- what a database had when it was shared: its collections, and whether they were flushed, so that a crash would have left them alone
pub record OpeningValue : Type 0 where
  pub contents : List Content
  pub flushed : Bool

-- the machine, what its database had when it was shared, what was made since, in order, and what scans did
pub record StateValue (P M : Type 0) : Type 0 where
  pub machine : MachineValue P M
  pub opening : OpeningValue
  pub history : List EntryValue
  pub scans : ScansValue

-- a caller: its number, and what it made, in order
pub record CallerValue : Type 0 where
  pub number : ℕ
  pub made : List MadeValue

-- how many callers there may be, how many of them have a handle, the greatest number in the history that was shared, and what the database
-- had then
pub record SharedValue : Type 0 where
  pub callers : ℕ
  pub given : ℕ
  pub before : ℕ
  pub opening : OpeningValue
