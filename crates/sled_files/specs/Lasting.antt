-- What two files may be left with, against what the store in them means.
use Rattle.std.specs.Prelude.{◌≡◌, ◌⊎◌, ◌+◌, ◌≤◌, ℕ, List}
use Rattle.sled_store.specs.In.{In}
use Rattle.sled_store.specs.Store.{Store}
use Rattle.sled_store.specs.Crash.{IsCrashState}
use Rattle.sled_files.specs.Change.{Durable}
use Rattle.sled_files.specs.Standing.{AreFor}

-- the limits below which page numbers and versions are set aside
pub record Limits : Type 0 where
  pub pids : ℕ
  pub versions : ℕ

-- Limits that stay or are raised: no lower, and at most a piece of 1,000,000 above the greatest number that may come next. That is the
-- limit, as all numbers that were given are below it, but the first page has number 1
pub record AreRaised (limits raised : Limits) : Type 0 where
  pub pids : limits.pids ≤ raised.pids
  pub versions : limits.versions ≤ raised.versions
  pub pids_most : raised.pids ≤ limits.pids + 1000001
  pub versions_most : raised.versions ≤ limits.versions + 1000000

-- the limits in the files are these, or they were raised
abbrev pub HasLimits : Limits → Durable → Type 0
HasLimits limits d = AreRaised limits (record { pids = d.pids; versions = d.versions })

-- the limits in the files are these
pub record AreLimits (limits : Limits) (d : Durable) : Type 0 where
  pub pids : d.pids ≡ limits.pids
  pub versions : d.versions ≡ limits.versions

-- what two files stand for is right for a store: a state that a crash may leave of it, the mark that was set aside or a higher one
-- that was asked for, and the limits
pub record IsRight (asked : List ℕ) (limits : Limits) (s : Store) (d : Durable) : Type 0 where
  pub state : IsCrashState s d.state
  pub mark : (d.mark ≡ s.mark) ⊎ In d.mark asked
  pub no_lower : s.mark ≤ d.mark
  pub limited : HasLimits limits d

-- what a crash may leave of two files is right for a store
pub record IsLasting (asked : List ℕ) (limits : Limits) (s : Store) (first second : List ℕ) : Type 0 where
  pub durable : Durable
  pub stands : AreFor first second durable
  pub right : IsRight asked limits s durable

-- each pair of what may be left of two files
pub record EachPair (first second : List ℕ → Type 0) (P : List ℕ → List ℕ → Type 0) : Type 0 where
  pub each : (a b : List ℕ) → first a → second b → P a b
