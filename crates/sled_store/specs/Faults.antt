-- Which calls are refused, and what a fault does to the count of faults.
use Rattle.std.specs.Prelude.{◌≡◌, ℕ, ◌+◌}
use Rattle.sled_nodes.specs.declared.error.Error.{Error}
use Rattle.sled_nodes.specs.declared.error.Error.TheVariants.{Io, NoMemory}

abbrev pub fault_as : ℕ → ℕ → Error → Type 0
fault_as old new (Io fault) = new ≡ old + 1
fault_as old new NoMemory = new ≡ old
fault_as old new _ = ⊥

-- a fault is counted, and want of memory is not
pub record IsFault (old new : ℕ) (e : Error) : Type 0 where
  pub is : fault_as old new e
