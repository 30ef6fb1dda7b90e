-- What a check of pages answers if it refuses them.
use Rattle.std.specs.Prelude.{◌≤◌}
use Rattle.sled_nodes.specs.declared.error.Error.{Error}
use Rattle.sled_nodes.specs.declared.error.Error.TheVariants.{Corruption}
use Rattle.sled_nodes.specs.declared.error.Fault.{Fault}
use Rattle.sled_store.specs.Store.{Store, refuses_read_as}

-- the code of something that is not well formed
abbrev pub IsFinding : Fault → Type 0
IsFinding fault = (1 ≤ fault.0) × (fault.0 ≤ 9)

abbrev pub refuses_check_as : Store → Error → Type 0
refuses_check_as s (Corruption fault) = IsFinding fault
refuses_check_as s e = refuses_read_as s e

-- refused with the code of what was found, or as a read is: for want of memory, or for a fault if some page is not readable
pub record RefusesCheck (s : Store) (e : Error) : Type 0 where
  pub is : refuses_check_as s e
