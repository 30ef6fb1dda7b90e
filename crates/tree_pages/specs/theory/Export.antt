-- Of Export, for proofs. What a read of pages is refused with.
use Rattle.sled_store.specs.Store.{Store, refuses_read_as}
use Rattle.sled_nodes.specs.declared.error.Error.{Error}

-- a read is refused for want of memory, or for a fault if some page is not readable
pub record RefusesRead (s : Store) (e : Error) : Type 0 where
  pub is : refuses_read_as s e
