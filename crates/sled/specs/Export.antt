-- What an export is refused with.
use Rattle.std.specs.Prelude.{◌≡◌, true, false}
use Rattle.sled_store.specs.Store.{Store, now, refuses_read_as}
use Rattle.sled_nodes.specs.declared.error.Error.{Error}
use Rattle.sled_nodes.specs.declared.error.Error.TheVariants.{Closed}

abbrev pub refuses_export_as : Store → Error → Type 0
refuses_export_as s Closed = (now s).in_group ≡ true
refuses_export_as s e = ((now s).in_group ≡ false) × refuses_read_as s e

-- refused if the database is closed; and else as a read is
pub record RefusesExport (s : Store) (e : Error) : Type 0 where
  pub is : refuses_export_as s e
