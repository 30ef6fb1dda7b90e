-- What single calls of a database answer.
use Rattle.std.specs.Prelude.{◌≡◌, true, false, Option, Some, None}
use Rattle.sled_nodes.specs.Order.{Key}
use Rattle.sled_store.specs.Store.{Store, now}
use Rattle.sled_nodes.specs.declared.error.Error.{Error}
use Rattle.sled_nodes.specs.declared.error.Error.TheVariants.{NoMemory, Closed}
use Rattle.sled_model.specs.declared.tree.Tree.{Tree}
use Rattle.sled_model.specs.Refusal.{MustRefuse, tells}
use Rattle.sled.specs.Values.{DbValue, numbers_of}

-- the value names the tree of this name
pub record IsHandle {P M : Type 0} (d : DbValue P M) (name : Key) (t : Tree) : Type 0 where
  pub database : t.database ≡ d.name
  pub is : t.name ≡ name
  pub number : numbers_of d.trees name ≡ Some t.number

abbrev pub refuses_handle_as : Store → Error → Type 0
refuses_handle_as s NoMemory = (now s).in_group ≡ false
refuses_handle_as s Closed = (now s).in_group ≡ true
refuses_handle_as s e = ⊥

-- refused if the database is closed, and else for want of memory alone
pub record RefusesHandle (s : Store) (e : Error) : Type 0 where
  pub is : refuses_handle_as s e

abbrev pub must_be_refused_as : Option MustRefuse → Error → Type 0
must_be_refused_as None e = ⊥
must_be_refused_as (Some must) e = tells must e

-- the call must be refused, and the error says why
pub record MustBeRefused (must : Option MustRefuse) (e : Error) : Type 0 where
  pub is : must_be_refused_as must e
