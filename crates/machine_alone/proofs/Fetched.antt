-- What a call that takes no slot leaves of the calls in flight.
use Rattle.std.proofs.Common.{List, Option, Result, Ok, Err}
use Rattle.sled_store.specs.Store.{Store}
use Rattle.sled_nodes.specs.declared.error.Error.{Error}
use Rattle.sled_model.specs.Maps.{Maps, Merge}
use Rattle.sled.specs.Values.{DbValue, snapshot_of_db}
use Rattle.sled.specs.Direct.{Conducts}
use Rattle.sled.specs.Promises.{leaves_as}
use Rattle.machine_alone.specs.Sound.{IsMachine}
use Rattle.machine_alone.specs.Values.{MachineValue}

module _ {P M : Type 0} (store : P → Store) (meant : M → Merge) (inside : MachineValue P M) (db : DbValue P M) (im : IsMachine (snapshot_of_db store inside.db) inside.flights inside.slots_given) where
  -- what they know stays true, and none of them moves
  left : (maps : List Maps) (o : Option Error) → Conducts store maps o inside.db db → IsMachine (snapshot_of_db store db) inside.flights inside.slots_given
  left maps o c = record { given = im.given; known = λ i g there. c.leaves.others g (im.known i g there); apart = im.apart }

  pub after_point : {A : Type 0} (r : Result A Error) → leaves_as store meant r inside.db db → IsMachine (snapshot_of_db store db) inside.flights inside.slots_given
  after_point (Ok answer) c = left _ _ c
  after_point (Err e) c = left _ _ c
