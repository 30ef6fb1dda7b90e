-- What a transaction leaves of the calls in flight.
use Rattle.std.proofs.Common.{◌≡◌, Result, Ok, Err, IfOk, IfErr, subst}
use Rattle.sled_store.specs.Store.{Store}
use Rattle.sled_tree.specs.Known.{IsKnown}
use Rattle.sled_tree.specs.declared.flight.InFlight.{InFlight}
use Rattle.sled.specs.Values.{DbValue, snapshot_of_db}
use Rattle.machine_alone.specs.Sound.{IsMachine}
use Rattle.machine_alone.specs.Values.{MachineValue}

-- a method knows the machine by its fields
pub db_over : {P M : Type 0} (inside old : MachineValue P M) → inside ≡ old → (so : DbValue P M → Type 0) → so inside.db → so old.db
db_over {P} {M} inside old e so h = subst (λ (m : MachineValue P M). so m.db) e h

module _ {P M : Type 0} (store : P → Store) (inside : MachineValue P M) (db : DbValue P M) (im : IsMachine (snapshot_of_db store inside.db) inside.flights inside.slots_given) where
  -- what the calls in flight know stays true, and none of them moves
  pub stay : ((h : InFlight) → IsKnown (snapshot_of_db store inside.db) h → IsKnown (snapshot_of_db store db) h) → IsMachine (snapshot_of_db store db) inside.flights inside.slots_given
  stay knows = record { given = im.given; known = λ i g there. knows g (im.known i g there); apart = im.apart }

module _ {P M A E : Type 0} (store : P → Store) (inside : MachineValue P M) (db : DbValue P M) (made : DbValue P M → A → Type 0) (fails : DbValue P M → E → Type 0) where
  module _ (im : IsMachine (snapshot_of_db store inside.db) inside.flights inside.slots_given)
      (made_knows : (a : A) → made inside.db a → (h : InFlight) → IsKnown (snapshot_of_db store inside.db) h → IsKnown (snapshot_of_db store db) h)
      (fails_knows : (x : E) → fails inside.db x → (h : InFlight) → IsKnown (snapshot_of_db store inside.db) h → IsKnown (snapshot_of_db store db) h) where
    pub after_transaction : (r : Result A E) → IfOk r (made inside.db) → IfErr r (fails inside.db) → IsMachine (snapshot_of_db store db) inside.flights inside.slots_given
    after_transaction (Ok a) d x = stay store inside db im (made_knows a d)
    after_transaction (Err a) d x = stay store inside db im (fails_knows a x)
