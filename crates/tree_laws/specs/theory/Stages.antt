-- Of Stages, for proofs. What a call in flight knows of the store, by its stage.
use Rattle.std.specs.Prelude.{◌≡◌, ℕ, Some}
use Rattle.std.specs.declared.ops.Bound.{Bound}
use Rattle.sled_nodes.specs.Order.{Key}
use Rattle.sled_store.specs.declared.page.View.{View}
use Rattle.tree_laws.specs.Forest.{Tree, Forest, place}
use Rattle.tree_laws.specs.Snapshot.{Snapshot, StoodInChain}
use Rattle.tree_laws.specs.declared.flight.Reached.{Reached}
use Rattle.tree_laws.specs.Stages.{IsReached}

-- a page as it was just read: it is live at the version that was read, and was on its level
pub record IsHere (m : Snapshot) (w : Forest) (t : Tree) (number : ℕ) (aim : Bound Key) (look : View) (by : Reached) : Type 0 where
  pub height : ℕ
  pub live : m.state.pages look.pid ≡ Some (record { version = look.version; node = look.node })
  pub named : m.numbers t ≡ Some number
  pub stood : StoodInChain m w (place t height) number look.node.lo look.pid
  pub is_reached : IsReached m w t number height aim by look.node.lo look.pid
