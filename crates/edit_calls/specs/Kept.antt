-- What kept replies say of a map.
use Rattle.std.specs.Prelude.{◌≡◌, ℕ, Some}
use Rattle.std.specs.FinMap.Entries.{find}
use Rattle.sled_nodes.specs.Order.{Key, key_cmp}
use Rattle.sled_model.specs.Answer.{answer_of}
use Rattle.sled_model.specs.State.{State, NamedTree, CallInFlight}
use Rattle.sled_model.specs.declared.reply.Reply.{Reply}
use Rattle.sled_model.specs.declared.reply.Reply.TheVariants.{Value}
use Rattle.sled_model.specs.declared.tree.Tree.{Tree}

-- both are what the call in the slot replies to the map of its tree in this state
pub record RepliesAt (s : State) (slot : ℕ) (both : Reply × Reply) : Type 0 where
  pub flying : CallInFlight
  pub here : s.slots slot ≡ Some flying
  pub tree : NamedTree
  pub there : s.trees flying.tree.name ≡ Some tree
  pub one : both.0 ≡ (answer_of tree.merge flying.call tree.map).reply
  pub other : both.1 ≡ (answer_of tree.merge flying.call tree.map).reply

-- both are the value that the map of the tree has at the key in this state, or that it has none
pub record AreValueAt (s : State) (tree : Tree) (key : Key) (both : Reply × Reply) : Type 0 where
  pub named : NamedTree
  pub there : s.trees tree.name ≡ Some named
  pub one : both.0 ≡ Value (find key_cmp key named.map)
  pub other : both.1 ≡ Value (find key_cmp key named.map)
