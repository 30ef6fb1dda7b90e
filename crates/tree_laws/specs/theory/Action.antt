-- Of Action, for proofs. What page actions make of a page.
use Rattle.std.specs.Prelude.{◌≡◌, ℕ, Some}
use Rattle.sled_store.specs.State.{Nodes}
use Rattle.sled_store.specs.Update.{put_at}
use Rattle.sled_nodes.specs.declared.node.Node.{Node}
use Rattle.tree_laws.specs.Forest.{IsNodeAt}
use Rattle.tree_laws.specs.Action.{AreHalvesOf}

-- the page p is n, the others as before
abbrev pub put_node : Nodes → ℕ → Node → Nodes
put_node nodes p n = put_at nodes p (Some n)

-- n takes the entries, the end and the next page of c
pub record IsReceived (h : ℕ) (n c both : Node) : Type 0 where
  pub sound : IsNodeAt h both
  pub halves : AreHalvesOf both.content n.content c.content
  pub lo : both.lo ≡ n.lo
  pub hi : both.hi ≡ c.hi
  pub next : both.next ≡ c.next
  pub merging : both.merging ≡ n.merging
  pub merging_child : both.merging_child ≡ n.merging_child
