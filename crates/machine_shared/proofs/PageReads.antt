-- Pairs of a range that begin.
use Rattle.std.proofs.Common.{◌∙◌, sym}
use Rattle.std.specs.declared.ops.Bound.{Bound}
use Rattle.sled_nodes.specs.Order.{Key}
use Rattle.sled_store.specs.Store.{Store}
use Rattle.tree_reads.specs.Ranges.{Coming}
use Rattle.tree_reads.proofs.Ranging.{reversed_none}
use Rattle.sled_model.specs.Maps.{Merge}
use Rattle.sled_model.specs.declared.tree.Tree.{Tree}
use Rattle.sled.specs.Reads.{BeginsRange}
use Rattle.sled.specs.Values.{DbValue}
use Rattle.machine_shared.specs.theory.Orders.{Begun}

module _ {P M : Type 0} (store : P → Store) (meant : M → Merge) (d : DbValue P M) (tree : Tree) (lo hi : Bound Key) (coming : Coming P) (begins : BeginsRange store meant d tree lo hi coming) where
  -- where the bounds give nothing there is nothing
  pub is_begun : Begun coming
  is_begun e = begins.all.is ∙ reversed_none lo hi begins.all.named.map (sym begins.ended ∙ e)
