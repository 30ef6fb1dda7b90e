-- The pairs whose keys begin with a prefix.
use Rattle.std.proofs.Common.{◌∙◌, subst}
use Rattle.std.specs.List.{AllByRecursion}
use Rattle.std.specs.declared.ops.Bound.TheVariants.{Included}
use Rattle.sled_nodes.specs.Order.{Key}
use Rattle.sled_store.specs.Store.{Store}
use Rattle.sled_model.specs.Maps.{Merge}
use Rattle.sled_model.specs.declared.tree.Tree.{Tree}
use Rattle.tree_reads.specs.Ranges.{Coming}
use Rattle.tree_reads.specs.Prefixes.{IsBytes, raised}
use Rattle.tree_reads.proofs.Prefixes.{not_reversed, pairs_same}
use Rattle.sled.specs.Values.{DbValue}
use Rattle.sled.specs.Reads.{BeginsRange, BeginsWith}

module _ {P M : Type 0} (store : P → Store) (meant : M → Merge) (tree : Tree) (d : DbValue P M) where
  -- a range between a prefix and what it is raised to
  pub begins_as : (prefix : Key) (pairs : Coming P) → BeginsRange store meant d tree (Included prefix) (raised prefix) pairs → BeginsWith store meant d tree prefix pairs
  begins_as prefix pairs b = record {
    over = b.over;
    root = b.root;
    all = b.all;
    beginning = λ bytes. record {
      tested = b.all.tested;
      named = b.all.named;
      there = b.all.there;
      is = b.all.is ∙ pairs_same prefix b.all.named.map (subst (λ all. AllByRecursion (λ e. IsBytes e.0) all) b.all.is bytes);
    };
    ended = b.ended ∙ not_reversed prefix;
  }
