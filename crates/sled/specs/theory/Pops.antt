-- Of Pops, for inner functions. The two ends of a tree.
use Rattle.std.specs.Prelude.{◌≡◌, Option, Some, None}
use Rattle.std.specs.declared.ops.Bound.TheVariants.{Unbounded}
use Rattle.sled_nodes.specs.Order.{Key}
use Rattle.sled_nodes.specs.Among.{IsSuccessor, IsPredecessor}
use Rattle.sled_nodes.specs.declared.error.Error.{Error}
use Rattle.sled_store.specs.Store.{Store}
use Rattle.sled_model.specs.Maps.{Map, Merge}
use Rattle.sled_model.specs.declared.reply.Reply.{Reply}
use Rattle.sled_model.specs.declared.reply.Reply.TheVariants.{Pair}
use Rattle.sled_model.specs.declared.tree.Tree.{Tree}
use Rattle.sled.specs.Values.{DbValue}
use Rattle.sled.specs.Pops.{TakesOut, RefusesToTake}
use Rattle.sled.specs.declared.whole.Side.{Side}
use Rattle.sled.specs.declared.whole.Side.TheVariants.{Least, Greatest}

-- how the pair at an end is read
abbrev pub reads_of : Side → Map → Option (Key × Key) → Type 0
reads_of Least = IsSuccessor Unbounded
reads_of Greatest = IsPredecessor Unbounded

-- the reply is a pair, or that there is none
pub record IsPair (reply : Reply) : Type 0 where
  pub found : Option (Key × Key)
  pub is : reply ≡ Pair found

module _ {P M : Type 0} (store : P → Store) (meant : M → Merge) (old : DbValue P M) (tree : Tree) where
  -- the pair that was read was taken out, if there was one
  abbrev pub takes_as : Option (Key × Key) → DbValue P M → Type 0
  takes_as None new = new ≡ old
  takes_as (Some pair) new = TakesOut store meant old tree pair (Some pair) new

  -- .. or was not
  abbrev pub leaves_pair_as : Option (Key × Key) → Error → DbValue P M → Type 0
  leaves_pair_as None e new = ⊥
  leaves_pair_as (Some pair) e new = RefusesToTake store meant old tree pair e new
