-- Of Cursor, for proofs. Where the pairs of a range go on from the front.
use Rattle.std.specs.Prelude.{◌≡◌, ℕ, ◌+◌, ◌<◌, false, length, Option, Some, None}
use Rattle.std.specs.declared.ops.Bound.{Bound}
use Rattle.std.specs.declared.ops.Bound.TheVariants.{Unbounded}
use Rattle.sled_nodes.specs.Order.{Key}
use Rattle.sled_nodes.specs.Node.{pairs}
use Rattle.sled_nodes.specs.Ranges.{pairs_in}
use Rattle.sled_store.specs.declared.page.View.{View}
use Rattle.tree_reads.specs.declared.cursor.Cursor.{Cursor}
use Rattle.tree_reads.specs.Leaves.{entry_at}

-- one place further in the leaf, at which the given pair is
pub record GoesOn (old new : Cursor) (pair : Key × Key) : Type 0 where
  pub end : ℕ
  pub known : old.end ≡ Some end
  pub before : old.place + 1 < end
  pub there : entry_at old.leaf (old.place + 1) ≡ Some pair
  pub is : new ≡ record old { place = old.place + 1 }

-- so many pairs of the leaf are within an upper bound
abbrev pub UpToIn : Bound Key → Option View → ℕ → Type 0
UpToIn hi None n = n ≡ 0
UpToIn hi (Some v) n = n ≡ length (pairs_in (record { lo = Unbounded; hi = hi; back = false }) (pairs v.node.content))
