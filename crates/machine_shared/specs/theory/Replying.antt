-- Of Replies, for proofs.
use Rattle.std.specs.Prelude.{◌≡◌, List}
use Rattle.std.specs.Global.{Vec}
use Rattle.sled_batch.specs.Batch.{Writes}
use Rattle.sled_model.specs.declared.call.Whole.{Whole}
use Rattle.sled_model.specs.declared.call.Whole.TheVariants.{Group}
use Rattle.sled_model.specs.declared.tree.Tree.{Tree}

-- the call is a group of these batches
pub record IsGroupOf (batches : List (Tree × Writes)) (whole : Whole) : Type 0 where
  pub group : Vec (Tree × Writes)
  pub holds : group.items ≡ batches
  pub is : whole ≡ Group group
