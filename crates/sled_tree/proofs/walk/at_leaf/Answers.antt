use Rattle.sled_tree.proofs.Descending.{on_key}
use Rattle.sled_tree.proofs.walk.at_leaf.Goals as goal

pub decide-requires : goal.decide-requires
decide-requires c = record {
  room = c.requires.room;
  on_key = on_key _ _ c.is_on_key.ensures c.if-is_on_key.true;
  leaf = c.requires.leaf;
  clean = c.requires.clean;
}
