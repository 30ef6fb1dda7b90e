use Rattle.sled_tree.proofs.walk.mend.Goals as goal

pub returns : goal.returns
returns c s m = c.settle.ensures s c.args.flight.now.stage (record {
  moves = m.moves _ (rw c.take_way-reached.ensures at c.repair-next.ensures.arrives);
  passes = m.passes _ (rw c.take_way-reached.ensures at c.repair-next.ensures.passes);
  follows = m.follows _ (rw c.take_way-reached.ensures at c.repair-next.ensures.follows);
})
