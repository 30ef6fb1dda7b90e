use Rattle.sled_nodes.proofs.node.Node.pointer_before.Goals as goal

pub returns-in-Index : goal.returns-in-Index
returns-in-Index c = rw c.in-Index.is c.before-in-Index.ensures
