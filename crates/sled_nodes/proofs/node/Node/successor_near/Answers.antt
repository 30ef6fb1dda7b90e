use Rattle.sled_nodes.proofs.node.Node.successor_near.Goals as goal

pub returns-in-Leaf-clause-ok : goal.returns-in-Leaf-clause-ok
returns-in-Leaf-clause-ok c = rw c.in-Leaf.is c.first_from.ensures.ok

pub returns-in-Leaf-clause-place : goal.returns-in-Leaf-clause-place
returns-in-Leaf-clause-place c = rw c.in-Leaf.is c.first_from.ensures.place
