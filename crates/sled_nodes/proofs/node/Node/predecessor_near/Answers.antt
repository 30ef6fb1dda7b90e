use Rattle.sled_nodes.proofs.node.Node.predecessor_near.Goals as goal

pub returns-in-Leaf-clause-ok : goal.returns-in-Leaf-clause-ok
returns-in-Leaf-clause-ok c = rw c.in-Leaf.is c.last_up_to.ensures.ok

pub returns-in-Leaf-clause-place : goal.returns-in-Leaf-clause-place
returns-in-Leaf-clause-place c = rw c.in-Leaf.is c.last_up_to.ensures.place
