use Rattle.std.proofs.Common.{refl}
use Rattle.sled_tree.proofs.Following.{outside, inside}
use Rattle.sled_tree.proofs.Arriving.{helps}
use Rattle.sled_tree.proofs.Passing.{shut_merging, shut_child, shut_long, shut_behind, shut_outside}
use Rattle.sled_tree.proofs.repair.repair.Goals as goal

pub returns-then-node-clause-passes : goal.returns-then-node-clause-passes
returns-then-node-clause-passes c = shut_merging _ _ _ _ (rw c.deref-node.ensures at c.if-node.true)

pub returns-in-Some-clause-arrives : goal.returns-in-Some-clause-arrives
returns-in-Some-clause-arrives c = helps _ _ _ _ _ (rw c.deref-node.ensures at c.if-node.false) (rw c.deref-node.ensures at c.in-Some.is) c.help.ensures

pub returns-in-Some-clause-passes : goal.returns-in-Some-clause-passes
returns-in-Some-clause-passes c = shut_child _ _ _ _ _ (rw c.deref-node.ensures at c.in-Some.is)

pub returns-then-should_split-clause-passes : goal.returns-then-should_split-clause-passes
returns-then-should_split-clause-passes c = shut_long _ _ _ _ _ (rw c.deref-node.ensures at c.should_split.ensures) c.if-should_split.true

pub returns-then-ends_within-clause-passes : goal.returns-then-ends_within-clause-passes
returns-then-ends_within-clause-passes c = shut_behind _ _ _ _ _ _ c.target.ensures (rw c.deref-node.ensures at c.ends_within.ensures) c.if-ends_within.true

pub returns-then-not-lies_under-clause-passes : goal.returns-then-not-lies_under-clause-passes
returns-then-not-lies_under-clause-passes c = shut_outside _ _ _ _ _ _ c.target-2.ensures (rw c.deref-node.ensures at c.lies_under.ensures) c.if-not-lies_under.true

pub returns-then-not-lies_under-clause-follows : goal.returns-then-not-lies_under-clause-follows
returns-then-not-lies_under-clause-follows c = outside _ _ _ _ (rw c.deref-node.ensures at c.if-node.false) (rw c.deref-node.ensures at c.in_default.is) _ (rw c.deref-node.ensures at c.should_split.ensures) c.if-should_split.false (rw c.deref-node.ensures at c.if-node.false, rw c.deref-node.ensures at c.in_default.is) _ _ c.target.ensures c.target-2.ensures _ (rw c.deref-node.ensures at c.ends_within.ensures) c.if-ends_within.false _ (rw c.deref-node.ensures at c.lies_under.ensures) c.if-not-lies_under.true refl

pub returns-clause-follows : goal.returns-clause-follows
returns-clause-follows c = inside _ _ _ _ (rw c.deref-node.ensures at c.if-node.false) (rw c.deref-node.ensures at c.in_default.is) _ (rw c.deref-node.ensures at c.should_split.ensures) c.if-should_split.false (rw c.deref-node.ensures at c.if-node.false, rw c.deref-node.ensures at c.in_default.is) _ _ c.target.ensures c.target-2.ensures _ (rw c.deref-node.ensures at c.ends_within.ensures) c.if-ends_within.false _ (rw c.deref-node.ensures at c.lies_under.ensures) c.if-not-lies_under.false c.repair_parent.ensures.follows
