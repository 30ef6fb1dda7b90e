use Rattle.std.proofs.Common.{arith}
use Rattle.tree_pages.proofs.Walks.{noted_first, noted_ends, noted_more, noted_last}
use Rattle.tree_pages.proofs.drop.first_pages.Goals as goal

pub loop-level-init : goal.loop-level-init
loop-level-init g c = noted_first _ _ _ c.new-firsts.ensures.items

pub returns-in_default-clause-ok : goal.returns-in_default-clause-ok
returns-in_default-clause-ok g c = noted_ends _ _ _ _ _ c.loop-level.invariant c.in_default.is

pub loop-level-preserved : goal.loop-level-preserved
loop-level-preserved g c = noted_more _ _ _ _ _ _ _ _ (omega arith) c.loop-level.invariant c.in-Some.is c.in_ok-cursor.ensures.ok c.in_ok-push.ensures.items

pub returns-in-None-clause-ok : goal.returns-in-None-clause-ok
returns-in-None-clause-ok g c = noted_ends _ _ _ _ _ c.loop-level.invariant c.in-None.is

pub returns-in_ok-push-in-Some-cursor-clause-ok : goal.returns-in_ok-push-in-Some-cursor-clause-ok
returns-in_ok-push-in-Some-cursor-clause-ok g c = noted_last _ _ _ _ _ _ _ (omega arith) (omega arith) c.loop-level.invariant c.in-Some-cursor.is c.in_ok-push-in-Some-cursor.ensures.items
