use Rattle.std.proofs.Common.{arith}
use Rattle.tree_pages.proofs.Walks.{along_first, along_more, along_ends, along_last}
use Rattle.tree_pages.proofs.export.pairs_along.Goals as goal

pub loop-leaf-init : goal.loop-leaf-init
loop-leaf-init g c = along_first _ _ _ c.new-all.ensures.items

pub loop-leaf-preserved : goal.loop-leaf-preserved
loop-leaf-preserved g c = along_more _ _ _ _ _ _ _ _ _ (omega arith) c.loop-leaf.invariant c.in-Some.is c.in_ok-pairs.ensures.ok c.in_ok-append.ensures.items

pub returns-in_default-clause-ok : goal.returns-in_default-clause-ok
returns-in_default-clause-ok g c = along_ends _ _ _ _ _ c.loop-leaf.invariant c.in_default.is

pub returns-in-None-clause-ok : goal.returns-in-None-clause-ok
returns-in-None-clause-ok g c = along_ends _ _ _ _ _ c.loop-leaf.invariant c.in-None.is

pub returns-in_ok-append-in-Some-cursor-clause-ok : goal.returns-in_ok-append-in-Some-cursor-clause-ok
returns-in_ok-append-in-Some-cursor-clause-ok g c = along_last _ _ _ _ _ _ _ _ (omega arith) (omega arith) c.loop-leaf.invariant c.in-Some-cursor.is c.in_ok-pairs-in-Some-cursor.ensures.ok.0 c.in_ok-append-in-Some-cursor.ensures.items
