use Rattle.std.proofs.Common.{◌∙◌}
use Rattle.tree_reads.proofs.Prefixes.{raised_kept, raised_is}
use Rattle.tree_reads.proofs.prefix.above_prefix.Goals as goal

pub returns-then-last-lt255-clause-ok : goal.returns-then-last-lt255-clause-ok
returns-then-last-lt255-clause-ok c = raised_is c.args.prefix.now _ _ _ _ c.loop-last.invariant c.in-Some.ensures.items c.if-last-lt255.true (c.in_ok-from_slice.ensures.ok ∙ c.as_slice.ensures.value ∙ c.in_ok-push.ensures.items)

pub loop-last-preserved : goal.loop-last-preserved
loop-last-preserved c = raised_kept c.args.prefix.now _ _ _ c.loop-last.invariant c.in-Some.ensures.items c.if-last-lt255.false
