use Rattle.tree_check.proofs.Finding.{chain_none, chain_goes, chain_ends}
use Rattle.tree_check.proofs.chain.read_chain.Goals as goal

pub loop-init : goal.loop-init
loop-init g c = rw c.new-chain.ensures.items (chain_none _ _ _ _ _)

pub returns-in-Ok-None-clause-ok : goal.returns-in-Ok-None-clause-ok
returns-in-Ok-None-clause-ok g c = chain_ends _ _ _ _ _ _ _ _ _ _ _ c.loop.invariant c.in-Ok-None.ensures.ok c.in-Ok-None.field-0-is

pub loop-preserved : goal.loop-preserved
loop-preserved g c = chain_goes _ _ _ _ _ _ _ _ _ _ _ _ c.loop.invariant c.in-Ok-Some.ensures.ok c.in-Ok-Some.field-0-is
