use Rattle.example_databases.proofs.Turned.{fills_on}
use Rattle.example_databases.proofs.endings.filled.Goals as goal

pub loop-key-preserved : goal.loop-key-preserved
loop-key-preserved c = fills_on _ _ _ _ _ _ _ c.loop-key.invariant c.in-Some.ensures.items c.in_default-put.ensures.ok
