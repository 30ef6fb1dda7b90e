use Rattle.tree_pages.proofs.Sizing.{weighs_pair}
use Rattle.tree_pages.proofs.stats.with_pair.Goals as goal

pub returns-clause-ok : goal.returns-clause-ok
returns-clause-ok c = weighs_pair _ _ _ _ _ _ c.len.ensures c.len-2.ensures c.in_ok-pairs.ensures.ok c.in_ok-key_bytes.ensures.ok c.in_ok-value_bytes.ensures.ok
