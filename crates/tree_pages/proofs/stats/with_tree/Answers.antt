use Rattle.tree_pages.proofs.stats.with_tree.Goals as goal

pub returns-clause-ok : goal.returns-clause-ok
returns-clause-ok c = record {
  trees = c.in_ok-trees.ensures.ok;
  pages = c.in_ok-pages.ensures.ok;
  levels = c.max-levels.ensures;
  pairs = c.in_ok-pairs.ensures.ok;
  keys = c.in_ok-key_bytes.ensures.ok;
  values = c.in_ok-value_bytes.ensures.ok;
}
