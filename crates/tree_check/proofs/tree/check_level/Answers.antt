use Rattle.std.specs.BTreeSet.{contains}
use Rattle.std.specs.Ordering.{nat_cmp}
use Rattle.tree_check.proofs.Finding.{all_lead}
use Rattle.tree_check.proofs.tree.check_level.Goals as goal

pub returns-clause-ok : goal.returns-clause-ok
returns-clause-ok g c = record {
  first = c.in-Ok.first;
  down = c.in-Ok.ensures.ok;
  children = contains nat_cmp c.in-Ok-merging_children.children;
  has = c.in-Ok-merging_children.ensures.ok;
  middle = c.read_chain-read.new.levels;
  chain = c.in-Ok-read.ensures.ok;
  lead = all_lead _ _ _ _ c.in_default.ensures.lead;
  received = c.in_default.ensures.adds;
}
