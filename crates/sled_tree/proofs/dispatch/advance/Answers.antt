use Rattle.std.proofs.Common.{rules}
use Rattle.sled_tree.proofs.Facts.{flies_by_these}
use Rattle.sled_tree.proofs.dispatch.advance.Goals as goal

pub returns-in-Leaf-clause-advances : goal.returns-in-Leaf-clause-advances
returns-in-Leaf-clause-advances g c = flies_by_these _ _ _ _ _ (search rules)

pub returns-in-Unclean-clause-advances : goal.returns-in-Unclean-clause-advances
returns-in-Unclean-clause-advances g c = flies_by_these _ _ _ _ _ (search rules)

pub returns-in-Lost-clause-advances : goal.returns-in-Lost-clause-advances
returns-in-Lost-clause-advances g c = flies_by_these _ _ _ _ _ (search rules)

pub returns-in-Refused-clause-advances : goal.returns-in-Refused-clause-advances
returns-in-Refused-clause-advances g c = flies_by_these _ _ _ _ _ (search rules)
