use Rattle.tree_groups.proofs.Writing.{open_law, refused_law, sealed_law, bounds_law}
use Rattle.tree_groups.proofs.group.law_group.Goals as goal

pub returns-clause-open : goal.returns-clause-open
returns-clause-open c = open_law

pub returns-clause-refused : goal.returns-clause-refused
returns-clause-refused c = refused_law

pub returns-clause-sealed : goal.returns-clause-sealed
returns-clause-sealed c = sealed_law

pub returns-clause-bounds : goal.returns-clause-bounds
returns-clause-bounds c = bounds_law
