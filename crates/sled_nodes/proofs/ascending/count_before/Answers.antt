use Rattle.std.proofs.Common.{ap}
use Rattle.sled_nodes.specs.Among.{bound_of}
use Rattle.sled_nodes.proofs.Rising.{before_included, before_excluded}
use Rattle.sled_nodes.proofs.ascending.count_before.Goals as goal

pub returns-in-Included-clause-parted : goal.returns-in-Included-clause-parted
returns-in-Included-clause-parted g c = before_included (bound_of c.args.bound) c.args.pairs.now c.requires.sorted c.count_below.result c.in-Included.start.now (ap bound_of c.in-Included.is) c.count_below.ensures.parted

pub returns-in-Excluded-clause-parted : goal.returns-in-Excluded-clause-parted
returns-in-Excluded-clause-parted g c = before_excluded (bound_of c.args.bound) c.args.pairs.now c.requires.sorted c.count_to.result c.in-Excluded.start.now (ap bound_of c.in-Excluded.is) c.count_to.ensures.parted
