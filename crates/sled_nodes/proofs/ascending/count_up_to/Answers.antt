use Rattle.std.proofs.Common.{ap}
use Rattle.sled_nodes.specs.Among.{bound_of}
use Rattle.sled_nodes.proofs.Rising.{up_to_included, up_to_excluded}
use Rattle.sled_nodes.proofs.ascending.count_up_to.Goals as goal

pub returns-in-Included-clause-parted : goal.returns-in-Included-clause-parted
returns-in-Included-clause-parted g c = up_to_included (bound_of c.args.bound) c.args.pairs.now c.requires.sorted c.count_to.result c.in-Included.end.now (ap bound_of c.in-Included.is) c.count_to.ensures.parted

pub returns-in-Excluded-clause-parted : goal.returns-in-Excluded-clause-parted
returns-in-Excluded-clause-parted g c = up_to_excluded (bound_of c.args.bound) c.args.pairs.now c.requires.sorted c.count_below.result c.in-Excluded.end.now (ap bound_of c.in-Excluded.is) c.count_below.ensures.parted
