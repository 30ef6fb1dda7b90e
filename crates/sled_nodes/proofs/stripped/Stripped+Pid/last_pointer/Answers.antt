use Rattle.sled_nodes.specs.Among.{bound_of}
use Rattle.sled_nodes.proofs.Found.{pointer_is}
use Rattle.sled_nodes.proofs.stripped.Stripped+Pid.last_pointer.Goals as goal

pub returns-in-Some : goal.returns-in-Some
returns-in-Some c = pointer_is (bound_of c.args.bound) c.args.self.now c.in-Some.i c.pid.result c.pid.ensures c.in-Some.ensures
