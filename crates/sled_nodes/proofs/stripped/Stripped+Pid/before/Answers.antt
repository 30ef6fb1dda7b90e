use Rattle.sled_nodes.proofs.Found.{before_is, none_before}
use Rattle.sled_nodes.proofs.stripped.Stripped+Pid.before.Goals as goal

pub returns-in-Some : goal.returns-in-Some
returns-in-Some c = before_is c.args.to c.pid.result c.args.self.now c.in-Some.i c.in-Some.i-test.1 c.pid.ensures c.in-Some.ensures

pub returns-in-Some-eq0 : goal.returns-in-Some-eq0
returns-in-Some-eq0 c = none_before c.args.to c.args.self.now c.in-Some-eq0.field-0 c.in-Some-eq0.field-0-test c.in-Some-eq0.ensures
