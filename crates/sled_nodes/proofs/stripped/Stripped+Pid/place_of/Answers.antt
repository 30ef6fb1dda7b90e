use Rattle.std.proofs.Common.{nat_eq}
use Rattle.sled_nodes.proofs.Behind.{first_value}
use Rattle.sled_nodes.proofs.stripped.Stripped+Pid.place_of.Goals as goal

pub returns : goal.returns
returns c = first_value c.self.inside.prefix (λ v. nat_eq v c.args.to) c.self.inside.rests c.args.self.now c.place_of.result c.self.view_is (rw (← c.as_slice.ensures) c.place_of.ensures)
