use Rattle.sled_nodes.specs.Among.{bound_of, is_up_to}
use Rattle.sled_nodes.proofs.Within.{counted}
use Rattle.sled_nodes.proofs.entries.Entries+IVec.count_up_to.Goals as goal

pub returns-then-self : goal.returns-then-self
returns-then-self c = rw (← c.self.view_is, ← c.as_slice-list.ensures.value) (counted (λ e. is_up_to (bound_of c.args.bound) e.0) c.as_slice-list.result.now c.count_up_to.result c.count_up_to.ensures.bound c.count_up_to.ensures.parted)
