use Rattle.sled_nodes.specs.Among.{bound_of, is_up_to}
use Rattle.sled_nodes.proofs.Found.{last_entry, last_in, placed}
use Rattle.sled_nodes.proofs.stripped.Stripped+IVec.last_up_to.Goals as goal

pub returns-in_ok-pair-in-Some-clause-ok : goal.returns-in_ok-pair-in-Some-clause-ok
returns-in_ok-pair-in-Some-clause-ok c = last_entry (λ e. is_up_to (bound_of c.args.bound) e.0) c.args.self.now c.in-Some.i c.in_ok-pair-in-Some.pair c.in-Some.ensures c.in_ok-pair-in-Some.ensures.ok.is

pub returns-in_ok-pair-in-Some-clause-place : goal.returns-in_ok-pair-in-Some-clause-place
returns-in_ok-pair-in-Some-clause-place c = placed c.args.self.now c.in-Some.i c.in_ok-pair-in-Some.pair (last_in (λ e. is_up_to (bound_of c.args.bound) e.0) c.args.self.now c.in-Some.i c.in-Some.ensures) c.in_ok-pair-in-Some.ensures.ok.is
