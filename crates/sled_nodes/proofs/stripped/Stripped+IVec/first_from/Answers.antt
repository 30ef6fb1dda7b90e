use Rattle.sled_nodes.specs.Among.{bound_of, is_from}
use Rattle.sled_nodes.proofs.Found.{first_entry, first_in, placed}
use Rattle.sled_nodes.proofs.stripped.Stripped+IVec.first_from.Goals as goal

pub returns-in_ok-pair-in-Some-clause-ok : goal.returns-in_ok-pair-in-Some-clause-ok
returns-in_ok-pair-in-Some-clause-ok c = first_entry (λ e. is_from (bound_of c.args.bound) e.0) c.args.self.now c.in-Some.i c.in_ok-pair-in-Some.pair c.in-Some.ensures c.in_ok-pair-in-Some.ensures.ok.is

pub returns-in_ok-pair-in-Some-clause-place : goal.returns-in_ok-pair-in-Some-clause-place
returns-in_ok-pair-in-Some-clause-place c = placed c.args.self.now c.in-Some.i c.in_ok-pair-in-Some.pair (first_in (λ e. is_from (bound_of c.args.bound) e.0) c.args.self.now c.in-Some.i c.in-Some.ensures) c.in_ok-pair-in-Some.ensures.ok.is
