use Rattle.std.proofs.Common.{sym, ap, ◌∙◌}
use Rattle.sled.specs.Pops.{pop_of}
use Rattle.machine_alone.proofs.Wholes.{decided_machine, refused_machine}
use Rattle.machine_alone.proofs.Keeping.{keeps_decided, told_refused, pop_other, pop_again, pop_counts, pop_way, pop_stops, pop_ends}
use Rattle.machine_alone.proofs.machine.Machine.pop.Goals as goal

pub returns : goal.returns
returns g c = keeps_decided g.P.Pages.store g.P.Pages.flush_number g.M.MergeOperator.meant g.K.Keep.kept _ _ c.self.view_is c.self.invariant (pop_of c.args.side c.args.tree.now) (pop_other c.args.side c.args.tree.now) _ _ c.in-Ok.all.1 0 c.in-Ok.ensures.ok (pop_way _ _ _ _ _ c.args.side _ c.in-Ok.ensures.steps) (c.in-Ok.ensures.kept ∙ sym (ap g.K.Keep.kept (pop_again c.args.side c.args.tree.now _))) (pop_counts _ _ _ _ _ c.args.side _)

pub returns-in-Err : goal.returns-in-Err
returns-in-Err g c = told_refused g.P.Pages.store g.P.Pages.flush_number g.M.MergeOperator.meant g.K.Keep.kept _ _ c.self.view_is c.self.invariant (pop_of c.args.side c.args.tree.now) (pop_other c.args.side c.args.tree.now) _ _ c.in-Err.e 0 c.refused.ensures c.in-Err.ensures.err (pop_ends _ _ _ _ c.args.side _ c.in-Err.ensures.gives_up) (pop_stops _ _ _ _ _ c.args.side _ c.in-Err.ensures.refused) (pop_counts _ _ _ _ _ c.args.side _)

pub invariant_of-self-2 : goal.invariant_of-self-2
invariant_of-self-2 g c = decided_machine g.P.Pages.store g.P.Pages.flush_number g.M.MergeOperator.meant _ _ c.self.view_is c.self.invariant (pop_of c.args.side c.args.tree.now) (pop_other c.args.side c.args.tree.now) _ _ c.in-Ok.ensures.ok

pub invariant_of-self : goal.invariant_of-self
invariant_of-self g c = refused_machine g.P.Pages.store g.P.Pages.flush_number g.M.MergeOperator.meant _ _ c.self.view_is c.self.invariant (pop_of c.args.side c.args.tree.now) (pop_other c.args.side c.args.tree.now) _ _ c.in-Err.ensures.err
