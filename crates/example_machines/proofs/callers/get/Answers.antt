use Rattle.std.proofs.Common.{subst}
use Rattle.example_parts.specs.Reads.{found_in, maps_now}
use Rattle.example_machines.specs.Callers.{ReadsAs}
use Rattle.example_machines.proofs.Calls.{got, got_promptly}
use Rattle.example_machines.proofs.callers.get.Goals as goal

pub returns-clause-reads : goal.returns-clause-reads
returns-clause-reads g c =
    subst (λ k. ReadsAs (found_in (maps_now g.P.Pages.store g.M.MergeOperator.meant c.args.machine.now.db c.args.tree.now.name) k) c.finish.result) c.in_ok-clone.ensures.ok
    (got g.P.Pages.store g.P.Pages.flush_number g.M.MergeOperator.meant _ _ _ _ _ _ _ c.in_ok-slot.ensures.ok c.finish.ensures).0

pub returns-clause-same : goal.returns-clause-same
returns-clause-same g c = (got g.P.Pages.store g.P.Pages.flush_number g.M.MergeOperator.meant _ _ _ _ _ _ _ c.in_ok-slot.ensures.ok c.finish.ensures).1

pub returns-clause-prompt : goal.returns-clause-prompt
returns-clause-prompt g c = got_promptly g.P.Pages.store g.P.Pages.flush_number g.M.MergeOperator.meant _ _ _ _ _ _ _ c.in_ok-slot.ensures.ok c.finish.ensures
