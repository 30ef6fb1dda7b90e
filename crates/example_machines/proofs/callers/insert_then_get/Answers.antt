use Rattle.example_machines.proofs.Calls.{inserted_got, undecided}
use Rattle.example_machines.proofs.callers.insert_then_get.Goals as goal

pub returns-clause-reads : goal.returns-clause-reads
returns-clause-reads g c = (inserted_got g.P.Pages.store g.P.Pages.flush_number g.M.MergeOperator.meant _ _ _ c.get.new.machine _ _ _ _ _ _ _ c.in_ok-insert_of.ensures c.in_ok-slot.ensures.ok c.in-Decided.ensures c.in_ok-got.ensures.reads c.in_ok-got.ensures.same).0

pub returns-clause-puts : goal.returns-clause-puts
returns-clause-puts g c = (inserted_got g.P.Pages.store g.P.Pages.flush_number g.M.MergeOperator.meant _ _ _ c.get.new.machine _ _ _ _ _ _ _ c.in_ok-insert_of.ensures c.in_ok-slot.ensures.ok c.in-Decided.ensures c.in_ok-got.ensures.reads c.in_ok-got.ensures.same).1

pub returns-in_default : goal.returns-in_default
returns-in_default g c = record {
  none = undecided g.P.Pages.store g.P.Pages.flush_number g.M.MergeOperator.meant _ _ _ _ _ _ _ c.in_default.not-Decided c.in_ok-slot.ensures.ok c.finish.ensures;
  reads = tt;
  puts = tt;
}
