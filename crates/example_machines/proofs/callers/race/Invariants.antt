use Rattle.sled_model.specs.declared.call.Call.TheVariants.{Insert}
use Rattle.machine_alone.specs.Values.{slots_of}
use Rattle.example_parts.specs.Reads.{maps_now}
use Rattle.example_machines.proofs.Calls.{Means, LastPut}
use Rattle.example_machines.proofs.callers.race.Given as goal

-- each slot has its insert or none, and the last that was decided is seen
abbrev pub invariant-loop-is_second : goal.invariant-loop-is_second
invariant-loop-is_second g l =
    Means (slots_of l.machine.flights) l.one l.tree (Insert l.key l.first)
    × Means (slots_of l.machine.flights) l.two l.tree (Insert l.key l.second)
    × LastPut g.P.Pages.store g.P.Pages.flush_number g.M.MergeOperator.meant (maps_now g.P.Pages.store g.M.MergeOperator.meant l.fn.machine.db) l.tree l.key l.first l.second l.last (maps_now g.P.Pages.store g.M.MergeOperator.meant l.machine.db)
