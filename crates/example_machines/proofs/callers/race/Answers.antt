use Rattle.std.proofs.Common.{refl, sym, ap, subst, cond}
use Rattle.sled_model.specs.declared.call.Call.TheVariants.{Insert}
use Rattle.machine_alone.specs.Values.{slots_of}
use Rattle.example_parts.specs.Reads.{maps_now}
use Rattle.example_machines.proofs.callers.race.Goals.{then-is_second, else-is_second}
use Rattle.example_machines.proofs.Calls.{Means, LastPut, last_none, races_begin, steps_mean, races}
use Rattle.example_machines.proofs.callers.race.Goals as goal

pub loop-is_second-init : goal.loop-is_second-init
loop-is_second-init g c =
    races_begin g.P.Pages.store g.P.Pages.flush_number g.M.MergeOperator.meant _ _ _ _ _ _ _ _ _ _ _ refl refl c.in_ok-one.ensures c.in_ok-two.ensures

pub loop-is_second-preserved : goal.loop-is_second-preserved
loop-is_second-preserved g c =
    let i = c.loop-is_second.invariant in (
      steps_mean g.P.Pages.store g.P.Pages.flush_number g.M.MergeOperator.meant _ _ _ _ _ _ _ c.step.ensures.step i.0,
      steps_mean g.P.Pages.store g.P.Pages.flush_number g.M.MergeOperator.meant _ _ _ _ _ _ _ c.step.ensures.step i.1,
      subst (λ last. LastPut g.P.Pages.store g.P.Pages.flush_number g.M.MergeOperator.meant (maps_now g.P.Pages.store g.M.MergeOperator.meant c.args.machine.now.db) c.args.tree.now c.args.key.now c.args.first.now c.args.second.now last (maps_now g.P.Pages.store g.M.MergeOperator.meant c.step.new.self.db)) (sym c.decided_last-last.ensures)
          (elim c.if-is_second.branch [
            | then-is_second w ↦
                races g.P.Pages.store g.P.Pages.flush_number g.M.MergeOperator.meant _ _ _ _ _ _ _ _ _ _ _ _ (sym (ap (λ b. cond b c.args.second.now c.args.first.now) w.if-is_second.true))
                (subst (λ s. Means (slots_of c.loop-is_second.machine.flights) s c.args.tree.now (Insert c.args.key.now c.args.second.now)) (sym w.slot-is) i.1) c.step.ensures.step i.2
            | else-is_second w ↦
                races g.P.Pages.store g.P.Pages.flush_number g.M.MergeOperator.meant _ _ _ _ _ _ _ _ _ _ _ _ (sym (ap (λ b. cond b c.args.second.now c.args.first.now) w.if-is_second.false))
                (subst (λ s. Means (slots_of c.loop-is_second.machine.flights) s c.args.tree.now (Insert c.args.key.now c.args.first.now)) (sym w.slot-is) i.0) c.step.ensures.step i.2
          ]),
    )

pub returns-clause-none : goal.returns-clause-none
returns-clause-none g c =
    last_none g.P.Pages.store g.P.Pages.flush_number g.M.MergeOperator.meant (maps_now g.P.Pages.store g.M.MergeOperator.meant c.args.machine.now.db) (maps_now g.P.Pages.store g.M.MergeOperator.meant c.loop-is_second.machine.db)
    c.args.tree.now c.args.key.now c.args.first.now c.args.second.now c.loop-is_second.last c.loop-is_second.invariant.2
