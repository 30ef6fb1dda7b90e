use Rattle.std.proofs.Common.{◌≡◌, ◌∙◌, Some, option_map, sym, subst}
use Rattle.std.proofs.lemmas.List.{length-map}
use Rattle.machine_shared.specs.Made.{entry_value, entry_values}
use Rattle.machine_shared.specs.Sound.{IsState}
use Rattle.machine_shared.proofs.Ids.{step_risen}
use Rattle.machine_shared.proofs.Leading.{step_leaves, legal_of, leads_of}
use Rattle.machine_shared.proofs.ScanStates.{after_key_step, no_shorter}
use Rattle.machine_shared.proofs.Scanning.{longer_in_order}
use Rattle.machine_alone.specs.Values.{job_of_call, slots_of}
use Rattle.machine_shared.specs.Values.{StateValue}
use Rattle.machine_shared.specs.theory.Noting.{job_pair}
use Rattle.machine_shared.proofs.state.State.step_copied.Goals as goal

pub invariant_of-self : goal.invariant_of-self
invariant_of-self g c =
    let longer = c.step_noting_jobs.ensures.history in
    let crashes = step_leaves g.P.Pages.store g.P.Pages.flush_number g.M.MergeOperator.meant c.self.inside.machine c.step_noting_jobs.new.machine c.self.inside.opening.contents (entry_values c.self.inside.history.items) c.self.invariant.0.crashes c.me.inside.number c.args.slot _ _ c.step_noting_jobs.ensures.step.step longer in
    let now : IsState g.P.Pages.store c.step_noting_jobs.new.machine c.self.inside.opening (entry_values c.step_noting_jobs.new.history.items) c.step_noting_jobs.new.calls.total = record {
      legal = legal_of crashes.0;
      leads = leads_of crashes.0;
      crashes = crashes.0;
      covers = λ f. crashes.1 ∙ c.self.invariant.0.covers f;
      ids = step_risen g.P.Pages.store g.P.Pages.flush_number g.M.MergeOperator.meant c.self.inside.machine c.step_noting_jobs.new.machine c.me.inside.number _ _ _ _ _ c.step_noting_jobs.ensures.step.step.step.is longer c.self.invariant.0.ids;
      counted = length-map c.step_noting_jobs.new.history.items entry_value ∙ c.step_noting_jobs.ensures.counted;
    } in (
      now,
      longer_in_order c.self.inside.scans.notes c.self.inside.history.items c.step_noting_jobs.new.history.items _ longer c.self.invariant.1,
      after_key_step g.P.Pages.store g.P.Pages.flush_number g.M.MergeOperator.meant c.self.inside.machine c.step_noting_jobs.new.machine c.self.inside.opening.contents (entry_values c.self.inside.history.items) (entry_values c.step_noting_jobs.new.history.items) c.self.invariant.0.crashes crashes.0 crashes.2 (no_shorter _ _ _ longer) c.self.inside.scans c.self.invariant.2 c.audit.ensures.ascend.is
          c.args.slot _ c.step_noting_jobs.ensures.step.step _ _ (subst (λ (s : StateValue _ _). option_map job_of_call (slots_of s.machine.flights c.args.slot) ≡ Some (job_pair c.args.jobs.0.tree c.args.jobs.0.call)) (sym c.self.view_is) c.requires.here) c.requires.key,
    )
