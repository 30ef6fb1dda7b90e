use Rattle.std.proofs.Common.{rules, ◌≡◌, arith, ◌++◌, ◌∷◌, [], take, ◌∙◌, ap, ◌+◌, sym}
use Rattle.std.proofs.lemmas.List.{take_more}
use Rattle.machine_alone.proofs.Runs.{performs_all_none, performs_all_more}
use Rattle.machine_alone.proofs.machine.Machine.run.Goals as goal

pub loop-step-init : goal.loop-step-init
loop-step-init g c = let start = performs_all_none g.P.Pages.store g.P.Pages.flush_number g.M.MergeOperator.meant c.args.self.now _ (sym c.in-Ok.ensures.items) in (start.0, start.1, search rules, search rules)

pub loop-step-preserved : goal.loop-step-preserved
loop-step-preserved g c =
    let i = c.loop-step.step-index in
    let pushed : c.push.new.self.items ≡ c.loop-step.outcomes.items ++ c.perform-outcome.result ∷ [] = search rules in
    let taken : take (i + 1) c.args.steps.now ≡ take i c.args.steps.now ++ c.step-item.result ∷ [] = take_more c.args.steps.now i c.step-item.result (omega arith) ∙ ap (λ z. take i c.args.steps.now ++ z ∷ []) (sym c.step-item.is) in
    let more = performs_all_more g.P.Pages.store g.P.Pages.flush_number g.M.MergeOperator.meant c.args.self.now c.loop-step.self c.perform-outcome.new.self (take i c.args.steps.now) c.loop-step.outcomes.items c.step-item.result c.perform-outcome.result _ _ (sym taken) (sym pushed)
    c.loop-step.invariant.0 c.loop-step.invariant.1 c.perform-outcome.ensures in
    (more.0, more.1, search rules, search rules)
