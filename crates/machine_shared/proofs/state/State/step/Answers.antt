use Rattle.std.proofs.Common.{◌≡◌, ◌∙◌, ◌++◌, length, sym, ap, subst, arith}
use Rattle.std.proofs.lemmas.List.{length-map}
use Rattle.machine_alone.specs.Values.{slots_of}
use Rattle.machine_shared.specs.Made.{entry_value, entry_values, made_values}
use Rattle.machine_shared.specs.Notes.{entries_of, noted_in}
use Rattle.machine_shared.specs.Scans.{AreInOrder, NotesScan, noted_at, scanned_of}
use Rattle.machine_shared.specs.Sound.{IsState}
use Rattle.machine_shared.specs.Values.{CallerValue, StateValue}
use Rattle.machine_shared.specs.theory.Noting.{first_noted}
use Rattle.machine_shared.proofs.Ids.{step_risen}
use Rattle.machine_shared.proofs.Leading.{step_leaves, legal_of, leads_of}
use Rattle.machine_shared.proofs.ScanStates.{after_step, no_shorter}
use Rattle.machine_shared.proofs.Scanning.{longer_in_order, noted_in_order}
use Rattle.machine_shared.proofs.state.State.step.Goals as goal

pub returns-clause-history : goal.returns-clause-history
returns-clause-history g c =
    let longer = c.note_and_count.ensures.history ∙ ap (λ es. entry_values es ++ entries_of c.me.inside.number (first_noted c.step_noting-outcome.result.1)) c.step_noting-outcome.ensures.history ∙ ap (λ m. entry_values c.self.inside.history.items ++ entries_of c.me.inside.number m) c.step_noting-outcome.ensures.noted in
    subst (λ (s : StateValue _ _). entry_values c.note_and_count.new.history.items ≡ s.history ++ entries_of c.args.me.now.number (noted_in c.step_noting-outcome.result.0 (slots_of s.machine.flights c.args.slot))) c.self.view_is
    (subst (λ (m : CallerValue). entry_values c.note_and_count.new.history.items ≡ entry_values c.self.inside.history.items ++ entries_of m.number (noted_in c.step_noting-outcome.result.0 (slots_of c.self.inside.machine.flights c.args.slot))) c.me.view_is longer)

pub returns-clause-made : goal.returns-clause-made
returns-clause-made g c =
    let longer = c.note_and_count.ensures.made ∙ ap (λ ms. made_values ms ++ first_noted c.step_noting-outcome.result.1) c.step_noting-outcome.ensures.made ∙ ap (λ m. made_values c.me.inside.made.items ++ m) c.step_noting-outcome.ensures.noted in
    subst (λ (s : StateValue _ _). made_values c.note_and_count.new.made.items ≡ c.args.me.now.made ++ noted_in c.step_noting-outcome.result.0 (slots_of s.machine.flights c.args.slot)) c.self.view_is
    (subst (λ (m : CallerValue). made_values c.note_and_count.new.made.items ≡ m.made ++ noted_in c.step_noting-outcome.result.0 (slots_of c.self.inside.machine.flights c.args.slot)) c.me.view_is longer)

pub returns-clause-scans : goal.returns-clause-scans
returns-clause-scans g c =
    let here : c.len-at.result ≡ length (entry_values c.self.inside.history.items) = omega (arith, c.len-at.ensures, c.self.inside.history.ok.0, length-map c.self.inside.history.items entry_value) in
    subst (λ (s : StateValue _ _). NotesScan s.scans (noted_at c.args.slot (length s.history) (scanned_of c.step_noting-outcome.result.0)) c.note_step.new.self) c.self.view_is
    (subst (λ n. NotesScan c.self.inside.scans (noted_at c.args.slot n (scanned_of c.step_noting-outcome.result.0)) c.note_step.new.self) here c.note_step.ensures)

pub invariant_of-self : goal.invariant_of-self
invariant_of-self g c =
    let here_too : c.len-at.result ≡ length (entry_values c.self.inside.history.items) = omega (arith, c.len-at.ensures, c.self.inside.history.ok.0, length-map c.self.inside.history.items entry_value) in
    let here : c.len-at.result ≡ length c.self.inside.history.items = omega (arith, c.len-at.ensures, c.self.inside.history.ok.0) in
    let longer = c.note_and_count.ensures.history ∙ ap (λ es. entry_values es ++ entries_of c.me.inside.number (first_noted c.step_noting-outcome.result.1)) c.step_noting-outcome.ensures.history ∙ ap (λ m. entry_values c.self.inside.history.items ++ entries_of c.me.inside.number m) c.step_noting-outcome.ensures.noted in
    let crashes = step_leaves g.P.Pages.store g.P.Pages.flush_number g.M.MergeOperator.meant c.self.inside.machine c.step_noting-outcome.new.machine c.self.inside.opening.contents (entry_values c.self.inside.history.items) c.self.invariant.0.crashes c.me.inside.number c.args.slot _ _ c.step_noting-outcome.ensures.step.step longer in
    let now : IsState g.P.Pages.store c.step_noting-outcome.new.machine c.self.inside.opening (entry_values c.note_and_count.new.history.items) c.note_and_count.new.calls.total = record {
      legal = legal_of crashes.0;
      leads = leads_of crashes.0;
      crashes = crashes.0;
      covers = λ f. crashes.1 ∙ c.self.invariant.0.covers f;
      ids = step_risen g.P.Pages.store g.P.Pages.flush_number g.M.MergeOperator.meant c.self.inside.machine c.step_noting-outcome.new.machine c.me.inside.number _ _ _ _ _ c.step_noting-outcome.ensures.step.step.step.is longer c.self.invariant.0.ids;
      counted = length-map c.note_and_count.new.history.items entry_value ∙ c.note_and_count.ensures.counted;
    } in (
      now,
      longer_in_order c.note_step.new.self.notes c.self.inside.history.items c.note_and_count.new.history.items _ longer
          (subst (λ n. AreInOrder 0 c.note_step.new.self.notes n) here
          (noted_in_order c.self.inside.scans c.note_step.new.self c.args.slot c.len-at.result _ c.note_step.ensures
          (subst (λ n. AreInOrder 0 c.self.inside.scans.notes n) (sym here) c.self.invariant.1))),
      after_step g.P.Pages.store g.P.Pages.flush_number g.M.MergeOperator.meant c.self.inside.machine c.step_noting-outcome.new.machine c.self.inside.opening.contents (entry_values c.self.inside.history.items) (entry_values c.note_and_count.new.history.items) c.self.invariant.0.crashes crashes.0 crashes.2 (no_shorter _ _ _ longer) c.self.inside.scans c.self.invariant.2 c.audit.ensures.ascend.is
          c.args.slot c.step_noting-outcome.result.0 c.step_noting-outcome.ensures.step.step c.audit.ensures.slots c.note_step.new.self
          (subst (λ n. NotesScan c.self.inside.scans (noted_at c.args.slot n (scanned_of c.step_noting-outcome.result.0)) c.note_step.new.self) here_too c.note_step.ensures),
    )
