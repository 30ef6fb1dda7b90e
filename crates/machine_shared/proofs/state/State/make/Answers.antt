use Rattle.std.proofs.Common.{◌≡◌, ◌∙◌, ◌++◌, ap}
use Rattle.std.proofs.lemmas.List.{length-map}
use Rattle.machine_shared.specs.Made.{entry_value, entry_values, made_values}
use Rattle.machine_shared.specs.Notes.{entries_of}
use Rattle.machine_shared.specs.theory.Noting.{first_noted}
use Rattle.machine_shared.proofs.Committing.{made_group, unmade_group}
use Rattle.machine_shared.proofs.GroupStates.{grouped_state}
use Rattle.machine_shared.proofs.ScanStates.{after_group, no_shorter}
use Rattle.machine_shared.proofs.Scanning.{longer_in_order}
use Rattle.machine_shared.proofs.state.State.make.Goals as goal

pub invariant_of-self : goal.invariant_of-self
invariant_of-self g c =
    let adds : entry_values c.note_and_count.new.history.items ≡ entry_values c.self.inside.history.items ++ entries_of c.me.inside.number (first_noted c.group_noting-ended.result.1) =
    c.note_and_count.ensures.history ∙ ap (λ es. entry_values es ++ entries_of c.me.inside.number (first_noted c.group_noting-ended.result.1)) c.group_noting-ended.ensures.history in
    let after = grouped_state g.P.Pages.store g.P.Pages.flush_number g.M.MergeOperator.meant c.self.inside.machine c.group_noting-ended.new.machine c.self.inside.opening
    (entry_values c.self.inside.history.items) (entry_values c.note_and_count.new.history.items) c.self.inside.calls.total c.note_and_count.new.calls.total c.self.invariant.0
    (length-map c.note_and_count.new.history.items entry_value ∙ c.note_and_count.ensures.counted)
    c.me.inside.number c.args.group c.group_noting-ended.result.0 (first_noted c.group_noting-ended.result.1)
    c.group_noting-ended.ensures.ok c.group_noting-ended.ensures.noted c.group_noting-ended.ensures.err c.group_noting-ended.ensures.none adds in (
      after.0,
      longer_in_order c.self.inside.scans.notes c.self.inside.history.items c.note_and_count.new.history.items _ adds c.self.invariant.1,
      after_group g.P.Pages.store g.P.Pages.flush_number g.M.MergeOperator.meant c.self.inside.machine c.group_noting-ended.new.machine c.self.inside.opening.contents (entry_values c.self.inside.history.items) (entry_values c.note_and_count.new.history.items) c.self.invariant.0.crashes after.0.crashes after.1 (no_shorter _ _ _ adds) c.self.inside.scans c.self.invariant.2 c.audit.ensures.ascend.is
          c.args.group c.group_noting-ended.result.0 c.group_noting-ended.ensures.ok c.group_noting-ended.ensures.err,
    )

pub returns-clause-makes : goal.returns-clause-makes
returns-clause-makes g c = made_group g.P.Pages.store g.P.Pages.flush_number g.M.MergeOperator.meant c.self.inside.machine c.group_noting-ended.new.machine c.self.inside.opening c.self.inside.scans (entry_values c.self.inside.history.items) (entry_values c.note_and_count.new.history.items) c.me.inside.number (made_values c.me.inside.made.items) (made_values c.note_and_count.new.made.items)
    c.args.group (first_noted c.group_noting-ended.result.1) _ c.self.view_is _ c.me.view_is
    (c.note_and_count.ensures.history ∙ ap (λ es. entry_values es ++ entries_of c.me.inside.number (first_noted c.group_noting-ended.result.1)) c.group_noting-ended.ensures.history)
    (c.note_and_count.ensures.made ∙ ap (λ ms. made_values ms ++ first_noted c.group_noting-ended.result.1) c.group_noting-ended.ensures.made)
    c.group_noting-ended.result.0 c.group_noting-ended.ensures.ok c.group_noting-ended.ensures.noted

pub returns-clause-stops : goal.returns-clause-stops
returns-clause-stops g c = unmade_group g.P.Pages.store g.P.Pages.flush_number g.M.MergeOperator.meant c.self.inside.machine c.group_noting-ended.new.machine c.self.inside.opening c.self.inside.scans (entry_values c.self.inside.history.items) (entry_values c.note_and_count.new.history.items) c.me.inside.number (made_values c.me.inside.made.items) (made_values c.note_and_count.new.made.items)
    c.args.group (first_noted c.group_noting-ended.result.1) _ c.self.view_is _ c.me.view_is
    (c.note_and_count.ensures.history ∙ ap (λ es. entry_values es ++ entries_of c.me.inside.number (first_noted c.group_noting-ended.result.1)) c.group_noting-ended.ensures.history)
    (c.note_and_count.ensures.made ∙ ap (λ ms. made_values ms ++ first_noted c.group_noting-ended.result.1) c.group_noting-ended.ensures.made)
    c.group_noting-ended.result.0 c.group_noting-ended.ensures.err c.group_noting-ended.ensures.none
