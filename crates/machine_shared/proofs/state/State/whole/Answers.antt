use Rattle.std.proofs.Common.{◌∙◌, ◌++◌, ap, subst}
use Rattle.std.proofs.lemmas.List.{length-map}
use Rattle.machine_shared.specs.Made.{entry_value, entry_values, made_values}
use Rattle.machine_shared.specs.Notes.{entries_of}
use Rattle.machine_shared.specs.Sound.{IsState}
use Rattle.machine_shared.specs.Values.{CallerValue, StateValue}
use Rattle.machine_shared.specs.WholeNotes.{NotesWhole}
use Rattle.machine_shared.specs.theory.Noting.{first_noted}
use Rattle.machine_shared.proofs.Ids.{whole_risen}
use Rattle.machine_shared.proofs.Leading.{whole_leaves, legal_of, leads_of}
use Rattle.machine_shared.proofs.ScanStates.{after_whole, no_shorter}
use Rattle.machine_shared.proofs.Scanning.{longer_in_order}
use Rattle.machine_shared.proofs.state.State.whole.Goals as goal

pub returns-clause-whole : goal.returns-clause-whole
returns-clause-whole g c =
    let notes : NotesWhole g.P.Pages.store g.P.Pages.flush_number g.M.MergeOperator.meant c.self.inside.machine (entry_values c.self.inside.history.items) c.me.inside.number (made_values c.me.inside.made.items) c.args.whole c.whole_noting-outcome.result.0 c.whole_noting-outcome.new.machine (entry_values c.note_and_count.new.history.items) (made_values c.note_and_count.new.made.items) = record {
      noted = first_noted c.whole_noting-outcome.result.1;
      comes = c.whole_noting-outcome.ensures.comes;
      adds = c.note_and_count.ensures.history ∙ ap (λ es. entry_values es ++ entries_of c.me.inside.number (first_noted c.whole_noting-outcome.result.1)) c.whole_noting-outcome.ensures.history;
      adds_there = c.note_and_count.ensures.made ∙ ap (λ ms. made_values ms ++ first_noted c.whole_noting-outcome.result.1) c.whole_noting-outcome.ensures.made;
    } in
    subst (λ (s : StateValue _ _). NotesWhole g.P.Pages.store g.P.Pages.flush_number g.M.MergeOperator.meant s.machine s.history c.args.me.now.number c.args.me.now.made c.args.whole c.whole_noting-outcome.result.0 c.whole_noting-outcome.new.machine (entry_values c.note_and_count.new.history.items) (made_values c.note_and_count.new.made.items)) c.self.view_is
    (subst (λ (m : CallerValue). NotesWhole g.P.Pages.store g.P.Pages.flush_number g.M.MergeOperator.meant c.self.inside.machine (entry_values c.self.inside.history.items) m.number m.made c.args.whole c.whole_noting-outcome.result.0 c.whole_noting-outcome.new.machine (entry_values c.note_and_count.new.history.items) (made_values c.note_and_count.new.made.items)) c.me.view_is notes)

pub invariant_of-self : goal.invariant_of-self
invariant_of-self g c =
    let notes : NotesWhole g.P.Pages.store g.P.Pages.flush_number g.M.MergeOperator.meant c.self.inside.machine (entry_values c.self.inside.history.items) c.me.inside.number (made_values c.me.inside.made.items) c.args.whole c.whole_noting-outcome.result.0 c.whole_noting-outcome.new.machine (entry_values c.note_and_count.new.history.items) (made_values c.note_and_count.new.made.items) = record {
      noted = first_noted c.whole_noting-outcome.result.1;
      comes = c.whole_noting-outcome.ensures.comes;
      adds = c.note_and_count.ensures.history ∙ ap (λ es. entry_values es ++ entries_of c.me.inside.number (first_noted c.whole_noting-outcome.result.1)) c.whole_noting-outcome.ensures.history;
      adds_there = c.note_and_count.ensures.made ∙ ap (λ ms. made_values ms ++ first_noted c.whole_noting-outcome.result.1) c.whole_noting-outcome.ensures.made;
    } in
    let crashes = whole_leaves g.P.Pages.store g.P.Pages.flush_number g.M.MergeOperator.meant c.self.inside.machine c.whole_noting-outcome.new.machine c.self.inside.opening.contents (entry_values c.self.inside.history.items) c.self.invariant.0.crashes c.me.inside.number _ _ _ _ _ notes in
    let now : IsState g.P.Pages.store c.whole_noting-outcome.new.machine c.self.inside.opening (entry_values c.note_and_count.new.history.items) c.note_and_count.new.calls.total = record {
      legal = legal_of crashes.0;
      leads = leads_of crashes.0;
      crashes = crashes.0;
      covers = λ f. crashes.1 ∙ c.self.invariant.0.covers f;
      ids = whole_risen g.P.Pages.store g.P.Pages.flush_number g.M.MergeOperator.meant c.self.inside.machine c.whole_noting-outcome.new.machine c.me.inside.number _ _ _ _ _ _ notes c.self.invariant.0.ids;
      counted = length-map c.note_and_count.new.history.items entry_value ∙ c.note_and_count.ensures.counted;
    } in (
      now,
      longer_in_order c.self.inside.scans.notes c.self.inside.history.items c.note_and_count.new.history.items _ notes.adds c.self.invariant.1,
      after_whole g.P.Pages.store g.P.Pages.flush_number g.M.MergeOperator.meant c.self.inside.machine c.whole_noting-outcome.new.machine c.self.inside.opening.contents (entry_values c.self.inside.history.items) (entry_values c.note_and_count.new.history.items) c.self.invariant.0.crashes crashes.0 crashes.2 (no_shorter _ _ _ notes.adds) c.self.inside.scans c.self.invariant.2 c.audit.ensures.ascend.is
          _ _ _ _ _ notes,
    )
