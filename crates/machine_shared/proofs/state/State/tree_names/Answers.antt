use Rattle.std.proofs.Common.{◌∙◌, [], ◌++◌, refl, ap}
use Rattle.std.proofs.lemmas.List.{length-map}
use Rattle.machine_shared.specs.Made.{entry_value, entry_values, made_values}
use Rattle.machine_shared.specs.Notes.{entries_of}
use Rattle.machine_shared.specs.Reads.{OfNames}
use Rattle.machine_shared.specs.theory.Noting.{first_noted}
use Rattle.machine_shared.specs.declared.read.Read.TheVariants as read
use Rattle.machine_shared.proofs.UnderLocks.{looked, read_noted}
use Rattle.machine_shared.proofs.ReadMakes.{notes_so, read_state}
use Rattle.machine_shared.proofs.ScanStates.{after_none, no_shorter}
use Rattle.machine_shared.proofs.Scanning.{longer_in_order}
use Rattle.machine_shared.proofs.state.State.tree_names.Goals as goal

pub invariant_of-self : goal.invariant_of-self
invariant_of-self g c =
    let longer = c.note_and_count.ensures.history ∙ ap (λ es. entry_values es ++ entries_of c.me.inside.number (first_noted c.names_noting-names.result.1)) c.names_noting-names.ensures.history in
    let after = read_state g.P.Pages.store g.P.Pages.flush_number g.M.MergeOperator.meant c.self.inside.machine c.self.inside.opening
    (entry_values c.self.inside.history.items) (entry_values c.note_and_count.new.history.items) c.self.inside.calls.total c.note_and_count.new.calls.total c.self.invariant.0
    (length-map c.note_and_count.new.history.items entry_value ∙ c.note_and_count.ensures.counted)
    c.me.inside.number (first_noted c.names_noting-names.result.1) (notes_so g.P.Pages.store g.M.MergeOperator.meant c.self.inside.machine [] read.Names c.names_noting-names.result.0 (first_noted c.names_noting-names.result.1) c.names_noting-names.ensures.ok c.names_noting-names.ensures.err c.names_noting-names.ensures.reads)
    longer in (
      after.0,
      longer_in_order c.self.inside.scans.notes c.self.inside.history.items c.note_and_count.new.history.items _ longer c.self.invariant.1,
      after_none g.P.Pages.store g.P.Pages.flush_number g.M.MergeOperator.meant c.self.inside.machine c.self.inside.machine c.self.inside.opening.contents (entry_values c.self.inside.history.items) (entry_values c.note_and_count.new.history.items) c.self.invariant.0.crashes after.0.crashes after.1 (no_shorter _ _ _ longer) c.self.inside.scans c.self.invariant.2 c.audit.ensures.ascend.is refl,
    )

pub returns-clause-looks : goal.returns-clause-looks
returns-clause-looks g c =
    let noted = read_noted read.Names c.names_noting-names.result.0 (first_noted c.names_noting-names.result.1) c.names_noting-names.ensures.ok c.names_noting-names.ensures.err in
    looked g.P.Pages.store g.M.MergeOperator.meant OfNames read.Names c.names_noting-names.result.0 c.self.inside.machine c.self.inside.opening c.self.inside.scans (entry_values c.self.inside.history.items) (entry_values c.note_and_count.new.history.items) c.me.inside.number (made_values c.me.inside.made.items) (made_values c.note_and_count.new.made.items)
    _ c.self.view_is _ c.me.view_is c.names_noting-names.ensures.reads c.names_noting-names.ensures.refused
    (c.note_and_count.ensures.history ∙ ap (λ es. entry_values es ++ entries_of c.me.inside.number (first_noted c.names_noting-names.result.1)) c.names_noting-names.ensures.history ∙ ap (λ m. entry_values c.self.inside.history.items ++ entries_of c.me.inside.number m) noted)
    (c.note_and_count.ensures.made ∙ ap (λ ms. made_values ms ++ first_noted c.names_noting-names.result.1) c.names_noting-names.ensures.made ∙ ap (λ m. made_values c.me.inside.made.items ++ m) noted)
