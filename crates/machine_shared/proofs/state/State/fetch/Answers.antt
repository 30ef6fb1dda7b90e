use Rattle.std.proofs.Common.{◌∙◌, ◌++◌, ap}
use Rattle.std.proofs.lemmas.List.{length-map}
use Rattle.machine_shared.specs.Made.{entry_value, entry_values, made_values}
use Rattle.machine_shared.specs.Notes.{entries_of}
use Rattle.machine_shared.specs.theory.Noting.{first_noted}
use Rattle.machine_shared.proofs.Fetching.{fetched_state}
use Rattle.machine_shared.proofs.ScanStates.{after_fetch, no_shorter}
use Rattle.machine_shared.proofs.Scanning.{longer_in_order}
use Rattle.machine_shared.proofs.UnderLocks.{fetched}
use Rattle.machine_shared.proofs.state.State.fetch.Goals as goal

pub invariant_of-self : goal.invariant_of-self
invariant_of-self g c =
    let longer = c.note_and_count.ensures.history ∙ ap (λ es. entry_values es ++ entries_of c.me.inside.number (first_noted c.fetch_noting-fetched.result.1)) c.fetch_noting-fetched.ensures.history in
    let after = fetched_state g.P.Pages.store g.P.Pages.flush_number g.M.MergeOperator.meant c.self.inside.machine c.fetch_noting-fetched.new.machine c.self.inside.opening
    (entry_values c.self.inside.history.items) (entry_values c.note_and_count.new.history.items) c.self.inside.calls.total c.note_and_count.new.calls.total c.self.invariant.0
    (length-map c.note_and_count.new.history.items entry_value ∙ c.note_and_count.ensures.counted)
    c.me.inside.number c.args.tree.now c.args.key.now c.fetch_noting-fetched.result.0 (first_noted c.fetch_noting-fetched.result.1)
    c.fetch_noting-fetched.ensures.ok c.fetch_noting-fetched.ensures.noted c.fetch_noting-fetched.ensures.err c.fetch_noting-fetched.ensures.none
    longer in (
      after.0,
      longer_in_order c.self.inside.scans.notes c.self.inside.history.items c.note_and_count.new.history.items _ longer c.self.invariant.1,
      after_fetch g.P.Pages.store g.P.Pages.flush_number g.M.MergeOperator.meant c.self.inside.machine c.fetch_noting-fetched.new.machine c.self.inside.opening.contents (entry_values c.self.inside.history.items) (entry_values c.note_and_count.new.history.items) c.self.invariant.0.crashes after.0.crashes after.1 (no_shorter _ _ _ longer) c.self.inside.scans c.self.invariant.2 c.audit.ensures.ascend.is
          c.args.tree.now c.args.key.now c.fetch_noting-fetched.result.0 c.fetch_noting-fetched.ensures.ok c.fetch_noting-fetched.ensures.err c.fetch_noting-fetched.ensures.same c.audit-2.ensures.ascend.is,
    )

pub returns-clause-once : goal.returns-clause-once
returns-clause-once g c = fetched g.P.Pages.store g.M.MergeOperator.meant c.self.inside.machine c.fetch_noting-fetched.new.machine c.self.inside.opening c.self.inside.scans (entry_values c.self.inside.history.items) (entry_values c.note_and_count.new.history.items) c.me.inside.number (made_values c.me.inside.made.items) (made_values c.note_and_count.new.made.items)
    c.args.tree.now c.args.key.now c.fetch_noting-fetched.result.0 (first_noted c.fetch_noting-fetched.result.1) _ c.self.view_is _ c.me.view_is c.fetch_noting-fetched.ensures.ok c.fetch_noting-fetched.ensures.err c.fetch_noting-fetched.ensures.cause c.fetch_noting-fetched.ensures.noted c.fetch_noting-fetched.ensures.none c.fetch_noting-fetched.ensures.same
    (c.note_and_count.ensures.history ∙ ap (λ es. entry_values es ++ entries_of c.me.inside.number (first_noted c.fetch_noting-fetched.result.1)) c.fetch_noting-fetched.ensures.history)
    (c.note_and_count.ensures.made ∙ ap (λ ms. made_values ms ++ first_noted c.fetch_noting-fetched.result.1) c.fetch_noting-fetched.ensures.made)
