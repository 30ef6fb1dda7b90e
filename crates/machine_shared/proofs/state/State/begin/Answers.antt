use Rattle.std.proofs.Common.{◌≡◌, IfOk, OnErr, length, refl, sym, subst, le_of_eq, arith}
use Rattle.std.proofs.lemmas.List.{length-map}
use Rattle.machine_shared.specs.Made.{entry_value, entry_values}
use Rattle.machine_shared.specs.Scans.{AreInOrder, NotesScan, begun_of, noted_at}
use Rattle.machine_shared.specs.Values.{StateValue}
use Rattle.machine_shared.proofs.Leading.{begin_state}
use Rattle.machine_shared.proofs.ScanStates.{after_begin}
use Rattle.machine_shared.proofs.Scanning.{begun_in_order}
use Rattle.machine_shared.proofs.state.State.begin.Goals as goal

pub returns-clause-scans : goal.returns-clause-scans
returns-clause-scans g c =
    let here : c.len.result ≡ length (entry_values c.self.inside.history.items) = omega (arith, c.len.ensures, c.self.inside.history.ok.0, length-map c.self.inside.history.items entry_value) in
    let noted = c.note_begun.ensures.ok (begun_of c.args.tree.now c.args.call) c.begun-did.ensures.ok c.begun-did.ensures.err in
    subst (λ (s : StateValue _ _). IfOk c.begin-begun.result (λ slot. NotesScan s.scans (noted_at slot (length s.history) (begun_of c.args.tree.now c.args.call)) c.note_begun.new.self)) c.self.view_is
    (subst (λ n. IfOk c.begin-begun.result (λ slot. NotesScan c.self.inside.scans (noted_at slot n (begun_of c.args.tree.now c.args.call)) c.note_begun.new.self)) here noted)

pub returns-clause-same_scans : goal.returns-clause-same_scans
returns-clause-same_scans g c = subst (λ (s : StateValue _ _). OnErr c.begin-begun.result (c.note_begun.new.self ≡ s.scans)) c.self.view_is c.note_begun.ensures.err

pub invariant_of-self : goal.invariant_of-self
invariant_of-self g c =
    let here : c.len.result ≡ length c.self.inside.history.items = omega (arith, c.len.ensures, c.self.inside.history.ok.0) in
    let here_too : c.len.result ≡ length (entry_values c.self.inside.history.items) = omega (arith, c.len.ensures, c.self.inside.history.ok.0, length-map c.self.inside.history.items entry_value) in
    let noted = c.note_begun.ensures.ok (begun_of c.args.tree.now c.args.call) c.begun-did.ensures.ok c.begun-did.ensures.err in
    let after = begin_state g.P.Pages.store g.P.Pages.flush_number g.M.MergeOperator.meant c.self.inside.machine c.begin-begun.new.self c.self.inside.opening _ _ _ _ c.begin-begun.result c.begin-begun.ensures.ok c.begin-begun.ensures.err c.self.invariant.0 in (
      after.0,
      subst (λ n. AreInOrder 0 c.note_begun.new.self.notes n) here
          (begun_in_order c.begin-begun.result c.self.inside.scans c.note_begun.new.self c.len.result (begun_of c.args.tree.now c.args.call) noted c.note_begun.ensures.err
          (subst (λ n. AreInOrder 0 c.self.inside.scans.notes n) (sym here) c.self.invariant.1)),
      after_begin g.P.Pages.store g.P.Pages.flush_number g.M.MergeOperator.meant c.self.inside.machine c.begin-begun.new.self c.self.inside.opening.contents (entry_values c.self.inside.history.items) (entry_values c.self.inside.history.items) c.self.invariant.0.crashes after.0.crashes after.1 (le_of_eq refl) c.self.inside.scans c.self.invariant.2 c.audit.ensures.ascend.is
          c.args.tree.now c.args.call c.begin-begun.result c.note_begun.new.self c.begin-begun.ensures.ok c.begin-begun.ensures.err
          (subst (λ n. IfOk c.begin-begun.result (λ slot. NotesScan c.self.inside.scans (noted_at slot n (begun_of c.args.tree.now c.args.call)) c.note_begun.new.self)) here_too noted) c.note_begun.ensures.err,
    )
