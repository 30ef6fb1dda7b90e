use Rattle.std.proofs.Common.{◌∙◌, [], ◌∷◌, refl}
use Rattle.std.proofs.lemmas.List.{length-map}
use Rattle.machine_shared.specs.Made.{entry_value, entry_values, made_values}
use Rattle.machine_shared.specs.Reads.{OfTree}
use Rattle.machine_shared.specs.UnderLock.{read_made}
use Rattle.machine_shared.specs.declared.read.Read.TheVariants as read
use Rattle.machine_shared.proofs.UnderLocks.{looked}
use Rattle.machine_shared.proofs.ReadMakes.{notes_read, read_state}
use Rattle.machine_shared.proofs.ScanStates.{after_none, no_shorter}
use Rattle.machine_shared.proofs.Scanning.{longer_in_order}
use Rattle.machine_shared.proofs.state.State.read.Goals as goal

pub invariant_of-self : goal.invariant_of-self
invariant_of-self g c =
    let longer = c.answer_noting.ensures.history in
    let after = read_state g.P.Pages.store g.P.Pages.flush_number g.M.MergeOperator.meant c.self.inside.machine c.self.inside.opening
    (entry_values c.self.inside.history.items) (entry_values c.answer_noting.new.history.items) c.self.inside.calls.total c.answer_noting.new.calls.total c.self.invariant.0
    (length-map c.answer_noting.new.history.items entry_value ∙ c.answer_noting.ensures.counted)
    c.me.inside.number (read_made (λ answer. read.Tree c.args.tree.now c.args.question answer) c.answer_noting.result)
    (notes_read g.P.Pages.store g.M.MergeOperator.meant c.self.inside.machine (c.args.tree.now ∷ []) (λ answer. read.Tree c.args.tree.now c.args.question answer) c.answer_noting.result c.answer_noting.ensures.reads)
    longer in (
      after.0,
      longer_in_order c.self.inside.scans.notes c.self.inside.history.items c.answer_noting.new.history.items _ longer c.self.invariant.1,
      after_none g.P.Pages.store g.P.Pages.flush_number g.M.MergeOperator.meant c.self.inside.machine c.self.inside.machine c.self.inside.opening.contents (entry_values c.self.inside.history.items) (entry_values c.answer_noting.new.history.items) c.self.invariant.0.crashes after.0.crashes after.1 (no_shorter _ _ _ longer) c.self.inside.scans c.self.invariant.2 c.audit.ensures.ascend.is refl,
    )

pub returns-clause-looks : goal.returns-clause-looks
returns-clause-looks g c =
    looked g.P.Pages.store g.M.MergeOperator.meant (OfTree c.args.tree.now c.args.question) (λ answer. read.Tree c.args.tree.now c.args.question answer) c.answer_noting.result c.self.inside.machine c.self.inside.opening c.self.inside.scans (entry_values c.self.inside.history.items) (entry_values c.answer_noting.new.history.items) c.me.inside.number (made_values c.me.inside.made.items) (made_values c.answer_noting.new.made.items)
    _ c.self.view_is _ c.me.view_is c.answer_noting.ensures.reads c.answer_noting.ensures.refused c.answer_noting.ensures.history c.answer_noting.ensures.made
