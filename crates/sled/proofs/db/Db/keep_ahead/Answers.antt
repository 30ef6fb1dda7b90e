use Rattle.std.proofs.Common.{ℕ, ap, ◌∙◌}
use Rattle.sled_nodes.proofs.Basics.{ok_weaker, err_weaker}
use Rattle.sled_model.specs.declared.outcome.Outcome.TheVariants.{Decided}
use Rattle.sled_model.specs.declared.reply.Reply.TheVariants as told
use Rattle.sled_model.specs.declared.tree.Tree.{Tree}
use Rattle.sled.proofs.Planting.{opens_short}
use Rattle.sled.proofs.db.Db.keep_ahead.Goals as goal

pub returns-in-Err-handle_of-clause-err : goal.returns-in-Err-handle_of-clause-err
returns-in-Err-handle_of-clause-err g c = opens_short g.P.Pages.store g.M.MergeOperator.meant c.args.self.now c.in-Ok.ensures.no_group c.args.name.now _ c.in-Err-handle_of.ensures.err

pub returns-clause-ok : goal.returns-clause-ok
returns-clause-ok g c =
    let number = ap (λ (n : ℕ). record { database = c.args.self.now.name; name = c.args.name.now; number = n }) c.in-Ok.ensures.ok in
    ok_weaker _ _ (λ kept is. is ∙ ap (λ (t : Tree). g.K.Keep.kept (Decided (told.Tree t))) (c.in-Ok-handle_of.ensures.ok ∙ number)) c.of-kept.result c.of-kept.ensures.ok

pub returns-clause-err : goal.returns-clause-err
returns-clause-err g c = err_weaker _ _ (λ e none. opens_short g.P.Pages.store g.M.MergeOperator.meant c.args.self.now c.in-Ok.ensures.no_group c.args.name.now e none.0) c.of-kept.result c.of-kept.ensures.err
