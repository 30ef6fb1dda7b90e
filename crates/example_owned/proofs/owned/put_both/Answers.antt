use Rattle.std.proofs.Common.{rules, subst, sym}
use Rattle.example_owned.specs.Owned.{IsBoth}
use Rattle.example_owned.specs.Heard.{both_brings}
use Rattle.example_owned.specs.theory.Owned.{GoesQuietly}
use Rattle.example_owned.proofs.Owning.{both_goes}
use Rattle.example_owned.proofs.owned.put_both.Goals as goal

pub returns : goal.returns
returns g c = subst (λ b. GoesQuietly g.P.Pages.store g.P.Pages.flush_number g.M.MergeOperator.meant c.args.db.now (IsBoth c.args.tree.now c.args.one.now c.args.other.now c.args.value.now b) (both_brings g.P.Pages.store g.P.Pages.flush_number g.M.MergeOperator.meant c.args.db.now c.args.tree.now c.args.one.now c.args.other.now c.args.value.now b) c.transaction-ended.new.self) (sym c.is_ok.ensures.value)
    (both_goes g.P.Pages.store g.P.Pages.flush_number g.M.MergeOperator.meant _ _ _ _ _ _ _ _ _ c.law_transaction.ensures (λ shown left answer k. search rules) c.transaction-ended.result c.transaction-ended.ensures.ok c.transaction-ended.ensures.err)
