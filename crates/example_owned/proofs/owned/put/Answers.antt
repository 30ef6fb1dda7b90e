use Rattle.std.proofs.Common.{subst, sym}
use Rattle.example_owned.specs.Owned.{IsInsert}
use Rattle.example_owned.specs.Heard.{insert_brings}
use Rattle.example_owned.specs.theory.Owned.{GoesQuietly}
use Rattle.example_owned.proofs.Owning.{put_goes}
use Rattle.example_owned.proofs.owned.put.Goals as goal

pub returns : goal.returns
returns g c = subst (λ b. GoesQuietly g.P.Pages.store g.P.Pages.flush_number g.M.MergeOperator.meant c.args.db.now (IsInsert c.args.tree.now c.args.key.now c.args.value.now b) (insert_brings g.P.Pages.store g.P.Pages.flush_number g.M.MergeOperator.meant c.args.db.now c.args.tree.now c.args.key.now c.args.value.now b) c.insert-inserted.new.self) (sym c.is_ok-is_made.ensures.value) (put_goes g.P.Pages.store g.P.Pages.flush_number g.M.MergeOperator.meant _ _ _ _ _ c.insert-inserted.result c.insert-inserted.ensures.decides c.insert-inserted.ensures.refuses c.insert-inserted.ensures.leaves c.insert-inserted.ensures.steps c.insert-inserted.ensures.stops c.insert-inserted.ensures.gives_up)
