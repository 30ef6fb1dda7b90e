use Rattle.std.proofs.Common.{refl}
use Rattle.sled.proofs.Conducting.{tree_untested, plain_short}
use Rattle.sled.proofs.Fetching.{swap_replies}
use Rattle.sled.proofs.Promising.{refused, swaps}
use Rattle.sled.proofs.db.Db.compare_and_swap.Goals as goal

pub returns-in-Err : goal.returns-in-Err
returns-in-Err g c = refused g.P.Pages.store g.M.MergeOperator.meant _ _ _ _ refl _ _ (tree_untested g.P.Pages.store g.M.MergeOperator.meant _ _ _ _ c.in-Err.ensures.err)

pub returns-in-Err-compare_and_swap : goal.returns-in-Err-compare_and_swap
returns-in-Err-compare_and_swap g c = refused g.P.Pages.store g.M.MergeOperator.meant _ _ _ _ refl _ _ (plain_short g.P.Pages.store g.M.MergeOperator.meant _ _ _ _ refl c.in_default.ensures.ok c.in-Err-compare_and_swap.ensures.err)

pub swap_told-requires : goal.swap_told-requires
swap_told-requires g c = swap_replies g.P.Pages.store g.M.MergeOperator.meant _ _ _ _ _ _ _ _ c.in-Ok.ensures.ok c.in-Ok-make.ensures.ok

pub returns-in-Ok-make : goal.returns-in-Ok-make
returns-in-Ok-make g c = swaps g.P.Pages.store g.M.MergeOperator.meant _ _ _ _ _ c.in-Ok-make.ensures.ok _ _ _ c.in-Ok.ensures.ok _ c.swap_told.ensures

pub returns-in-Err-make : goal.returns-in-Err-make
returns-in-Err-make g c = refused g.P.Pages.store g.M.MergeOperator.meant _ _ _ _ c.in-Ok.ensures.ok _ _ c.in-Err-make.ensures.err
