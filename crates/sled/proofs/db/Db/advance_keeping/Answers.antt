use Rattle.tree_steps.proofs.Unkept.{unkept_refused}
use Rattle.sled.proofs.Flying.{flies_untested}
use Rattle.sled.proofs.db.Db.advance_keeping.Goals as goal

pub returns-in-Err : goal.returns-in-Err
returns-in-Err g c = let f = flies_untested g.P.Pages.store g.M.MergeOperator.meant _ _ _ _ c.in-Err.ensures.err in record { step = f.step; sound = f.sound; does = f.does; follows = f.follows; passes = f.passes; loses = f.loses; leaves = f.leaves; knows = f.knows; kept = c.nothing.ensures _ (unkept_refused _ _) }

pub returns : goal.returns
returns g c = let f = c.advance_tested.ensures.steps in record { step = f.step; sound = f.sound; does = f.does; follows = f.follows; passes = f.passes; loses = f.loses; leaves = f.leaves; knows = f.knows; kept = c.advance_tested.ensures.kept }
