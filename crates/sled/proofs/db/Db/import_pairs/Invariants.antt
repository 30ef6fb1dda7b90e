use Rattle.std.proofs.Common.{drop}
use Rattle.sled.proofs.Importing.{PutSoFar}
use Rattle.sled.proofs.db.Db.import_pairs.Given as goal

-- the pairs so far are in
abbrev pub invariant-loop-pair : goal.invariant-loop-pair
invariant-loop-pair g l = PutSoFar g.P.Pages.store g.M.MergeOperator.meant l.fn.self l.tree l.pairs (drop l.pair-index l.pairs) l.count l.self
