use Rattle.std.proofs.Common.{drop}
use Rattle.sled_model.specs.Collections.{contents_of}
use Rattle.sled.proofs.Importing.{ImportedSoFar}
use Rattle.sled.proofs.db.Db.import_counted.Given as goal

-- the collections so far are in
abbrev pub invariant-loop-collection : goal.invariant-loop-collection
invariant-loop-collection g l = ImportedSoFar g.P.Pages.store g.M.MergeOperator.meant l.fn.self (contents_of l.collections) (contents_of (drop l.collection-index l.collections)) l.count l.self
