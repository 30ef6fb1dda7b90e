use Rattle.std.proofs.Common.{◌∙◌, ◌++◌, ◌∷◌, [], ap}
use Rattle.sled_model.specs.declared.call.Call.TheVariants.{Merge}
use Rattle.machine_shared.specs.Made.{PointMade}
use Rattle.example_shared.proofs.Noting.{adds_one}
use Rattle.example_shared.proofs.counting.add_one.Goals as goal

pub returns-in-Decided-Value-clause-ok : goal.returns-in-Decided-Value-clause-ok
returns-in-Decided-Value-clause-ok g c =
    adds_one c.args.tree.now c.args.key.now c.to_be_bytes.result c.number_at-number.result c.in-Decided-Value.value c.args.handle.now.made c.merge.new.self.made c.number_at-number.ensures c.to_be_bytes.ensures
    (c.in-Decided-Value.ensures.made ∙ ap (λ r. c.args.handle.now.made ++ PointMade c.args.tree.now (Merge c.args.key.now c.to_be_bytes.result) r ∷ []) c.in-Decided-Value.field-0-is)
