use Rattle.std.proofs.Common.{ap, ◌∙◌}
use Rattle.sled_pages.specs.Rows.{rows_of}
use Rattle.sled_pages.proofs.Rebuilding.{lies_there}
use Rattle.sled_pages.proofs.memory.rebuild.take_at.Goals as goal

pub returns-then-is_some-clause-placed : goal.returns-then-is_some-clause-placed
returns-then-is_some-clause-placed c = λ e. ap (λ f. f c.args.place) c.put.ensures.places ∙ lies_there (rows_of c.args.pages.now.blocks.items) c.args.place c.put.result c.put.ensures.was e
