use Rattle.std.proofs.Common.{refl, sym, ◌∙◌}
use Rattle.sled_tree.proofs.Merges.{merge_read}
use Rattle.sled_tree.proofs.merge.seek.Goals as goal

pub returns-in-Ok-Some-clause-moves : goal.returns-in-Ok-Some-clause-moves
returns-in-Ok-Some-clause-moves g c = merge_read _ _ _ _ _ _ refl (sym c.in-Ok-Some.field-0-is ∙ c.in-Ok-Some.ensures.ok) c.at_cursor.ensures.looks
