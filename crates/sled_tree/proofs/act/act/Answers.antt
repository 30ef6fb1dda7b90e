use Rattle.std.specs.Option.{option_map}
use Rattle.sled_tree.proofs.Linking.{leaf_of, unprepared, unchanged}
use Rattle.sled_tree.proofs.act.act.Goals as goal

pub returns-in-Err : goal.returns-in-Err
returns-in-Err g c =
    let leaf = leaf_of c.args.flight.now.stage c.requires.here in
    unprepared _ _ _ leaf.0 leaf.1 _ _ c.in-Err.ensures.err

pub returns-in-Ok-None : goal.returns-in-Ok-None
returns-in-Ok-None g c =
    let leaf = leaf_of c.args.flight.now.stage c.requires.here in
    rw c.begin_again.ensures (unchanged _ _ _ leaf.0 leaf.1 (rw c.in-Ok-None.field-0-is at (c.in-Ok-None.ensures.ok.is leaf.0 leaf.1)))

pub returns-in-Ok-Some : goal.returns-in-Ok-Some
returns-in-Ok-Some g c = c.link_change.ensures.is (option_map (λ o. g.M.MergeOperator.meant o.now) c.args.operator) (rw c.in-Ok-Some.field-0-is at c.in-Ok-Some.ensures.ok)
