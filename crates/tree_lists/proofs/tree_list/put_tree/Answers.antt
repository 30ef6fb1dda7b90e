use Rattle.std.proofs.Common.{rules, ◌≡◌, sym, ◌∙◌}
use Rattle.std.specs.List.{insert}
use Rattle.sled_nodes.proofs.Basics.{none_some}
use Rattle.sled_nodes.specs.Order.{key_cmp}
use Rattle.sled_nodes.specs.theory.Rising.{IsHit, IsGap}
use Rattle.sled_nodes.proofs.Rising.{hit_found, gap_goes}
use Rattle.tree_lists.proofs.tree_list.put_tree.Goals as goal

pub unreachable-requires : goal.unreachable-requires
unreachable-requires c =
    let hit : IsHit key_cmp c.args.name c.args.trees.now.items c.in-Ok.field-0 = search rules in
    none_some (sym c.requires.unknown ∙ hit_found key_cmp c.args.name c.args.trees.now.items c.in-Ok.field-0 (c.args.name, c.args.number) hit)

pub returns : goal.returns
returns c =
    let gap : IsGap key_cmp c.args.name c.args.trees.now.items c.in-Err.i = search rules in
    let put_in : c.insert.new.self.items ≡ insert c.args.trees.now.items c.in-Err.i (c.args.name, c.args.number) = search rules in
    put_in ∙ (gap_goes key_cmp c.args.name c.args.trees.now.items c.in-Err.i gap).put_is c.args.number
