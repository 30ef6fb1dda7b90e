use Rattle.std.proofs.Common.{rules, ◌≡◌, ◌+◌, refl, ap, ◌∙◌}
use Rattle.std.specs.FinMap.Entries.{put}
use Rattle.sled_nodes.specs.Order.{key_cmp}
use Rattle.sled.proofs.Planting.{opens_used_up, opens_short, short_as, stopped_as, stopped_db_as, new_as, new_db_as}
use Rattle.sled.proofs.db.Db.add_tree.Goals as goal

pub returns-then-self-clause-err : goal.returns-then-self-clause-err
returns-then-self-clause-err g c = opens_used_up g.P.Pages.store g.M.MergeOperator.meant _ c.requires.no_group _ _ refl c.requires.unknown (search rules)

pub returns-in-Err-clause-err : goal.returns-in-Err-clause-err
returns-in-Err-clause-err g c = opens_short g.P.Pages.store g.M.MergeOperator.meant _ c.requires.no_group _ _ c.in-Err.ensures.err

pub returns-in-Err-from_slice-clause-err : goal.returns-in-Err-from_slice-clause-err
returns-in-Err-from_slice-clause-err g c = opens_short g.P.Pages.store g.M.MergeOperator.meant _ c.requires.no_group _ _ c.in-Err-from_slice.ensures.err

pub returns-in-Err-reserve_one-clause-err : goal.returns-in-Err-reserve_one-clause-err
returns-in-Err-reserve_one-clause-err g c = short_as g.P.Pages.store g.M.MergeOperator.meant _ _ c.self.view_is c.requires.no_group _ _ c.in-Err-reserve_one.ensures.err _ c.reserve_one.ensures.same

pub invariant_of-self-in-Err-make_tree : goal.invariant_of-self-in-Err-make_tree
invariant_of-self-in-Err-make_tree g c = stopped_db_as g.P.Pages.store g.M.MergeOperator.meant _ _ c.self.view_is c.requires.no_group _ c.self.invariant c.law_given.ensures c.requires.unknown _ _ c.in-Err-make_tree.ensures.err _ c.reserve_one.ensures.same

pub returns-in-Err-make_tree-clause-err : goal.returns-in-Err-make_tree-clause-err
returns-in-Err-make_tree-clause-err g c = stopped_as g.P.Pages.store g.M.MergeOperator.meant _ _ c.self.view_is c.requires.no_group _ c.self.invariant c.law_given.ensures c.requires.unknown _ _ c.in-Err-make_tree.ensures.err _ c.reserve_one.ensures.same

pub invariant_of-self-2 : goal.invariant_of-self-2
invariant_of-self-2 g c =
    let placed : c.put_tree.new.trees.items ≡ put key_cmp c.args.name.now (c.self.inside.trees_given + 1) c.self.inside.trees.items = c.put_tree.ensures ∙ ap (λ ts. put key_cmp c.in-Ok-from_slice.own (c.self.inside.trees_given + 1) ts) c.reserve_one.ensures.same ∙ ap (λ k. put key_cmp k (c.self.inside.trees_given + 1) c.self.inside.trees.items) c.in-Ok-from_slice.ensures.ok in
    new_db_as g.P.Pages.store g.M.MergeOperator.meant _ _ c.self.view_is c.requires.no_group _ c.self.invariant c.law_given.ensures c.requires.unknown _ c.in_default-make_tree.ensures.ok _ placed

pub returns-clause-ok : goal.returns-clause-ok
returns-clause-ok g c =
    let placed : c.put_tree.new.trees.items ≡ put key_cmp c.args.name.now (c.self.inside.trees_given + 1) c.self.inside.trees.items = c.put_tree.ensures ∙ ap (λ ts. put key_cmp c.in-Ok-from_slice.own (c.self.inside.trees_given + 1) ts) c.reserve_one.ensures.same ∙ ap (λ k. put key_cmp k (c.self.inside.trees_given + 1) c.self.inside.trees.items) c.in-Ok-from_slice.ensures.ok in
    new_as g.P.Pages.store g.M.MergeOperator.meant _ _ c.self.view_is c.requires.no_group _ c.self.invariant c.law_given.ensures c.requires.unknown _ c.in_default-make_tree.ensures.ok _ placed _ c.in-Ok.ensures.ok
