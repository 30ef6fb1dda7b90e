use Rattle.std.proofs.Common.{rules, ◌≡◌, false, Some, Err, subst}
use Rattle.sled_store.specs.Store.{now}
use Rattle.sled.specs.Sound.{IsDb}
use Rattle.sled.specs.Values.{numbers_of}
use Rattle.sled.proofs.Planting.{opens_closed, all_known, all_short}
use Rattle.sled.proofs.Mapping.{opens_all}
use Rattle.sled.proofs.Keeping.{opened_refuses, opened_leaves}
use Rattle.sled.proofs.db.Db.open_tree.Goals as goal

pub returns-then-in_group-clause-err : goal.returns-then-in_group-clause-err
returns-then-in_group-clause-err g c = opens_closed g.P.Pages.store g.M.MergeOperator.meant c.args.self.now c.args.name.now (search rules)

pub returns-in-Some-clause-ok : goal.returns-in-Some-clause-ok
returns-in-Some-clause-ok g c =
    let no_group : (now (g.P.Pages.store c.args.self.now.pages)).in_group ≡ false = search rules in
    let known : numbers_of c.args.self.now.trees c.args.name.now ≡ Some c.in-Some.number = search rules in
    all_known g.P.Pages.store g.M.MergeOperator.meant c.args.self.now no_group c.args.name.now (subst (λ z. IsDb g.P.Pages.store z) c.self.view_is c.self.invariant) c.in-Some.number known c.handle_of.result c.handle_of.ensures.ok

pub returns-in-Some-clause-err : goal.returns-in-Some-clause-err
returns-in-Some-clause-err g c =
    let no_group : (now (g.P.Pages.store c.args.self.now.pages)).in_group ≡ false = search rules in
    all_short g.P.Pages.store g.M.MergeOperator.meant c.args.self.now no_group c.args.name.now c.handle_of.result c.handle_of.ensures.err

pub returns-in-Some-clause-changes : goal.returns-in-Some-clause-changes
returns-in-Some-clause-changes g c = opens_all g.P.Pages.store g.M.MergeOperator.meant _ _ _ c.handle_of.result (returns-in-Some-clause-ok g c)

pub returns-in-None-clause-changes : goal.returns-in-None-clause-changes
returns-in-None-clause-changes g c = opens_all g.P.Pages.store g.M.MergeOperator.meant _ _ _ c.add_tree.result c.add_tree.ensures.ok

pub returns-then-in_group-clause-refuses : goal.returns-then-in_group-clause-refuses
returns-then-in_group-clause-refuses g c = opened_refuses g.P.Pages.store g.M.MergeOperator.meant _ _ _ (Err _) (returns-then-in_group-clause-err g c)

pub returns-then-in_group-clause-leaves : goal.returns-then-in_group-clause-leaves
returns-then-in_group-clause-leaves g c = opened_leaves g.P.Pages.store g.M.MergeOperator.meant _ _ _ (Err _) tt (returns-then-in_group-clause-err g c)

pub returns-in-Some-clause-refuses : goal.returns-in-Some-clause-refuses
returns-in-Some-clause-refuses g c = opened_refuses g.P.Pages.store g.M.MergeOperator.meant _ _ _ c.handle_of.result (returns-in-Some-clause-err g c)

pub returns-in-Some-clause-leaves : goal.returns-in-Some-clause-leaves
returns-in-Some-clause-leaves g c = opened_leaves g.P.Pages.store g.M.MergeOperator.meant _ _ _ c.handle_of.result (returns-in-Some-clause-ok g c) (returns-in-Some-clause-err g c)

pub returns-in-None-clause-refuses : goal.returns-in-None-clause-refuses
returns-in-None-clause-refuses g c = opened_refuses g.P.Pages.store g.M.MergeOperator.meant _ _ _ c.add_tree.result c.add_tree.ensures.err

pub returns-in-None-clause-leaves : goal.returns-in-None-clause-leaves
returns-in-None-clause-leaves g c = opened_leaves g.P.Pages.store g.M.MergeOperator.meant _ _ _ c.add_tree.result c.add_tree.ensures.ok c.add_tree.ensures.err
